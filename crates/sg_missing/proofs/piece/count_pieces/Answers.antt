use Rattle.std.proofs.Common.{◌≡◌, ◌∙◌, ◌+◌, ◌-◌, ◌/◌, ◌%◌, min, ℕ, ap, sym, arith}
use Rattle.sg_base.specs.declared.limits.TheConstants.{PIECE_LEN}
use Rattle.sg_missing.proofs.PieceLemmas.{length-missing_from}
use Rattle.sg_missing.proofs.piece.count_pieces.Goals as goal

ceiling : (n : ℕ) → n / PIECE_LEN + min 1 (n % PIECE_LEN) ≡ (n + (PIECE_LEN - 1)) / PIECE_LEN
ceiling n = omega arith

pub returns-clause-count : goal.returns-clause-count
returns-clause-count c =
    ap (λ (n : ℕ). n - c.args.here / PIECE_LEN) (c.div_ceil.ensures ∙ ceiling c.args.size) ∙ sym (length-missing_from c.args.here c.args.size c.requires)
