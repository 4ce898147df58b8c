use Rattle.std.proofs.Common.{◌≤◌, ◌≡◌, ℕ, subst, sym}
use Rattle.std.specs.Prelude.{IsSomeAnd, slice_get}
use Rattle.sg_base.specs.declared.file.Listed.{Listed}
use Rattle.sg_missing.specs.Missing.{Holding, holding, missing}
use Rattle.sg_missing.proofs.WantedLemmas.{first_entry, first_has, none_missing}
use Rattle.sg_missing.proofs.wanted.next_piece.Goals as goal

pub staged_of-at-requires-clause-some : goal.staged_of-at-requires-clause-some
staged_of-at-requires-clause-some g c =
    first_has (λ (f : Listed). 1 ≤ f.length) (g.S.Staging.holds c.args.store.now) c.args.files.now c.in-Some.file c.requires.files.some (sym c.in-Some.ensures)

pub returns-in-Some-clause-first : goal.returns-in-Some-clause-first
returns-in-Some-clause-first g c =
    let here : Holding = holding (g.S.Staging.holds c.args.store.now) (g.S.Staging.part c.args.store.now) in
    record {
      file = sym c.in-Some.ensures;
      begins = c.staged_of-at.ensures.value;
      ends = c.piece_count.ensures.end;
      some = c.piece_count.ensures.some;
      first = subst (λ (at : ℕ). IsSomeAnd (slice_get (missing here c.args.files.now) 0) (λ (entry : ℕ × ℕ). entry ≡ (c.in-Some.file.media.0, at)))
          (sym c.staged_of-at.ensures.value) (first_entry here c.args.files.now c.in-Some.file (sym c.in-Some.ensures));
    }

pub returns-in-None-clause-none : goal.returns-in-None-clause-none
returns-in-None-clause-none g c =
    none_missing (holding (g.S.Staging.holds c.args.store.now) (g.S.Staging.part c.args.store.now)) c.args.files.now (sym c.in-None.ensures)
