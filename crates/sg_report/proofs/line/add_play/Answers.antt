use Rattle.std.proofs.Common.{◌≡◌, ◌∙◌, ℕ, ap, sym, Some, None}
use Rattle.sg_base.specs.Ranks.{rank_of}
use Rattle.sg_base.specs.Rising.{found}
use Rattle.sg_base.proofs.RisingLemmas.{rank_found}
use Rattle.sg_report.specs.declared.line.Line.{Line}
use Rattle.sg_report.specs.Lines.{pair_of}
use Rattle.sg_report.proofs.line.add_play.Goals as goal

-- the line takes the place of the one that was found
pub replace-requires : goal.replace-requires
replace-requires c none =
    let lines = c.args.lines.now.items in
    let at : ℕ = rank_of c.pair_rank.result in
    let is : found pair_of at lines ≡ Some c.in-Some.line.now = sym c.in-Some.ensures.element in
    let same : pair_of c.with-more.result ≡ at = ap (λ (l : Line). pair_of l) c.with-more.ensures ∙ rank_found pair_of at lines c.in-Some.line.now is in
    let there : found pair_of (pair_of c.with-more.result) lines ≡ Some c.in-Some.line.now = ap (λ (n : ℕ). found pair_of n lines) same ∙ is in
    let bad : Some c.in-Some.line.now ≡ None = sym there ∙ none in
    cc
