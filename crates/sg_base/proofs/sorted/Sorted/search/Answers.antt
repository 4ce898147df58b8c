use Rattle.std.proofs.Common.{◌≤◌, length, get_or, ap, sym, ◌∙◌, arith}
use Rattle.std.proofs.lemmas.Bool.{ltb-true}
use Rattle.sg_base.proofs.RisingLemmas.{missing_at, missing_over}
use Rattle.sg_base.proofs.sorted.Sorted.search.Goals as goal
use Rattle.sg_base.proofs.sorted.Sorted.search.Goals.{else-index-len-via-then-index-len+else-not-is_below, else-index-len-via-else-index-len}

pub returns-else-index-len-clause-missing : goal.returns-else-index-len-clause-missing
returns-else-index-len-clause-missing g c =
    let rank = g.T.Ranked.rank in
    let first = c.first_from-index.ensures in
    let here = ap (λ v. v.items) c.self.view_is in (
      first.index,
      elim c.else-index-len.branch [
        | else-index-len-via-then-index-len+else-not-is_below w ↦
            let x = w.index.result.now in
            let at = w.index.ensures ∙ ap (λ xs. get_or xs c.first_from-index.result x) here in
            let less = rw w.rank.ensures at (ltb-true _ _ (sym w.is_below.ensures ∙ w.if-not-is_below.false)) in
            missing_over rank _ _ _ x first.rising first.index at less
        | else-index-len-via-else-index-len w ↦
            let end : length c.args.self.now.items ≤ c.first_from-index.result = rw (← here) (omega arith) in
            missing_at rank _ _ _ first.rising first.index (λ d l e. omega arith)
      ],
    )
