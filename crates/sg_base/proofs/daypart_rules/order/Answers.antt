-- The key that the closure answers is the day's number, so the sort's order is that of the days.
use Rattle.std.proofs.Common.{ℕ, rules}
use Rattle.std.proofs.lemmas.List.Sorted.{IsNonDecreasingBy-from_sort, answers_always}
use Rattle.sg_base.specs.declared.daypart.Window.{Window}
use Rattle.sg_base.proofs.daypart_rules.order.Goals as goal

pub returns-clause-rising : goal.returns-clause-rising
returns-clause-rising g c =
    let number : g.row.D.Denot × Window → ℕ = λ e. g.D.Day.number e.0 in
    IsNonDecreasingBy-from_sort number c.sort_unstable_by_key.new.self.items (c.sort_unstable_by_key.ensures.sorted number (answers_always _ _ _ (λ f a r h k. search rules)))
