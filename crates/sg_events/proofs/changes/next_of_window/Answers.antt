use Rattle.std.proofs.Common.{◌<ℤ◌, ◌≤ℤ◌, arith}
use Rattle.std.proofs.lemmas.Int.{ints}
use Rattle.sg_events.proofs.EdgeLemmas.{window_opening, window_closing}
use Rattle.sg_events.proofs.changes.next_of_window.Goals as goal

pub returns-then-second : goal.returns-then-second
returns-then-second c =
    let a = c.args in
    let before : a.t <ℤ a.opens = grind (arith, ints) in
    window_opening a.opens a.closes a.t c.requires.order c.requires.second.high before _ (rw c.end.ensures at c.sooner.ensures)

pub returns-then-second-2 : goal.returns-then-second-2
returns-then-second-2 c =
    let a = c.args in
    let begun : a.opens ≤ℤ a.t = grind (arith, ints) in
    let before : a.t <ℤ a.closes = grind (arith, ints) in
    window_closing a.opens a.closes a.t c.requires.order c.requires.second.high begun before _ (rw c.end-then-second-2.ensures at c.sooner-then-second-2.ensures)
