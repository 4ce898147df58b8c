use Rattle.std.proofs.Common.{◌≡◌, sym, ◌∙◌, to_z, of_z, w64, arith}
use Rattle.jiff_core.proofs.SignedLemmas.{signed_casts}
use Rattle.sg_events.proofs.EdgeLemmas.{opens_first, date_first}
use Rattle.sg_events.proofs.changes.next_of_date.Goals as goal

pub next_of_window-requires-clause-order : goal.next_of_window-requires-clause-order
next_of_window-requires-clause-order c =
    let w = c.window-opens.ensures in
    rw (w.from, w.to) (opens_first c.args.daypart.now (to_z w64 (of_z w64 c.args.date)) w.valid)

pub returns-then-on_date-clause-next : goal.returns-then-on_date-clause-next
returns-then-on_date-clause-next c =
    let a = c.args in
    let date : to_z w64 (of_z w64 a.date) ≡ a.date = omega (arith, signed_casts) in
    let w = c.window-opens in
    date_first a.event.now.when a.event.now.repeat a.daypart.now a.date a.t w.result.0 w.result.1 _ (rw date at w.ensures.from) (rw date at w.ensures.to) (rw date at (sym c.on_date.ensures ∙ c.if-on_date.true)) c.next_of_window.ensures
