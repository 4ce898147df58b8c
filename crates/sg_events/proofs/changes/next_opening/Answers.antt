use Rattle.std.proofs.Common.{◌≡◌, to_z, of_z, w64, arith}
use Rattle.jiff_core.proofs.SignedLemmas.{signed_arith, signed_casts}
use Rattle.sg_events.proofs.EdgeLemmas.{opening_first, opening_none}
use Rattle.sg_events.proofs.changes.next_opening.Goals as goal

pub returns-in-Some : goal.returns-in-Some
returns-in-Some c =
    let e = c.args.event.now in
    let date : to_z w64 (of_z w64 c.args.date) ≡ c.args.date = omega (arith, signed_casts) in
    let h = rw date at c.in-Some.ensures in
    let next : to_z w64 (of_z w64 c.in-Some.next) ≡ c.in-Some.next = omega (arith, signed_casts, h.after, h.within) in
    rw (c.window.ensures.from, next) (opening_first e.when e.repeat c.args.daypart.now c.args.date c.in-Some.next c.window.ensures.valid h)

pub returns-in-None : goal.returns-in-None
returns-in-None c =
    let e = c.args.event.now in
    let date : to_z w64 (of_z w64 c.args.date) ≡ c.args.date = omega (arith, signed_casts) in
    rw c.end.ensures (opening_none e.when e.repeat c.args.daypart.now c.args.date (omega (arith, signed_arith)) (rw date at c.in-None.ensures))
