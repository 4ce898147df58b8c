use Rattle.std.proofs.Common.{◌+◌, sym, get_or}
use Rattle.std.proofs.lemmas.List.{get_or_default}
use Rattle.sg_disk.specs.declared.places.TheConstants.{TABLE}
use Rattle.sg_placing.proofs.GapLemmas.{nowhere}
use Rattle.sg_slots.specs.Slots.{slot_place}
use Rattle.sg_slots.proofs.OverlapLemmas.{overlap_more}
use Rattle.sg_slots.proofs.overlaps.check_apart.Goals as goal

pub loop-i-preserved : goal.loop-i-preserved
loop-i-preserved c =
    let p = get_or c.args.files.now c.loop-i.i nowhere in
    overlap_more (slot_place c.args.slot + TABLE) c.loop-i.i c.args.files.now p c.loop-i-test.true (get_or_default c.args.files.now c.loop-i.i nowhere p c.loop-i-test.true) (sym c.if-not-is_apart.ensures) c.loop-i.invariant
