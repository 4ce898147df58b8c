use Rattle.std.proofs.Common.{◌≡◌, ◌+◌, ◌*◌, [], take, drop}
use Rattle.sg_disk.specs.declared.places.TheConstants.{ENTRY_LEN, TABLE}
use Rattle.sg_slots.specs.Slots.{slot_place}
use Rattle.sg_slots.specs.Damage.{overlap_damage}
use Rattle.sg_slots.proofs.overlaps.check_apart.Given as goal

abbrev pub invariant-loop-i : goal.invariant-loop-i
invariant-loop-i l = overlap_damage (slot_place l.slot + TABLE) [] l.files ≡ overlap_damage (slot_place l.slot + TABLE + ENTRY_LEN * l.i) (take l.i l.files) (drop l.i l.files)
