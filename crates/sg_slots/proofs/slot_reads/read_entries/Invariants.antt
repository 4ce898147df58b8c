use Rattle.std.proofs.Common.{◌+◌}
use Rattle.sg_disk.specs.declared.places.TheConstants.{TABLE}
use Rattle.sg_slots.specs.Slots.{slot_place}
use Rattle.sg_slots.proofs.SlotLemmas.{Reads}
use Rattle.sg_slots.proofs.slot_reads.read_entries.Given as goal

abbrev pub invariant-loop-i : goal.invariant-loop-i
invariant-loop-i l = Reads l.room (slot_place l.slot + TABLE) l.count l.table l.i l.before l.files
