use Rattle.std.proofs.Common.{◌+◌}
use Rattle.sg_disk.specs.declared.places.TheConstants.{TABLE}
use Rattle.sg_slots.specs.Slots.{slot_place}
use Rattle.sg_paged_slots.proofs.FileLemmas.{ReadsFiles}
use Rattle.sg_paged_slots.proofs.tables.read_files.Given as goal

abbrev pub invariant-loop-i : goal.invariant-loop-i
invariant-loop-i l = ReadsFiles l.room (slot_place l.slot + TABLE) l.count l.table l.i l.before l.pages l.files
