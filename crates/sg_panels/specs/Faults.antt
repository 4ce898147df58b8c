-- Why a painting is given up.
use Rattle.std.specs.Prelude.{Bool, true, false, Result, Ok, Err}
use Rattle.sg_panels.specs.declared.paint.PaintFault.{PaintFault}
use Rattle.sg_panels.specs.declared.paint.PaintFault.TheVariants.{Disk, Write}

abbrev pub is_disk_fault : {A : Type 0} → Result A PaintFault → Bool
is_disk_fault (Ok a) = false
is_disk_fault (Err Disk) = true
is_disk_fault (Err Write) = false

abbrev pub is_write_fault : {A : Type 0} → Result A PaintFault → Bool
is_write_fault (Ok a) = false
is_write_fault (Err Disk) = false
is_write_fault (Err Write) = true
