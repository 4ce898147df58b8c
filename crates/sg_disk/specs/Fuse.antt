-- The stop that a disk in memory tells.
use Rattle.std.specs.Prelude.{ℕ, Option, None, Some}
use Rattle.sg_disk.specs.declared.fuses.Fuse.{Fuse}
use Rattle.sg_disk.specs.declared.fuses.Fuse.TheVariants.{Idle, Crash, Crashed, Fault}

-- how many calls still pass, where that is told
abbrev pub stop_of : Fuse → Option ℕ
stop_of Idle = None
stop_of (Crash k) = Some k
stop_of Crashed = Some 0
stop_of (Fault k) = Some k
