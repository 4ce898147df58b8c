-- What a refused opening leaves of the disk.
use Rattle.sg_disk.specs.View.{View}
use Rattle.sg_disk.specs.Runs.{Ran, Broke}
use Rattle.sg_slots.specs.declared.fault.OpenFault.{OpenFault}
use Rattle.sg_slots.specs.declared.fault.OpenFault.TheVariants.{Unformatted, Damaged, Disk, Memory}

-- a disk that failed, or one of which every call has passed
abbrev pub EndedBy : OpenFault → View → View → Type 0
EndedBy Unformatted old new = Ran 0 old new
EndedBy (Damaged place found) old new = Ran 0 old new
EndedBy Disk old new = Broke old new
EndedBy Memory old new = Ran 0 old new
