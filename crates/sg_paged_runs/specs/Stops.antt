-- How a refusal of the store ends a run.
use Rattle.std.specs.Prelude.{◌≡◌, ◌-◌, ◌^◌, ◌<◌, length, None}
use Rattle.sg_staging.specs.Staged.{free_beside}
use Rattle.sg_store_state.specs.State.{State}
use Rattle.sg_slots.specs.declared.fault.OpenFault.{OpenFault}
use Rattle.sg_slots.specs.declared.fault.OpenFault.TheVariants as open_fault
use Rattle.sg_paged_store.specs.declared.faults.SwitchFault.{SwitchFault}
use Rattle.sg_paged_store.specs.declared.faults.SwitchFault.TheVariants as switch_fault
use Rattle.sg_paged_runs.specs.declared.stop.Stop.{Stop}
use Rattle.sg_paged_runs.specs.declared.stop.Stop.TheVariants.{Unlawful, NoSpace, DigestDiffers, Spent, Disk, Unformatted, Damaged, Memory}

-- where an opening is refused
abbrev pub stop_of_open : OpenFault → Stop
stop_of_open open_fault.Unformatted = Unformatted
stop_of_open (open_fault.Damaged place found) = Damaged place found
stop_of_open open_fault.Disk = Disk
stop_of_open open_fault.Memory = Memory

-- where a switch is
abbrev pub stop_of_switch : SwitchFault → Stop
stop_of_switch switch_fault.Spent = Spent
stop_of_switch switch_fault.Disk = Disk

-- a stop that says of the disk that it holds no store, or a damaged one
abbrev pub BlamesDisk : Stop → Type 0
BlamesDisk Unlawful = ⊥
BlamesDisk (NoSpace fault) = ⊥
BlamesDisk (DigestDiffers fault) = ⊥
BlamesDisk Spent = ⊥
BlamesDisk Disk = ⊥
BlamesDisk Unformatted = Unit {0}
BlamesDisk (Damaged place found) = Unit {0}
BlamesDisk Memory = ⊥

-- What a stop tells of the store as it is then: fewer pages are free than were needed, nothing is half staged, or the
-- switch numbers are used up. The others tell nothing of it
abbrev pub Tells : State → Stop → Type 0
Tells s Unlawful = Unit {0}
Tells s (NoSpace fault) = (fault.free ≡ length (free_beside s.room s.current s.staged))
    × (fault.free < fault.need)
Tells s (DigestDiffers fault) = s.staged.half ≡ None
Tells s Spent = s.number ≡ 2 ^ 32 - 1
Tells s Disk = Unit {0}
Tells s Unformatted = Unit {0}
Tells s (Damaged place found) = Unit {0}
Tells s Memory = Unit {0}
