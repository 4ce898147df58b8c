-- What a store keeps in memory.
use Rattle.std.specs.Prelude.{ℕ, ◌≤◌, List, Bool}
use Rattle.sg_base.specs.declared.file.Listed.{Listed}
use Rattle.sg_base.specs.declared.limits.TheConstants.{MANIFEST_TEXT}
use Rattle.sg_disk.specs.Contents.{IsRoom}
use Rattle.sg_placing.specs.Placing.{AreAscending}
use Rattle.sg_pages.specs.Shelves.{FileAt, Shelved}
use Rattle.sg_slots.specs.declared.slots.Slot.{Slot}
use Rattle.sg_staging.specs.Staged.{Staged, whole_files, is_among, IsStagedIn}

pub record State : Type 0 where
  pub display : ℕ
  pub epoch : ℕ
  pub room : ℕ  -- the length of the data area
  pub number : ℕ  -- the switch number, 0 without a snapshot
  pub text : ℕ  -- the length of the manifest's text
  -- the slot that the next switch writes, and whether its gate stands open
  pub spare : Slot
  pub spare_open : Bool
  -- the files of the snapshot by id, and what is staged beside them
  pub current : Shelved
  pub staged : Staged

-- the files whose bytes are whole, where they stand: those of the snapshot, and those that are staged and sealed
abbrev pub whole_stands : State → List FileAt
whole_stands s = whole_files s.current s.staged

-- the current snapshot, or what is sealed, has a file of this id, length and MD5
abbrev pub is_held : State → Listed → Bool
is_held s listed = is_among s.current s.staged listed

-- what is so of a store, whatever disk it is
pub record IsKept (room text : ℕ) (current : Shelved) (staged : Staged) : Type 0 where
  pub whole : IsRoom room
  pub short : text ≤ MANIFEST_TEXT
  pub ascending : AreAscending current.files
  pub placed : IsStagedIn room current staged
