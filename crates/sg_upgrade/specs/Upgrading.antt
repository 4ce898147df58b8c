-- What a crash inside an upgrade may leave of a disk.
use Rattle.std.specs.Prelude.{◌≡◌, ◌⊎◌, ℕ, ◌+◌, ◌-◌, ◌≤◌, List, length, codes}
use Rattle.sg_disk.specs.View.{View, range}
use Rattle.sg_disk.specs.declared.places.TheConstants.{DATA}
use Rattle.sg_slots.specs.Bytes.{AreZeros}
use Rattle.sg_upgrade.specs.declared.places.TheConstants.{WHOLE, SECOND_MARK}

-- every disk that a crash may leave has the whole data area
abbrev pub AreLong : ℕ → View → Type 0
AreLong room v = (c : List ℕ) → v.images c → DATA + room ≤ length c

-- It is a disk of the old format still: the length may be the old or the new one, and anything may stand at the second mark
-- and behind the data area, where the old format reads nothing
pub record IsOldStill (room : ℕ) (old new : List ℕ) : Type 0 where
  pub size : (length new ≡ length old) ⊎ (length new ≡ WHOLE + room)
  pub front : range new 0 SECOND_MARK ≡ range old 0 SECOND_MARK
  pub rest : range new (SECOND_MARK + 8) (DATA + room - (SECOND_MARK + 8))
      ≡ range old (SECOND_MARK + 8) (DATA + room - (SECOND_MARK + 8))

-- It is one of the new format, whatever its version byte is: the second mark stands, and the maps and the seals are zeros.
-- Nothing else of what the old format reads has changed
pub record IsNewBut (room : ℕ) (old new : List ℕ) : Type 0 where
  pub size : length new ≡ WHOLE + room
  pub gate : range new 0 4 ≡ range old 0 4
  pub front : range new 5 (SECOND_MARK - 5) ≡ range old 5 (SECOND_MARK - 5)
  pub mark : range new SECOND_MARK 8 ≡ codes "SGNSTOR2"
  pub rest : range new (SECOND_MARK + 8) (DATA + room - (SECOND_MARK + 8))
      ≡ range old (SECOND_MARK + 8) (DATA + room - (SECOND_MARK + 8))
  pub zeros : AreZeros (DATA + room) (WHOLE - DATA) new

-- one or the other
abbrev pub IsUpgrading : ℕ → List ℕ → List ℕ → Type 0
IsUpgrading room old new = IsOldStill room old new ⊎ IsNewBut room old new
