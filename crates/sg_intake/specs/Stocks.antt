-- What bytes that come make of a store.
use Rattle.std.specs.Prelude.{◌≡◌, ◌≢◌, ℕ, ◌+◌, Bool, ◌||◌, List, [], ◌++◌, None, Some, length, if◌then◌else◌}
use Rattle.std.specs.declared.option.Option.{Option}
use Rattle.md5.specs.Md5.{md5}
use Rattle.sg_base.specs.declared.file.Listed.{Listed}
use Rattle.sg_placing.specs.Placing.{same_file, is_listed}
use Rattle.sg_missing.specs.Missing.{Holding, holding, staged_of}

-- what is held of files, and which bytes have come of the one of which a part is staged
pub record Stock : Type 1 where
  pub here : Holding
  pub came : List ℕ → Type 0

abbrev pub stock : (Listed → Bool) → Option (Listed × ℕ) → (List ℕ → Type 0) → Stock
stock holds part came = record { here = holding holds part; came = came }

-- these bytes have come of what is staged in part; where nothing is, none have
abbrev pub CameOf : Option (Listed × ℕ) → (List ℕ → Type 0) → List ℕ → Type 0
CameOf None came bytes = bytes ≡ []
CameOf (Some part) came bytes = came bytes

abbrev pub HasCome : Stock → List ℕ → Type 0
HasCome s bytes = CameOf s.here.part s.came bytes

-- nothing changed
pub record Stays (old new : Stock) : Type 0 where
  pub holds : (f : Listed) → new.here.holds f ≡ old.here.holds f
  pub part : new.here.part ≡ old.here.part
  pub came : (bytes : List ℕ) → old.came bytes → new.came bytes

-- Bytes of a file came, after those that were staged of it. The same files are whole as before.
pub record Gains (old : Stock) (file : Listed) (bytes : List ℕ) (new : Stock) : Type 0 where
  pub holds : (f : Listed) → new.here.holds f ≡ old.here.holds f
  pub part : new.here.part ≡ Some (file, staged_of old.here.part file + length bytes)
  pub came : (before : List ℕ) → HasCome old before → new.came (before ++ bytes)

-- The last bytes of a file came, all of them have the listed MD5, and it is whole.
pub record Seals (old : Stock) (file : Listed) (bytes : List ℕ) (new : Stock) : Type 0 where
  pub holds : (f : Listed) → new.here.holds f ≡ (old.here.holds f || same_file file f)
  pub part : new.here.part ≡ None
  pub digest : (before : List ℕ) → HasCome old before → md5 (before ++ bytes) ≡ file.md5

-- The last bytes of a file came, all of them have this MD5 and not the listed one, and it was given up.
pub record GivesUp (old : Stock) (file : Listed) (bytes found : List ℕ) (new : Stock) : Type 0 where
  pub holds : (f : Listed) → new.here.holds f ≡ old.here.holds f
  pub part : new.here.part ≡ None
  pub digest : (before : List ℕ) → HasCome old before → (md5 (before ++ bytes) ≡ found) × (found ≢ file.md5)

-- a part that is staged, where its file is among these
abbrev pub kept_part : List Listed → Option (Listed × ℕ) → Option (Listed × ℕ)
kept_part files None = None
kept_part files (Some part) = if is_listed files part.0 then Some part else None
