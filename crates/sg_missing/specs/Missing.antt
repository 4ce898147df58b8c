-- What is missing of the files of a manifest.
use Rattle.std.specs.Prelude.{zero, suc, ◌-◌, ◌≡◌, ℕ, ◌+◌, ◌<◌, ◌≤◌, ◌==◌, ◌||◌, Bool, true, false, List, [], ◌∷◌, ◌++◌, Option, None, Some, map, slice_get, IsSomeAnd, if◌then◌else◌, ⊤}
use Rattle.std.specs.List.{All, AllPairs}
use Rattle.sg_base.specs.declared.file.Listed.{Listed}
use Rattle.sg_placing.specs.Placing.{same_file}
use Rattle.sg_missing.specs.declared.wanted.Wanted.{Wanted}
use Rattle.sg_missing.specs.Pieces.{missing_from, piece_end}

-- which files are whole, and the one of which a part is staged, with the number of its bytes
pub record Holding : Type 0 where
  pub holds : Listed → Bool
  pub part : Option (Listed × ℕ)

abbrev pub holding : (Listed → Bool) → Option (Listed × ℕ) → Holding
holding holds part = record { holds = holds; part = part }

-- how many bytes of a file are staged in part
abbrev pub staged_of : Option (Listed × ℕ) → Listed → ℕ
staged_of None file = 0
staged_of (Some part) file = if same_file part.0 file then part.1 else 0

-- the missing pieces of a file that isn't whole, each by the medium and the place at which it begins
abbrev pub pieces_of : Option (Listed × ℕ) → Listed → List (ℕ × ℕ)
pieces_of part file = map (λ at. (file.media.0, at)) (missing_from (staged_of part file) file.length)

-- the missing pieces of these files, in their order
abbrev pub missing : Holding → List Listed → List (ℕ × ℕ)
missing here [] = []
missing here (file ∷ files) = if here.holds file then missing here files else pieces_of here.part file ++ missing here files

-- what is staged in part lacks a byte at least
abbrev pub IsPart : Option (Listed × ℕ) → Type 0
IsPart None = ⊤
IsPart (Some part) = part.1 < part.0.length

-- the files of a manifest: of a byte at least, each with a larger id than those ahead of it
pub record AreFiles (files : List Listed) : Type 0 where
  pub some : All (λ (f : Listed). 1 ≤ f.length) files
  pub ascending : AllPairs (λ (f g : Listed). f.media.0 < g.media.0) files

-- this is what is held after so many bytes more of a file came
abbrev pub with_bytes : Holding → Listed → ℕ → Holding
with_bytes here file count =
    if staged_of here.part file + count == file.length
    then holding (λ f. here.holds f || same_file file f) None
    else holding here.holds (Some (file, staged_of here.part file + count))

-- the first of these files that isn't whole
abbrev pub first_missing : (Listed → Bool) → List Listed → Option Listed
first_missing holds [] = None
first_missing holds (file ∷ files) = if holds file then first_missing holds files else Some file

-- nothing is staged in part but bytes of this file, which lacks one at least
abbrev pub IsAlone : Option (Listed × ℕ) → Listed → Type 0
IsAlone None file = 1 ≤ file.length
IsAlone (Some part) file = (same_file part.0 file ≡ true) × (part.1 < file.length)

-- this piece is the first that is missing
pub record IsFirst (here : Holding) (files : List Listed) (piece : Wanted) : Type 0 where
  pub file : first_missing here.holds files ≡ Some piece.file
  pub begins : piece.at ≡ staged_of here.part piece.file
  pub ends : piece.at + piece.count ≡ piece_end piece.at piece.file.length
  pub some : 1 ≤ piece.count
  pub first : IsSomeAnd (slice_get (missing here files) 0) (λ (entry : ℕ × ℕ). entry ≡ (piece.file.media.0, piece.at))

-- a part that is staged is of this file
abbrev pub is_one_of : Option (Listed × ℕ) → Option Listed → Bool
is_one_of None first = false
is_one_of (Some part) None = false
is_one_of (Some part) (Some file) = same_file part.0 file

-- the file of which a part is staged is the first that isn't whole
abbrev pub keeps_part : Holding → List Listed → Bool
keeps_part here files = is_one_of here.part (first_missing here.holds files)

-- what is held after the first of these pieces that is missing came whole
abbrev pub with_piece : Holding → Option Listed → Holding
with_piece here None = here
with_piece here (Some file) = with_bytes here file (piece_end (staged_of here.part file) file.length - staged_of here.part file)

-- what is held after so many pieces of these files came whole, each when it was the first that was missing
abbrev pub after_pieces : ℕ → Holding → List Listed → Holding
after_pieces zero here files = here
after_pieces (suc more) here files = after_pieces more (with_piece here (first_missing here.holds files)) files

-- nothing is staged in part but bytes of the first file that isn't whole
abbrev pub IsOf : Option (Listed × ℕ) → Option Listed → Type 0
IsOf None first = ⊤
IsOf (Some part) None = ⊥
IsOf (Some part) (Some file) = (same_file part.0 file ≡ true) × (part.1 < file.length)

abbrev pub IsUnderWay : Holding → List Listed → Type 0
IsUnderWay here files = IsOf here.part (first_missing here.holds files)
