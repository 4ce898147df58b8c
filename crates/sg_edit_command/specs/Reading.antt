-- Lines of an input, and where it stands after them.
use Rattle.std.specs.Prelude.{◌≡◌, ◌⊎◌, ℕ, ◌<◌, ◌≤◌, List, [], ◌∷◌, ◌++◌, length}
use Rattle.std.specs.List.{AllByRecursion}
use Rattle.std.specs.Io.KnownBytes.{Consumes, IsAtEnd, Keeps}
use Rattle.sg_base.specs.declared.limits.TheConstants.{MAX_BODY, MAX_TAKEN}
use Rattle.sg_base.specs.Causes.{Rose}
use Rattle.sg_lines.specs.Reading.{HasNoFeed, Input, IsLong}

-- no byte is a line feed, and there are not too many
pub record IsLine (line : List ℕ) : Type 0 where
  pub feeds : HasNoFeed line
  pub short : length line ≤ MAX_BODY

-- whole lines, each with its line feed
abbrev pub text_of : List (List ℕ) → List ℕ
text_of [] = []
text_of (line ∷ lines) = line ++ 10 ∷ text_of lines

-- these whole lines were taken, and then other bytes; no take failed
pub record ReadsLines (before after : Input) (lines : List (List ℕ)) (others : List ℕ) : Type 0 where
  pub taken : Consumes before.left after.left (text_of lines ++ others)
  pub few : length (text_of lines ++ others) ≤ MAX_TAKEN
  pub each : AllByRecursion IsLine lines
  pub quiet : after.faults ≡ before.faults

-- what comes after the last line feed of an input is a line, unless it is empty
abbrev pub last_line : List ℕ → List (List ℕ)
last_line [] = []
last_line (b ∷ bs) = (b ∷ bs) ∷ []

-- the input was read to its end, and these are its lines
pub record ReadsAll (before after : Input) (lines : List (List ℕ)) : Type 0 where
  pub whole : List (List ℕ)
  pub others : List ℕ
  pub read : ReadsLines before after whole others
  pub end : IsAtEnd after.left
  pub last : IsLine others
  pub are : lines ≡ whole ++ last_line others

-- a line ends here: by its line feed, or with the input
abbrev pub EndsLine : Input → List ℕ → List ℕ → Type 0
EndsLine after others line = ((more : List ℕ) × (others ≡ line ++ 10 ∷ more)) ⊎ ((0 < length line) × (others ≡ line) × IsAtEnd after.left)

-- the line after these was read
pub record ReadsNext (before after : Input) (lines : List (List ℕ)) (line : List ℕ) : Type 0 where
  pub others : List ℕ
  pub read : ReadsLines before after lines others
  pub is : IsLine line
  pub end : EndsLine after others line

-- the line after these is too long
pub record ReadsLong (before after : Input) (lines : List (List ℕ)) : Type 0 where
  pub others : List ℕ
  pub read : ReadsLines before after lines others
  pub long : IsLong others MAX_BODY

-- a byte more came than may be taken, after these lines and others that are no whole line
pub record ReadsTooMuch (before after : Input) (lines : List (List ℕ)) : Type 0 where
  pub others : List ℕ
  pub between : Input
  pub read : ReadsLines before between lines others
  pub part : IsLine others
  pub full : length (text_of lines ++ others) ≡ MAX_TAKEN
  pub more : ℕ
  pub came : Consumes between.left after.left (more ∷ [])
  pub quiet : after.faults ≡ before.faults

-- a take failed, after these lines and others that are no whole line
pub record CannotRead (before after : Input) (lines : List (List ℕ)) : Type 0 where
  pub others : List ℕ
  pub between : Input
  pub read : ReadsLines before between lines others
  pub part : IsLine others
  pub kept : Keeps between.left after.left
  pub rose : Rose between.faults after.faults
