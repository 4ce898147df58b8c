-- The command table: which words name which command.
use Rattle.std.specs.Prelude.{◌≡◌, ℕ, ◌≤◌, List, [], ◌∷◌, Option, Some, None, length, codes}
use Rattle.std.specs.Fmt.{decimal}
use Rattle.sg_base.specs.declared.limits.TheConstants.{LAST_MOMENT, PREVIEW_MOMENTS}
use Rattle.signage.specs.declared.command.Command.{Command}
use Rattle.signage.specs.declared.command.Command.TheVariants.{Edit, Preview, Report, Serve}
use Rattle.sg_words.specs.Table.{Said, said_in}
use Rattle.sg_words.specs.Table.Said.{Edit as SaidEdit, Format as SaidFormat, Made as SaidMade, Play as SaidPlay, Rehearse as SaidRehearse, Report as SaidReport, Serve as SaidServe}

-- a moment is written as a decimal number, without a sign or a leading zero
pub record IsMoment (word : List ℕ) (moment : ℕ) : Type 0 where
  pub bound : moment ≤ LAST_MOMENT
  pub is : word ≡ decimal moment

-- each word is a moment, in order
abbrev pub AreMoments : List (List ℕ) → List ℕ → Type 0
AreMoments [] [] = Unit {0}
AreMoments [] (m ∷ ms) = ⊥
AreMoments (w ∷ ws) [] = ⊥
AreMoments (w ∷ ws) (m ∷ ms) = IsMoment w m × AreMoments ws ms

-- some word is no moment
abbrev pub NoMoments : List (List ℕ) → Type 0
NoMoments words = (ms : List ℕ) → AreMoments words ms → ⊥

-- 1 to 1,000 moments
pub record ArePreviewWords (words : List (List ℕ)) (ms : List ℕ) : Type 0 where
  pub some : 1 ≤ length ms
  pub few : length ms ≤ PREVIEW_MOMENTS
  pub moments : AreMoments words ms

-- a preview of the moments that the words are
abbrev pub IsPreviewOf : List (List ℕ) → Command → Type 0
IsPreviewOf words (Preview moments) = ArePreviewWords words moments
IsPreviewOf words (Report from to) = ⊥
IsPreviewOf words Edit = ⊥
IsPreviewOf words (Serve key connections) = ⊥

-- `preview` and its moments
pub record NamesPreview (word : List ℕ) (words : List (List ℕ)) (ms : List ℕ) : Type 0 where
  pub command : word ≡ codes "preview"
  pub moments : ArePreviewWords words ms

-- what this program does for what the words say; the places that they name are `places_in`
abbrev pub command_said : Option Said → Option Command
command_said None = None
command_said (Some (SaidFormat store server display key room)) = None
command_said (Some (SaidPlay store server key every panel)) = None
command_said (Some (SaidServe db listen key connections)) = Some (Serve key connections)
command_said (Some (SaidEdit db)) = Some Edit
command_said (Some (SaidReport db from to)) = Some (Report from to)
command_said (Some SaidRehearse) = None
command_said (Some (SaidMade number)) = None

-- the words say this command by the command table, which has all commands but `preview`
abbrev pub Says : List (List ℕ) → Command → Type 0
Says words c = command_said (said_in words) ≡ Some c

-- the first word and the others name this command
abbrev pub NamedBy : List ℕ → List (List ℕ) → Command → Type 0
NamedBy word words (Preview moments) = NamesPreview word words moments
NamedBy word words (Report from to) = Says (word ∷ words) (Report from to)
NamedBy word words Edit = Says (word ∷ words) Edit
NamedBy word words (Serve key connections) = Says (word ∷ words) (Serve key connections)

-- the words name this command
abbrev pub Names : List (List ℕ) → Command → Type 0
Names [] c = ⊥
Names (w ∷ ws) c = NamedBy w ws c

-- the words are in no line of the command table
abbrev pub NamesNone : List (List ℕ) → Type 0
NamesNone words = (c : Command) → Names words c → ⊥
