-- How a run of edits ends: its status, what it printed, and the keeper's rows after it.
use Rattle.std.specs.Prelude.{◌≡◌, ℕ, ◌+◌, List, [], ◌∷◌, ◌++◌, length}
use Rattle.std.specs.List.{AllByRecursion}
use Rattle.sg_edit_command.specs.Asking.{IsAnswerable, content_after, core_after, replies}
use Rattle.sg_edit_command.specs.Reading.{CannotRead, ReadsAll, ReadsLines, ReadsLong, ReadsNext, ReadsTooMuch}
use Rattle.sg_endings.specs.declared.stop.Stop.{Stop}
use Rattle.sg_endings.specs.Stops.{status_of, text_of}
use Rattle.sg_endings.specs.Texts.{bad_line, keeper_fault, memory_fault, read_fault, too_long}
use Rattle.sg_keeper.specs.View.{Broke, Ran, View}
use Rattle.sg_lines.specs.Reading.{Input}
use Rattle.sg_opening.specs.Opening.{IsOpened, IsUnopened}
use Rattle.sg_steps.specs.State.{Content, Core, Stands}

-- the server answered these lines: rows of the keeper that stood for it before them stand for it after them
pub record Answers (core : Core) (old new : View) (lines : List (List ℕ)) : Type 0 where
  pub edits : AllByRecursion IsAnswerable lines
  pub rows : (content : Content) → old.told → Stands core content old.rows → Stands (core_after core lines) (content_after core lines content) new.rows

-- how a server's run of edits ends
pub data Edits (core : Core) (before after : Input) (old new : View) : ℕ → List ℕ → Type 0 where
  -- every line was answered
  all : (lines : List (List ℕ)) → Answers core old new lines → ReadsAll before after lines → Ran 0 old new → Edits core before after old new 0 (replies core lines)
  -- the line after these is neither empty nor an edit
  bad : (lines : List (List ℕ)) (line : List ℕ) → Answers core old new lines → ReadsNext before after lines line → (IsAnswerable line → ⊥) → Ran 0 old new
      → Edits core before after old new 3 (replies core lines ++ bad_line (length lines + 1))
  -- it is too long
  long : (lines : List (List ℕ)) → Answers core old new lines → ReadsLong before after lines → Ran 0 old new → Edits core before after old new 3 (replies core lines ++ bad_line (length lines + 1))
  -- the input is too long
  much : (lines : List (List ℕ)) → Answers core old new lines → ReadsTooMuch before after lines → Ran 0 old new → Edits core before after old new 3 (replies core lines ++ too_long)
  -- the source failed
  read : (lines : List (List ℕ)) → Answers core old new lines → CannotRead before after lines → Ran 0 old new → Edits core before after old new 4 (replies core lines ++ read_fault)
  -- the sink failed in the reply to the last of these lines
  cut : (lines : List (List ℕ)) (last : List ℕ) → Answers core old new (lines ++ last ∷ []) → ReadsNext before after lines last → Ran 0 old new
      → Edits core before after old new 5 (replies core (lines ++ last ∷ []))
  -- memory ran out after these lines
  memory : (lines : List (List ℕ)) (others : List ℕ) → Answers core old new lines → ReadsLines before after lines others → Ran 0 old new
      → Edits core before after old new 9 (replies core lines ++ memory_fault)
  -- the keeper failed at the line after these
  keeper : (lines : List (List ℕ)) (line : List ℕ) → Answers core old new lines → ReadsNext before after lines line → Broke old new
      → Edits core before after old new 12 (replies core lines ++ keeper_fault)

-- What `edit` does: it opens the server of the keeper's rows, and this answers the lines of the input; or none is opened, and nothing is read
pub data EditsRows (before after : Input) (old new : View) : ℕ → List ℕ → Type 0 where
  opened : {status : ℕ} {text : List ℕ} (core : Core) → IsOpened old core → Edits core before after old new status text → EditsRows before after old new status text
  unopened : (stop : Stop) → IsUnopened old new stop → after ≡ before → EditsRows before after old new (status_of stop) (text_of stop)
