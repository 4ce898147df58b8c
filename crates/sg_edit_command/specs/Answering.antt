-- For private clauses: one line, and where a reader of lines stands.
use Rattle.std.specs.Prelude.{◌≡◌, ℕ, ◌≤◌, true, false, List, [], ◌++◌, Option, None, length}
use Rattle.std.specs.Io.KnownBytes.{Appends}
use Rattle.sg_base.specs.declared.limits.TheConstants.{MAX_BODY, MAX_TAKEN}
use Rattle.sg_edit_command.specs.declared.saying.Said.{Said}
use Rattle.sg_edit_command.specs.Asking.{IsAnswerable, content_then, core_after, core_then, line_step, reply_if}
use Rattle.sg_edit_command.specs.Edits.{Answers}
use Rattle.sg_edit_command.specs.Reading.{ReadsAll, ReadsLines, text_of as bytes_of}
use Rattle.sg_endings.specs.declared.stop.Stop.{Stop}
use Rattle.sg_endings.specs.declared.stop.Stop.TheVariants as stop
use Rattle.sg_endings.specs.Stops.{status_of, text_of}
use Rattle.sg_endings.specs.Texts.{bad_line, keeper_fault, memory_fault}
use Rattle.sg_keeper.specs.View.{Broke, Ran, Same, View}
use Rattle.sg_lines.specs.Reading.{Gives, GivesNone, Input, Reader, Stops}
use Rattle.sg_lines.specs.declared.stop.LineStop.{LineStop}
use Rattle.sg_lines.specs.declared.stop.LineStop.TheVariants as line_stop
use Rattle.sg_steps.specs.State.{Content, Core, Stands}

-- ---- one line

-- why it isn't known which edit a line says
abbrev pub IsUnsaid : Stop → ℕ → Option Said → Type 0
IsUnsaid (stop.Line n) number said = (n ≡ number) × (said ≡ None)
IsUnsaid stop.Memory number said = Unit {0}
IsUnsaid stop.TooLong number said = ⊥
IsUnsaid stop.Read number said = ⊥
IsUnsaid stop.Keeper number said = ⊥
IsUnsaid (stop.BadRow key) number said = ⊥

-- the server answered a line, and the keeper's rows changed with it
pub record IsAnswered (line : List ℕ) (core later : Core) (old new : View) : Type 0 where
  pub edit : IsAnswerable line
  pub step : later ≡ core_then core (line_step core line)
  pub rows : (content : Content) → old.told → Stands core content old.rows → Stands later (content_then (line_step core line) content) new.rows
  pub ran : Ran 0 old new

-- why a line has no answer
abbrev pub IsUnanswered : Stop → ℕ → List ℕ → View → View → Type 0
IsUnanswered (stop.Line n) number line old new = (n ≡ number) × (IsAnswerable line → ⊥) × Ran 0 old new
IsUnanswered stop.Memory number line old new = Ran 0 old new
IsUnanswered stop.Keeper number line old new = Broke old new
IsUnanswered stop.TooLong number line old new = ⊥
IsUnanswered stop.Read number line old new = ⊥
IsUnanswered (stop.BadRow key) number line old new = ⊥

-- a line was answered, and its reply printed
pub record IsDone (line : List ℕ) (core later : Core) (old new : View) (out out' : Option (List ℕ)) (faults faults' : ℕ) : Type 0 where
  pub answered : IsAnswered line core later old new
  pub put : Appends out out' (reply_if (line_step core line))
  pub quiet : faults' ≡ faults

-- how a run ends at a line, which has this number
pub data EndsAt (line : List ℕ) (number : ℕ) (core : Core) (old new : View) : ℕ → List ℕ → Type 0 where
  bad : (IsAnswerable line → ⊥) → Ran 0 old new → Same old new → EndsAt line number core old new 3 (bad_line number)
  cut : (later : Core) → IsAnswered line core later old new → EndsAt line number core old new 5 (reply_if (line_step core line))
  memory : Ran 0 old new → Same old new → EndsAt line number core old new 9 memory_fault
  keeper : Broke old new → Same old new → EndsAt line number core old new 12 keeper_fault

-- ---- the next line

-- how a command ends that gets no further line, of which the next has this number
abbrev pub stop_of : LineStop → ℕ → Stop
stop_of line_stop.Read number = stop.Read
stop_of line_stop.LongLine number = stop.Line number
stop_of line_stop.TooLong number = stop.TooLong
stop_of line_stop.Memory number = stop.Memory

-- a line was read, answered, and its reply printed
pub record IsNext (before after : Input) (reader reader' : Reader) (core later : Core) (old new : View) (out out' : Option (List ℕ)) (faults faults' : ℕ) : Type 0 where
  pub line : List ℕ
  pub gives : Gives before after reader reader' line
  pub done : IsDone line core later old new out out' faults faults'

-- how a run ends where the next line is to be read, which has this number
pub data EndsNext (before after : Input) (reader : Reader) (number : ℕ) (core : Core) (old new : View) : ℕ → List ℕ → Type 0 where
  none : (reader' : Reader) → GivesNone before after reader reader' → Ran 0 old new → Same old new → EndsNext before after reader number core old new 0 []
  stopped : (why : LineStop) → Stops before after reader why → Ran 0 old new → Same old new
      → EndsNext before after reader number core old new (status_of (stop_of why number)) (text_of (stop_of why number))
  at : {status : ℕ} {text : List ℕ} (reader' : Reader) (line : List ℕ) → Gives before after reader reader' line → EndsAt line number core old new status text
      → EndsNext before after reader number core old new status text

-- ---- all lines so far

-- what a reader holds comes after these lines
pub record IsReading (before now : Input) (reader : Reader) (given : List (List ℕ)) : Type 0 where
  pub read : ReadsLines before now given reader.held
  pub taken : reader.taken ≡ length (bytes_of given ++ reader.held)

-- a reader has given these lines
pub record HasGiven (before now : Input) (reader : Reader) (given : List (List ℕ)) : Type 0 where
  pub limit : reader.limit ≡ MAX_TAKEN
  pub most : reader.most ≡ MAX_BODY
  pub bound : reader.taken ≤ MAX_TAKEN
  pub count : length given ≤ reader.taken
  pub early : reader.ended ≡ false → IsReading before now reader given
  pub late : reader.ended ≡ true → ReadsAll before now given

-- a server has answered these lines, which a reader has given
pub record HasAnswered (before now : Input) (reader : Reader) (core later : Core) (old new : View) (given : List (List ℕ)) : Type 0 where
  pub reads : HasGiven before now reader given
  pub answers : Answers core old new given
  pub after : later ≡ core_after core given
  pub ran : Ran 0 old new
