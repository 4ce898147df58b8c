-- What `report` does with a keeper's rows: its status, and what it writes.
use Rattle.std.specs.Prelude.{ℕ, List}
use Rattle.sg_endings.specs.declared.stop.Stop.{Stop}
use Rattle.sg_endings.specs.Stops.{status_of, text_of}
use Rattle.sg_keeper.specs.View.{Ran, View}
use Rattle.sg_opening.specs.Opening.{IsOpened, IsUnopened}
use Rattle.sg_report.specs.Report.{IsReport}
use Rattle.sg_steps.specs.State.{Core}

pub data Reports (from to : ℕ) (old new : View) : ℕ → List ℕ → Type 0 where
  -- the rows stand for a server, and this is the report of its plays
  report : (core : Core) (text : List ℕ) → IsOpened old core → IsReport from to old text → Ran 10 old new → Reports from to old new 0 text
  -- no server was opened, or its plays weren't counted: the keeper failed, memory ran out, or a row may not be kept
  stopped : (stop : Stop) → IsUnopened old new stop → Reports from to old new (status_of stop) (text_of stop)
