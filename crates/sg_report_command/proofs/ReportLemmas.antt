-- From the calls of a report to its end.
use Rattle.std.proofs.Common.{◌≡◌, ℕ, List, Option, subst}
use Rattle.std.specs.Prelude.{Result, Ok, Err, IfErr, IfOk, OnOk}
use Rattle.sg_endings.specs.Stops.{status_of, text_of}
use Rattle.sg_endings.specs.declared.stop.Stop.{Stop}
use Rattle.sg_endings.specs.declared.stop.Stop.TheVariants as stop
use Rattle.sg_keeper.specs.View.{Ran, Same, View}
use Rattle.sg_loading.specs.declared.fault.LoadFault.TheVariants as fault
use Rattle.sg_loading.proofs.RunLemmas.{ran_failed, ran_joined}
use Rattle.sg_opening.specs.Opening.{IsOpened, IsUnopened}
use Rattle.sg_report.specs.Plays.{HasPlays}
use Rattle.sg_report.specs.Report.{IsReport}
use Rattle.sg_steps.specs.State.{Core}
use Rattle.sg_report_command.specs.Faults.{StopsCounting}
use Rattle.sg_report_command.specs.Reports.{Reports}
use Rattle.sg_report_command.specs.Reports.Reports.{report, stopped}

-- no server was opened
pub not_opened : (from to : ℕ) (old new : View) (s : Stop) → IsUnopened old new s → Reports from to old new (status_of s) (text_of s)
not_opened from to old new s is = stopped s is

-- plays that weren't counted, of a server that was opened
not_counted : (old mid new : View) (s : Stop) → Ran 9 old mid → StopsCounting s mid new → IsUnopened old new s
not_counted old mid new stop.Keeper ran h = ran_failed 9 old mid new fault.Keeper ran h
not_counted old mid new stop.Memory ran h = ran_failed 9 old mid new fault.Memory ran h
not_counted old mid new stop.TooLong ran h = absurd h
not_counted old mid new (stop.Line n) ran h = absurd h
not_counted old mid new stop.Read ran h = absurd h
not_counted old mid new (stop.BadRow key) ran h = absurd h

pub stopped_counting : {T : Type 0} (from to : ℕ) (old mid new : View) (r : Result T Stop) → Ran 9 old mid → IfErr r (λ s. StopsCounting s mid new)
    → IfErr r (λ s. Reports from to old new (status_of s) (text_of s))
stopped_counting from to old mid new (Ok t) ran h = tt
stopped_counting from to old mid new (Err s) ran h = stopped s (not_counted old mid new s ran h)

-- a report of the rows as they were before they were loaded
as_before : (from to : ℕ) (old mid : View) (text : List ℕ) → (old.told → mid.told) → Same old mid → IsReport from to mid text → IsReport from to old text
as_before from to old mid text told same r = record {
  plays = r.plays;
  kept = r.kept;
  all = λ t. subst (λ (kept : ℕ → Option (List ℕ)). HasPlays kept r.plays) (same t) (r.all (told t));
  lines = r.lines;
  sums = r.sums;
  table = r.table;
}

-- a report over a server that was opened
pub reported_if : {T : Type 0} {core : Core} (items : T → List ℕ) (from to : ℕ) (old mid new : View) (r : Result T Stop) → IsOpened old core
    → Ran 9 old mid → Same old mid → IfOk r (λ t. IsReport from to mid (items t)) → OnOk r (Ran 1 mid new) → IfOk r (λ t. Reports from to old new 0 (items t))
reported_if {core = core} items from to old mid new (Ok t) opened first same r second =
    report core (items t) opened (as_before from to old mid (items t) first.told same r) (ran_joined 9 1 old mid new first second)
reported_if items from to old mid new (Err s) opened first same r second = tt
