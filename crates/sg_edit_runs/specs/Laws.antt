-- Laws of all runs.
use Rattle.std.specs.Prelude.{◌≡◌, ℕ, ◌^◌, ◌<◌, ◌≤◌, List, Option, None}
use Rattle.std.specs.List.{AllByRecursion}
use Rattle.sg_base.specs.declared.ids.DisplayId.{DisplayId}
use Rattle.sg_base.specs.declared.play.PlayBody.{PlayBody}
use Rattle.sg_edit_runs.specs.declared.call.Call.{Call}
use Rattle.sg_edit_runs.specs.declared.call.Call.TheVariants as call
use Rattle.sg_edit_runs.specs.declared.call.Answer.{Answer}
use Rattle.sg_edit_runs.specs.declared.call.Answer.TheVariants as answer
use Rattle.sg_edit_runs.specs.At.{IsKept}
use Rattle.sg_edit_runs.specs.Steps.{Runs, State, made}
use Rattle.sg_steps.specs.declared.edit.Edit.{Edit}
use Rattle.sg_steps.specs.declared.replies.EnrolReply.TheVariants as enrol
use Rattle.sg_steps.specs.declared.replies.PlaysReply.TheVariants as plays
use Rattle.sg_steps.specs.Epochs.{nothing_added, played}
use Rattle.sg_steps.specs.State.{AreRows, Core, IsNumbered}
use Rattle.sg_steps.specs.Step.{given_in, step}

-- two servers for which the same rows stand are one
abbrev pub IsOneServer : Type 0
IsOneServer = (c d : Core) (rows : ℕ → Option (List ℕ)) → IsKept c → IsKept d → c.limit ≡ d.limit
    → AreRows c rows → AreRows d rows → c ≡ d

-- A number that was executed gives its reply again, whatever edit comes with it, and changes nothing
abbrev pub IsExecutedOnce : Type 0
IsExecutedOnce = (core : Core) (client seq : ℕ) (edit other : Edit) → given_in core.clients client seq ≡ None →
    step (step core client seq edit).core client seq other ≡ step core client seq edit

-- for the laws that follow: the display and the epoch of a call fit their types
abbrev pub IsShort : Call → Type 0
IsShort (call.Edit client seq edit) = Unit {0}
IsShort (call.Piece media offset bytes) = Unit {0}
IsShort (call.Enrol display) = display.0 < 2 ^ 32
IsShort (call.Plays display epoch first list) = (display.0 < 2 ^ 32) × (epoch < 2 ^ 32)
IsShort call.Load = Unit {0}

-- the display was given this epoch
abbrev pub GivesEpoch : State → DisplayId → ℕ → State → Type 0
GivesEpoch old display n new =
    record { state = new; answer = answer.Enrolled (enrol.Epoch n) } ≡ made old (call.Enrol display)

-- An epoch that a display is given is above all that it was given before, whatever came between: none is given twice
abbrev pub IsGivenOnce : Type 0
IsGivenOnce = (start mid end last : State) (display : DisplayId) (n m : ℕ) (calls : List Call) (answers : List Answer) →
    IsShort (call.Enrol display) → AllByRecursion IsShort calls → AllByRecursion IsNumbered start.core.epochs →
    GivesEpoch start display n mid → Runs mid calls answers end → GivesEpoch end display m last → n < m

-- the plays of the batch below this number are taken
abbrev pub TakesPlays : State → DisplayId → ℕ → ℕ → List PlayBody → ℕ → State → Type 0
TakesPlays old display epoch first list next new =
    record { state = new; answer = answer.Played (plays.Next next) } ≡ made old (call.Plays display epoch first list)

-- A batch that was taken adds nothing when it comes again, whatever came between: its plays are counted once
abbrev pub AddsOnce : Type 0
AddsOnce = (start mid end : State) (display : DisplayId) (epoch first next : ℕ) (list : List PlayBody)
    (calls : List Call) (answers : List Answer) →
    IsShort (call.Plays display epoch first list) → AllByRecursion IsShort calls →
    AllByRecursion IsNumbered start.core.epochs →
    TakesPlays start display epoch first list next mid → Runs mid calls answers end →
    (later : ℕ) × (next ≤ later)
    × (played end.core display.0 epoch first list ≡ nothing_added end.core.epochs (plays.Next later))
