-- What each command does, and what it leaves alone.
use Rattle.std.specs.Prelude.{◌≡◌, ℕ, List, [], ◌∷◌, Contains}
use Rattle.sg_edit_command.specs.Edits.{EditsRows}
use Rattle.sg_endings.specs.Texts.{memory_fault}
use Rattle.sg_keeper.specs.View.{Same, View}
use Rattle.sg_lines.specs.Reading.{Input}
use Rattle.sg_report_command.specs.Reports.{Reports}
use Rattle.signage.specs.declared.command.Command.{Command}
use Rattle.signage.specs.declared.command.Command.TheVariants.{Edit, Preview, Report, Serve}
use Rattle.signage.specs.Texts.{usage}
use Rattle.signage.specs.Preview.{IsPreview}

-- what each command does with its input and its keeper, where a server of a key and a number of connections does this
abbrev pub Does : (List ℕ → ℕ → ℕ → List ℕ → Type 0) → Command → Input → Input → View → View → ℕ → List ℕ → Type 0
Does Serving (Preview moments) before after old new status output = IsPreview before after moments status output
Does Serving (Report from to) before after old new status output = Reports from to old new status output
Does Serving Edit before after old new status output = EditsRows before after old new status output
Does Serving (Serve key connections) before after old new status output = Serving key connections status output

-- the source, the keeper and the door of which it makes no use are as they were
abbrev pub LeavesAlone : {S K N : Type 0} → Command → S → S → K → K → N → N → Type 0
LeavesAlone (Preview moments) source source' keeper keeper' door door' = (keeper' ≡ keeper) × (door' ≡ door)
LeavesAlone (Report from to) source source' keeper keeper' door door' = (source' ≡ source) × (door' ≡ door)
LeavesAlone Edit source source' keeper keeper' door door' = door' ≡ door
LeavesAlone (Serve key connections) source source' keeper keeper' door door' = source' ≡ source

-- the rows of the keeper are as they were, but for the edits, of a server too
abbrev pub KeepsRows : Command → View → View → Type 0
KeepsRows (Preview moments) old new = Same old new
KeepsRows (Report from to) old new = Same old new
KeepsRows Edit old new = Unit {0}
KeepsRows (Serve key connections) old new = Unit {0}

-- words that name no command: the usage line, unless memory runs out
pub record IsUsage (status : ℕ) (output : List ℕ) : Type 0 where
  pub known : Contains (2 ∷ 9 ∷ []) status
  pub usage_line : status ≡ 2 → output ≡ usage
  pub memory : status ≡ 9 → output ≡ memory_fault
