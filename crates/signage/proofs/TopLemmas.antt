-- The words of the command line name one command.
use Rattle.std.proofs.Common.{◌≡◌, ℕ, List, [], ◌∷◌, Option, Some, refl, sym, ap, ◌∙◌, subst, lit<, arith, get_or, ◌<◌, zero, suc}
use Rattle.sg_keeper.specs.View.{View}
use Rattle.sg_loading.proofs.RunLemmas.{ran_none}
use Rattle.sg_report_command.specs.Reports.{Reports}
use Rattle.sg_report_command.specs.Reports.Reports.{report, stopped}
use Rattle.sg_edit_command.specs.Edits.{Edits, EditsRows}
use Rattle.sg_edit_command.specs.Edits.Edits.{all as ends_all, bad as ends_bad, cut as ends_cut, keeper as ends_keeper, long as ends_long, memory as ends_memory, much as ends_much, read as ends_read}
use Rattle.sg_edit_command.specs.Edits.EditsRows.{opened, unopened}
use Rattle.sg_endings.specs.Stops.{status_of}
use Rattle.sg_endings.specs.Texts.{memory_fault}
use Rattle.sg_endings.specs.declared.stop.Stop.{Stop}
use Rattle.sg_endings.specs.declared.stop.Stop.TheVariants as stop
use Rattle.sg_lines.specs.Reading.{Input}
use Rattle.sg_api.specs.declared.server.Server.{Server}
use Rattle.sg_connection.specs.declared.door.Served.{Served}
use Rattle.sg_connection.specs.declared.door.Served.TheVariants.{Done, DoorFault}
use Rattle.sg_connection.specs.Serving.{Scene}
use Rattle.sg_serve_command.specs.Serves.{DoorAt, Serves, status_of_served}
use Rattle.sg_serve_command.specs.Serves.Serves.{served, stopped as stopped_serving}
use Rattle.sg_steps.specs.State.{Core}
use Rattle.signage.specs.declared.command.Command.{Command}
use Rattle.signage.specs.declared.command.Command.TheVariants.{Edit, Preview, Report, Serve}
use Rattle.signage.specs.Texts.{usage}
use Rattle.signage.specs.Words.{Names, Says}
use Rattle.signage.specs.Top.{Does, IsUsage, KeepsRows, LeavesAlone}
use Rattle.signage.specs.declared.stop.Stop.TheVariants.{Memory}
use Rattle.signage.proofs.WordLemmas.{no_said, one_list}
use Rattle.signage.proofs.PreviewLemmas.{stop_preview}

-- what the table says, it says once
one_said : (ws : List (List ℕ)) (c d : Command) → Says ws c → Says ws d → c ≡ d
one_said ws c d a b =
    let both : ◌≡◌ {A = Option Command} (Some c) (Some d) = sym a ∙ b in
    cc

pub one_command : (ws : List (List ℕ)) (c d : Command) → Names ws c → Names ws d → c ≡ d
one_command [] c d a b = absurd a
one_command (w ∷ ws) (Preview ms) (Preview ns) a b = ap (λ (l : List ℕ). Preview l) (one_list ws ms ns a.moments.moments b.moments.moments)
one_command (w ∷ ws) (Preview ms) (Report g u) a b = absurd (no_said w ws (Report g u) a.command b)
one_command (w ∷ ws) (Preview ms) Edit a b = absurd (no_said w ws Edit a.command b)
one_command (w ∷ ws) (Preview ms) (Serve k n) a b = absurd (no_said w ws (Serve k n) a.command b)
one_command (w ∷ ws) (Report f t) (Preview ms) a b = absurd (no_said w ws (Report f t) b.command a)
one_command (w ∷ ws) (Report f t) (Report g u) a b = one_said (w ∷ ws) (Report f t) (Report g u) a b
one_command (w ∷ ws) (Report f t) Edit a b = one_said (w ∷ ws) (Report f t) Edit a b
one_command (w ∷ ws) (Report f t) (Serve k n) a b = one_said (w ∷ ws) (Report f t) (Serve k n) a b
one_command (w ∷ ws) Edit (Preview ms) a b = absurd (no_said w ws Edit b.command a)
one_command (w ∷ ws) Edit (Report g u) a b = one_said (w ∷ ws) Edit (Report g u) a b
one_command (w ∷ ws) Edit Edit a b = refl
one_command (w ∷ ws) Edit (Serve k n) a b = one_said (w ∷ ws) Edit (Serve k n) a b
one_command (w ∷ ws) (Serve k n) (Preview ms) a b = absurd (no_said w ws (Serve k n) b.command a)
one_command (w ∷ ws) (Serve k n) (Report g u) a b = one_said (w ∷ ws) (Serve k n) (Report g u) a b
one_command (w ∷ ws) (Serve k n) Edit a b = one_said (w ∷ ws) (Serve k n) Edit a b
one_command (w ∷ ws) (Serve k n) (Serve l m) a b = one_said (w ∷ ws) (Serve k n) (Serve l m) a b

-- the usage line is no command's
four_cases : (k : ℕ) → k < 4 → ◌≡◌ {A = ℕ} (get_or (0 ∷ 3 ∷ 4 ∷ 9 ∷ []) k 2) 2 → ⊥
four_cases zero inside is = omega (arith, is)
four_cases (suc zero) inside is = omega (arith, is)
four_cases (suc (suc zero)) inside is = omega (arith, is)
four_cases (suc (suc (suc zero))) inside is = omega (arith, is)
four_cases (suc (suc (suc (suc k)))) inside is = omega arith

not_stop : (s : Stop) → status_of s ≡ 2 → ⊥
not_stop stop.TooLong two = omega (arith, two)
not_stop (stop.Line n) two = omega (arith, two)
not_stop stop.Read two = omega (arith, two)
not_stop stop.Memory two = omega (arith, two)
not_stop stop.Keeper two = omega (arith, two)
not_stop (stop.BadRow key) two = omega (arith, two)

not_report : {from to : ℕ} {old new : View} {status : ℕ} {text : List ℕ} → Reports from to old new status text → status ≡ 2 → ⊥
not_report (report core text is told ran) two = omega (arith, two)
not_report (stopped s is) two = not_stop s two

not_edits : {core : Core} {before after : Input} {old new : View} {status : ℕ} {text : List ℕ} → Edits core before after old new status text → status ≡ 2 → ⊥
not_edits (ends_all lines a read ran) two = omega (arith, two)
not_edits (ends_bad lines line a read none ran) two = omega (arith, two)
not_edits (ends_long lines a read ran) two = omega (arith, two)
not_edits (ends_much lines a read ran) two = omega (arith, two)
not_edits (ends_read lines a read ran) two = omega (arith, two)
not_edits (ends_cut lines last a read ran) two = omega (arith, two)
not_edits (ends_memory lines others a read ran) two = omega (arith, two)
not_edits (ends_keeper lines line a read broke) two = omega (arith, two)

not_edits_rows : {before after : Input} {old new : View} {status : ℕ} {text : List ℕ} → EditsRows before after old new status text → status ≡ 2 → ⊥
not_edits_rows (opened core is e) two = not_edits e two
not_edits_rows (unopened s is same) two = not_stop s two

not_served : (how : Served) → status_of_served how ≡ 2 → ⊥
not_served (Done n) two = omega (arith, two)
not_served (DoorFault n) two = omega (arith, two)

not_serves : {K C : Type 0} {view : K → View} {scene : C → Server × K → Scene (Server × K)} {operator : List ℕ} {limit : ℕ} {d d' : DoorAt C} {k l : K} {status : ℕ} {text : List ℕ}
    → Serves view scene operator limit d d' k l status text → status ≡ 2 → ⊥
not_serves (served s t mid how is same serves history) two = not_served how two
not_serves (stopped_serving why is same door) two = not_stop why two

not_two : {K C : Type 0} (view : K → View) (scene : C → Server × K → Scene (Server × K)) (d d' : DoorAt C) (k l : K) (c : Command) (before after : Input) (old new : View) (text : List ℕ)
    → Does (λ operator limit. Serves view scene operator limit d d' k l) c before after old new 2 text → ⊥
not_two view scene d d' k l (Preview ms) before after old new text h = four_cases h.known.0 h.known.1 h.known.2
not_two view scene d d' k l (Report from to) before after old new text h = not_report h refl
not_two view scene d d' k l Edit before after old new text h = not_edits_rows h refl
not_two view scene d d' k l (Serve operator limit) before after old new text h = not_serves h refl

pub not_usage : {K C : Type 0} (view : K → View) (scene : C → Server × K → Scene (Server × K)) (d d' : DoorAt C) (k l : K) (c : Command) (before after : Input) (old new : View) (status : ℕ) (text : List ℕ)
    → status ≡ 2 → Does (λ operator limit. Serves view scene operator limit d d' k l) c before after old new status text → ⊥
not_usage view scene d d' k l c before after old new status text two h =
    not_two view scene d d' k l c before after old new text
    (subst (λ (n : ℕ). Does (λ operator limit. Serves view scene operator limit d d' k l) c before after old new n text) two h)

-- want of memory before any command is one of its ends
pub runs_out : {K C : Type 0} (view : K → View) (scene : C → Server × K → Scene (Server × K)) (d : DoorAt C) (k : K) (c : Command) (input : Input)
    → Does (λ operator limit. Serves view scene operator limit d d k k) c input input (view k) (view k) 9 memory_fault
runs_out view scene d k (Preview ms) input = stop_preview input input ms Memory (record { cause = tt; quiet = λ _. refl })
runs_out view scene d k (Report from to) input = stopped stop.Memory (ran_none (view k))
runs_out view scene d k Edit input = unopened stop.Memory (ran_none (view k)) refl
runs_out view scene d k (Serve operator limit) input = stopped_serving stop.Memory (ran_none (view k)) (λ told. refl) refl

-- and then nothing is touched
pub all_alone : {S K N : Type 0} (c : Command) (source : S) (keeper : K) (door : N) → LeavesAlone c source source keeper keeper door door
all_alone (Preview ms) source keeper door = (refl, refl)
all_alone (Report from to) source keeper door = (refl, refl)
all_alone Edit source keeper door = refl
all_alone (Serve key n) source keeper door = refl

pub all_kept : (c : Command) (v : View) → KeepsRows c v v
all_kept (Preview ms) v = λ told. refl
all_kept (Report from to) v = λ told. refl
all_kept Edit v = tt
all_kept (Serve key n) v = tt

pub usage_shown : IsUsage 2 usage
usage_shown = record { known = (0, lit< tt, refl); usage_line = λ e. refl; memory = λ e. absurd (omega (arith, e)) }

pub usage_lost : IsUsage 9 memory_fault
usage_lost = record { known = (1, lit< tt, refl); usage_line = λ e. absurd (omega (arith, e)); memory = λ e. refl }
