use Rattle.std.proofs.Common.{◌≡◌, ◌<◌, ◌≤◌, false, List, [], take, length, None, refl, sym, ◌∙◌, ap, subst}
use Rattle.sg_base.specs.declared.limits.TheConstants.{MANIFEST_FILES}
use Rattle.sg_pages.specs.Pages.{needed}
use Rattle.sg_staging.specs.Staged.{free_beside, IsHalf}
use Rattle.sg_store_state.specs.State.{State, is_held}
use Rattle.sg_store_state.specs.Ready.{HasStaged}
use Rattle.sg_store_state.proofs.StepLemmas.{begun_staged}
use Rattle.sg_paged_store.proofs.store.Store.stage_begin.Goals as goal

pub begin-requires-clause-room : goal.begin-requires-clause-room
begin-requires-clause-room c = c.self.invariant.0.whole

pub begin-requires-clause-staged : goal.begin-requires-clause-staged
begin-requires-clause-staged c = c.self.invariant.0.placed

pub begin-requires-clause-new : goal.begin-requires-clause-new
begin-requires-clause-new c = subst (λ (s : State). is_held s c.args.file.now ≡ false) (sym c.self.view_is) c.requires.new

pub begin-requires-clause-idle : goal.begin-requires-clause-idle
begin-requires-clause-idle c = ap (λ (s : State). s.staged.half) c.self.view_is ∙ c.requires.idle

pub begin-requires-clause-few : goal.begin-requires-clause-few
begin-requires-clause-few c = subst (λ (s : State). length s.staged.sealed.files < MANIFEST_FILES) (sym c.self.view_is) c.requires.few

pub returns-clause-began : goal.returns-clause-began
returns-clause-began c = subst (λ (s : State). IsHalf c.begin.new.self c.args.file.now (take (needed c.args.file.now.length) (free_beside s.room s.current s.staged)) []) c.self.view_is c.in_ok-begin.ensures.began

pub returns-clause-enough : goal.returns-clause-enough
returns-clause-enough c = subst (λ (s : State). needed c.args.file.now.length ≤ length (free_beside s.room s.current s.staged)) c.self.view_is c.in_ok-begin.ensures.enough

pub returns-clause-staged : goal.returns-clause-staged
returns-clause-staged c bytes has =
    let s : State = c.args.self.now in
    let half = subst (λ (x : State). IsHalf c.begin.new.self c.args.file.now (take (needed c.args.file.now.length) (free_beside x.room x.current x.staged)) []) c.self.view_is c.in_ok-begin.ensures.began in
    begun_staged s _ c.args.file.now (take (needed c.args.file.now.length) (free_beside s.room s.current s.staged)) bytes (ap (λ (x : State). x.current) c.self.view_is) (c.begin.ensures.sealed ∙ ap (λ (x : State). x.staged.sealed) c.self.view_is) half has
