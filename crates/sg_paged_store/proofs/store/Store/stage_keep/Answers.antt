use Rattle.std.proofs.Common.{◌≡◌, ◌⊎◌, ◌≤◌, Bool, Option, None, IfSome, filter, length, true, false, sym, ◌∙◌, ap, subst}
use Rattle.sg_pages.specs.Shelves.{FileAt, stands, IsFilled}
use Rattle.sg_placing.specs.Placing.{is_listed}
use Rattle.sg_staging.specs.Staged.{HalfStaged, Staged}
use Rattle.sg_staging.proofs.StageLemmas.{sealed_fits}
use Rattle.sg_store_state.specs.State.{State}
use Rattle.sg_store_state.proofs.StepLemmas.{kept_staged}
use Rattle.sg_paged_store.proofs.store.Store.stage_keep.Goals as goal

pub keep-requires-clause-pages : goal.keep-requires-clause-pages
keep-requires-clause-pages c = sealed_fits c.self.inside.room c.self.inside.current c.self.inside.staging c.self.invariant.0.whole.high c.self.invariant.0.placed

pub returns-clause-staged : goal.returns-clause-staged
returns-clause-staged c bytes has =
    let s : State = c.args.self.now in
    let test : FileAt → Bool = λ f. is_listed c.args.files.now f.file in
    let t : State = record s { current = c.self.inside.current; staged = c.keep.new.self } in
    let sealed = c.keep.ensures.sealed ∙ ap (λ (x : State). filter test (stands x.staged.sealed)) c.self.view_is in
    let half = subst (λ (x : State). (c.keep.new.self.half ≡ x.staged.half) ⊎ (c.keep.new.self.half ≡ None)) c.self.view_is c.keep.ensures.either in
    let done = kept_staged s t bytes test (ap (λ (x : State). x.current) c.self.view_is) sealed half has in
    record { whole = done.whole; begun = done.begun }

pub invariant_of-self : goal.invariant_of-self
invariant_of-self c =
    let kept = c.self.invariant.0 in
    (record { whole = kept.whole; short = kept.short; ascending = kept.ascending; placed = c.keep.ensures.staged c.self.inside.room c.self.inside.current kept.placed }, c.self.invariant.1, c.self.invariant.2)
