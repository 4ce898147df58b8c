use Rattle.std.proofs.Common.{inl, ◌≡◌, ◌++◌, ◌+◌, ◌%◌, ◌<◌, ◌≤◌, ℕ, List, Option, IfSome, IsSomeAnd, length, refl, sym, ◌∙◌, ap, subst, arith}
use Rattle.sg_upgrade.proofs.UpgradeLemmas.{on_err}
use Rattle.sg_base.specs.declared.file.Listed.{Listed}
use Rattle.sg_disk.specs.View.{View, put}
use Rattle.sg_disk.specs.Runs.{Within}
use Rattle.sg_disk.specs.Contents.{Contents}
use Rattle.sg_disk.specs.Contents.{Pages}
use Rattle.sg_disk.specs.declared.places.TheConstants.{DATA, PAGE}
use Rattle.sg_disk.proofs.Keeping.{keeps_within}
use Rattle.sg_disk.proofs.Writes.{within_write, within_write_failed}
use Rattle.sg_pages.specs.Pages.{needed}
use Rattle.sg_pages.specs.Shelves.{byte_place}
use Rattle.sg_contents.specs.StandsFor.{Settled}
use Rattle.sg_contents.proofs.Standing.{settled_leaves}
use Rattle.sg_staging.specs.Staged.{IsStagedIn, IsHalf}
use Rattle.sg_store_state.specs.State.{State}
use Rattle.sg_store_state.specs.Ready.{IsReady}
use Rattle.sg_store_state.proofs.StageLemmas.{place_high, staged_leaves}
use Rattle.sg_paged_store.proofs.ByteLemmas.{half_more, sealed_same}
use Rattle.sg_paged_store.proofs.StagingLemmas.{goes_of, next_asks, goes_within, ready_staged}
use Rattle.sg_paged_store.proofs.store.Store.stage_some.Goals as goal

pub write_at-requires : goal.write_at-requires
write_at-requires g c =
    let s : State = c.args.self.now in
    let place : ℕ = c.next_place-place.result in
    let kept = subst (λ (x : State). IsStagedIn x.room x.current x.staged) c.self.view_is c.self.invariant.0.placed in
    let at = subst (λ (x : State). IfSome x.staged.half (λ h. place ≡ byte_place (Pages h.pages) h.count)) c.self.view_is c.next_place-place.ensures in
    let goes = goes_of s place (length c.args.bytes.now) kept c.requires.some c.requires.fits c.requires.page at in
    omega (arith, place_high s goes.0 place (length c.args.bytes.now) goes.1, c.requires.disk)

pub returns-in_err-write_at-clause-any_moment : goal.returns-in_err-write_at-clause-any_moment
returns-in_err-write_at-clause-any_moment g c p ready =
    let s : State = c.args.self.now in
    let v : View = g.D.Disk.view c.args.disk.now in
    let w : View = g.D.Disk.view c.write_at.new.self in
    let place : ℕ = c.next_place-place.result in
    let n : ℕ = length c.args.bytes.now in
    let kept = subst (λ (x : State). IsStagedIn x.room x.current x.staged) c.self.view_is c.self.invariant.0.placed in
    let at = subst (λ (x : State). IfSome x.staged.half (λ h. place ≡ byte_place (Pages h.pages) h.count)) c.self.view_is c.next_place-place.ensures in
    let goes = goes_of s place n kept c.requires.some c.requires.fits c.requires.page at in
    staged_leaves v w s goes.0 p place n goes.1 (within_write_failed place n v w c.in_err-write_at.ensures.failed) ready

pub returns-clause-any_moment : goal.returns-clause-any_moment
returns-clause-any_moment g c p ready =
    let s : State = c.args.self.now in
    let v : View = g.D.Disk.view c.args.disk.now in
    let w : View = g.D.Disk.view c.write_at.new.self in
    let place : ℕ = c.next_place-place.result in
    let n : ℕ = length c.args.bytes.now in
    let kept = subst (λ (x : State). IsStagedIn x.room x.current x.staged) c.self.view_is c.self.invariant.0.placed in
    let at = subst (λ (x : State). IfSome x.staged.half (λ h. place ≡ byte_place (Pages h.pages) h.count)) c.self.view_is c.next_place-place.ensures in
    let goes = goes_of s place n kept c.requires.some c.requires.fits c.requires.page at in
    let fits : place + n ≤ v.size = omega (arith, place_high s goes.0 place n goes.1, c.requires.disk) in
    staged_leaves v w s goes.0 p place n goes.1 (within_write place c.args.bytes.now v w fits c.in_ok-write_at.ensures.passed) ready

pub returns-in_err-write_at-clause-within : goal.returns-in_err-write_at-clause-within
returns-in_err-write_at-clause-within g c =
    let s : State = c.args.self.now in
    let v : View = g.D.Disk.view c.args.disk.now in
    let w : View = g.D.Disk.view c.write_at.new.self in
    let place : ℕ = c.next_place-place.result in
    let n : ℕ = length c.args.bytes.now in
    let kept = subst (λ (x : State). IsStagedIn x.room x.current x.staged) c.self.view_is c.self.invariant.0.placed in
    let at = subst (λ (x : State). IfSome x.staged.half (λ h. place ≡ byte_place (Pages h.pages) h.count)) c.self.view_is c.next_place-place.ensures in
    let goes = goes_of s place n kept c.requires.some c.requires.fits c.requires.page at in
    goes_within v w s goes.0 place n goes.1 (within_write_failed place n v w c.in_err-write_at.ensures.failed)

pub returns-clause-within : goal.returns-clause-within
returns-clause-within g c =
    let s : State = c.args.self.now in
    let v : View = g.D.Disk.view c.args.disk.now in
    let w : View = g.D.Disk.view c.write_at.new.self in
    let place : ℕ = c.next_place-place.result in
    let n : ℕ = length c.args.bytes.now in
    let kept = subst (λ (x : State). IsStagedIn x.room x.current x.staged) c.self.view_is c.self.invariant.0.placed in
    let at = subst (λ (x : State). IfSome x.staged.half (λ h. place ≡ byte_place (Pages h.pages) h.count)) c.self.view_is c.next_place-place.ensures in
    let goes = goes_of s place n kept c.requires.some c.requires.fits c.requires.page at in
    let fits : place + n ≤ v.size = omega (arith, place_high s goes.0 place n goes.1, c.requires.disk) in
    goes_within v w s goes.0 place n goes.1 (within_write place c.args.bytes.now v w fits c.in_ok-write_at.ensures.passed)

pub returns-clause-ready : goal.returns-clause-ready
returns-clause-ready g c p ready =
    let s : State = c.args.self.now in
    let v : View = g.D.Disk.view c.args.disk.now in
    let w : View = g.D.Disk.view c.write_at.new.self in
    let place : ℕ = c.next_place-place.result in
    let bs : List ℕ = c.args.bytes.now in
    let n : ℕ = length bs in
    let kept = subst (λ (x : State). IsStagedIn x.room x.current x.staged) c.self.view_is c.self.invariant.0.placed in
    let at = subst (λ (x : State). IfSome x.staged.half (λ h. place ≡ byte_place (Pages h.pages) h.count)) c.self.view_is c.next_place-place.ensures in
    let goes = goes_of s place n kept c.requires.some c.requires.fits c.requires.page at in
    let fits : place + n ≤ v.size = omega (arith, place_high s goes.0 place n goes.1, c.requires.disk) in
    let passed = c.in_ok-write_at.ensures.passed in
    let t : State = record { display = c.self.inside.display; epoch = c.self.inside.epoch; room = c.self.inside.room; number = c.self.inside.number; text = c.self.inside.text; spare = c.self.inside.spare; spare_open = c.self.inside.spare_open; current = c.self.inside.current; staged = c.take_in.new.self } in
    ready_staged v w s t goes.0 p place bs goes.1 (within_write place bs v w fits passed) passed.told passed.bytes
    (record { display = ap (λ (x : State). x.display) c.self.view_is; epoch = ap (λ (x : State). x.epoch) c.self.view_is; room = ap (λ (x : State). x.room) c.self.view_is; number = ap (λ (x : State). x.number) c.self.view_is; text = ap (λ (x : State). x.text) c.self.view_is; current = ap (λ (x : State). x.current) c.self.view_is; spare = ap (λ (x : State). x.spare) c.self.view_is; spare_open = ap (λ (x : State). x.spare_open) c.self.view_is })
    (c.take_in.ensures.sealed ∙ ap (λ (x : State). x.staged.sealed) c.self.view_is)
    (λ before half. c.take_in.ensures.bytes goes.0.file goes.0.pages before (subst (λ (x : State). IsHalf x.staged goes.0.file goes.0.pages before) (sym c.self.view_is) half)) ready

pub returns-in_err-write_at-clause-settled : goal.returns-in_err-write_at-clause-settled
returns-in_err-write_at-clause-settled g c =
    let v : View = g.D.Disk.view c.args.disk.now in
    let w : View = g.D.Disk.view c.write_at.new.self in
    on_err c.from_residual.result ((p : Contents) → IsReady v c.args.self.now p → Settled w p) (λ p ready.
    settled_leaves v w p ready.settled.told (returns-in_err-write_at-clause-any_moment g c p ready) c.in_err-write_at.ensures.failed.told)

pub invariant_of-self : goal.invariant_of-self
invariant_of-self g c =
    let kept = c.self.invariant.0 in
    (record { whole = kept.whole; short = kept.short; ascending = kept.ascending; placed = c.take_in.ensures.staged c.self.inside.room c.self.inside.current kept.placed }, c.self.invariant.1, c.self.invariant.2)

pub returns-clause-half_bytes : goal.returns-clause-half_bytes
returns-clause-half_bytes g c p f ready held =
    let s : State = c.args.self.now in
    let v : View = g.D.Disk.view c.args.disk.now in
    let w : View = g.D.Disk.view c.write_at.new.self in
    let place : ℕ = c.next_place-place.result in
    let bs : List ℕ = c.args.bytes.now in
    let n : ℕ = length bs in
    let kept = subst (λ (x : State). IsStagedIn x.room x.current x.staged) c.self.view_is c.self.invariant.0.placed in
    let at = subst (λ (x : State). IfSome x.staged.half (λ h. place ≡ byte_place (Pages h.pages) h.count)) c.self.view_is c.next_place-place.ensures in
    let goes = goes_of s place n kept c.requires.some c.requires.fits c.requires.page at in
    let fits : place + n ≤ v.size = omega (arith, place_high s goes.0 place n goes.1, c.requires.disk) in
    let passed = c.in_ok-write_at.ensures.passed in
    let torn = (within_write place bs v w fits passed).bytes ready.settled.told in
    let t : State = record { display = c.self.inside.display; epoch = c.self.inside.epoch; room = c.self.inside.room; number = c.self.inside.number; text = c.self.inside.text; spare = c.self.inside.spare; spare_open = c.self.inside.spare_open; current = c.self.inside.current; staged = c.take_in.new.self } in
    half_more s t goes.0 v.bytes w.bytes place bs f goes.1 (omega (arith, v.sized ready.settled.told, c.requires.disk)) (passed.bytes ready.settled.told) torn
    (λ before half. c.take_in.ensures.bytes goes.0.file goes.0.pages before (subst (λ (x : State). IsHalf x.staged goes.0.file goes.0.pages before) (sym c.self.view_is) half)) ready.staged held

pub returns-clause-sealed_bytes : goal.returns-clause-sealed_bytes
returns-clause-sealed_bytes g c p ready =
    let s : State = c.args.self.now in
    let v : View = g.D.Disk.view c.args.disk.now in
    let w : View = g.D.Disk.view c.write_at.new.self in
    let place : ℕ = c.next_place-place.result in
    let bs : List ℕ = c.args.bytes.now in
    let n : ℕ = length bs in
    let kept = subst (λ (x : State). IsStagedIn x.room x.current x.staged) c.self.view_is c.self.invariant.0.placed in
    let at = subst (λ (x : State). IfSome x.staged.half (λ h. place ≡ byte_place (Pages h.pages) h.count)) c.self.view_is c.next_place-place.ensures in
    let goes = goes_of s place n kept c.requires.some c.requires.fits c.requires.page at in
    let fits : place + n ≤ v.size = omega (arith, place_high s goes.0 place n goes.1, c.requires.disk) in
    let passed = c.in_ok-write_at.ensures.passed in
    let torn = (within_write place bs v w fits passed).bytes ready.settled.told in
    let t : State = record { display = c.self.inside.display; epoch = c.self.inside.epoch; room = c.self.inside.room; number = c.self.inside.number; text = c.self.inside.text; spare = c.self.inside.spare; spare_open = c.self.inside.spare_open; current = c.self.inside.current; staged = c.take_in.new.self } in
    sealed_same s t goes.0 v.bytes w.bytes place n goes.1 torn (c.take_in.ensures.sealed ∙ ap (λ (x : State). x.staged.sealed) c.self.view_is)

pub returns-in_err-write_at-clause-keeps : goal.returns-in_err-write_at-clause-keeps
returns-in_err-write_at-clause-keeps g c place n low = keeps_within DATA c.args.self.now.room place n (g.D.Disk.view c.args.disk.now) (g.D.Disk.view c.write_at.new.self) (inl low) (returns-in_err-write_at-clause-within g c)

pub returns-clause-keeps : goal.returns-clause-keeps
returns-clause-keeps g c place n low = keeps_within DATA c.args.self.now.room place n (g.D.Disk.view c.args.disk.now) (g.D.Disk.view c.write_at.new.self) (inl low) (returns-clause-within g c)
