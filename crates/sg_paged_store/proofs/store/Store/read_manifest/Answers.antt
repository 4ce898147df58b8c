use Rattle.std.proofs.Common.{◌+◌, length, ◌∙◌, ap}
use Rattle.sg_disk.specs.declared.places.TheConstants.{TEXT}
use Rattle.sg_slots.specs.Slots.{slot_place, opposite}
use Rattle.sg_store_state.specs.State.{State}
use Rattle.sg_disk.specs.Contents.{Contents}
use Rattle.sg_disk.proofs.Moments.{quiet_one, unchanged_failed}
use Rattle.sg_contents.specs.StandsFor.{Settled}
use Rattle.sg_contents.proofs.Standing.{settled_unchanged}
use Rattle.sg_upgrade.proofs.UpgradeLemmas.{on_err}
use Rattle.sg_store_state.proofs.ReadLemmas.{ready_quiet, manifest_read}
use Rattle.sg_paged_store.proofs.store.Store.read_manifest.Goals as goal

pub returns-in_err-read-clause-settled : goal.returns-in_err-read-clause-settled
returns-in_err-read-clause-settled g c =
    let v = g.D.Disk.view c.args.disk.now in
    let w = g.D.Disk.view c.read.new.self in
    on_err c.from_residual.result ((p : Contents) → Settled v p → Settled w p) (λ p settled.
    settled_unchanged v w p (unchanged_failed v w c.in_err-read.ensures.failed) c.in_err-read.ensures.failed.told settled)

pub returns-clause-text : goal.returns-clause-text
returns-clause-text g c p text ready is =
    manifest_read (g.D.Disk.view c.args.disk.now) c.args.self.now p text c.read.new.into c.text_place.result (length c.args.into.now) ready is c.requires.buffer (c.text_place.ensures.place ∙ ap (λ (s : State). slot_place (opposite s.spare) + TEXT) c.self.view_is) (c.in_ok-read.ensures.ok ready.settled.told)

pub returns-clause-ready : goal.returns-clause-ready
returns-clause-ready g c p ready =
    ready_quiet 1 (g.D.Disk.view c.args.disk.now) (g.D.Disk.view c.read.new.self) c.args.self.now p (quiet_one (g.D.Disk.view c.args.disk.now) (g.D.Disk.view c.read.new.self) c.in_ok-read.ensures.passed c.read.ensures.size) ready
