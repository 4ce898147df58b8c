use Rattle.std.proofs.Common.{◌≡◌, ℕ, ◌+◌, ◌≤◌, List, Option, IfSome, length, subst, arith}
use Rattle.sg_disk.specs.View.{View}
use Rattle.sg_disk.specs.Contents.{StoredFile}
use Rattle.sg_disk.specs.declared.places.TheConstants.{DATA, JOURNAL, JOURNAL_LEN}
use Rattle.sg_disk.proofs.Keeping.{one_keeps}
use Rattle.sg_contents.proofs.Standing.{settled_read, stands_long}
use Rattle.sg_staging.specs.Staged.{HalfStaged}
use Rattle.sg_store_state.specs.Ready.{bytes_so_far}
use Rattle.sg_paged_store.proofs.ByteLemmas.{stored_with}
use Rattle.sg_paged_store.proofs.StagingLemmas.{some_half}
use Rattle.sg_paged_runs.specs.declared.call.Call.TheVariants.{Bytes}
use Rattle.sg_paged_runs.proofs.StepLemmas.{same_moments, half_there, brings}
use Rattle.sg_paged_runs.proofs.steps.bring.Goals as goal

pub returns-in_err-stage_bytes-clause-any_moment : goal.returns-in_err-stage_bytes-clause-any_moment
returns-in_err-stage_bytes-clause-any_moment g c old at =
    same_moments (g.D.Disk.view c.args.disk.now) (g.D.Disk.view c.stage_bytes.new.disk) c.args.store.now old (Bytes c.args.bytes.now) (c.stage_bytes.ensures.any_moment old.contents at.ready)

pub returns-clause-any_moment : goal.returns-clause-any_moment
returns-clause-any_moment g c old at =
    same_moments (g.D.Disk.view c.args.disk.now) (g.D.Disk.view c.stage_bytes.new.disk) c.args.store.now old (Bytes c.args.bytes.now) (c.stage_bytes.ensures.any_moment old.contents at.ready)

pub returns-clause-journal : goal.returns-clause-journal
returns-clause-journal g c told one = one_keeps JOURNAL JOURNAL_LEN (g.D.Disk.view c.args.disk.now) (g.D.Disk.view c.stage_bytes.new.disk) told one (c.stage_bytes.ensures.keeps JOURNAL JOURNAL_LEN (omega arith))

pub returns-clause-stepped : goal.returns-clause-stepped
returns-clause-stepped g c old at =
    let v : View = g.D.Disk.view c.args.disk.now in
    let w : View = g.D.Disk.view c.stage_bytes.new.disk in
    let s = c.args.store.now in
    let bytes : List ℕ = c.args.bytes.now in
    let found = some_half s.staged.half (λ h. h.count + length bytes ≤ h.file.length) (c.may_bring.ensures.fits c.if-not-may_bring.false) in
    let h : HalfStaged = found.0 in
    let f : StoredFile = stored_with h.file h.pages (bytes_so_far v.bytes h) in
    let standing = settled_read v old.contents at.ready.settled in
    let far : DATA + s.room ≤ length v.bytes = omega (arith, stands_long old.contents v.bytes standing, at.ready.knows.room) in
    let long : length (bytes_so_far v.bytes h) ≡ h.count = subst (λ (o : Option HalfStaged). IfSome o (λ x. length (bytes_so_far v.bytes x) ≡ x.count)) found.1 (c.may_bring.ensures.came v.bytes far) in
    brings v w s c.stage_bytes.new.self old f bytes (half_there s v.bytes h found.1) (omega (arith, long, found.2)) c.in_ok-stage_bytes.ensures.ready c.in_ok-stage_bytes.ensures.sealed_bytes c.in_ok-stage_bytes.ensures.half_bytes at
