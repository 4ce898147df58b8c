use Rattle.std.proofs.Common.{◌≡◌, ◌+◌, ◌≤◌, Option, IfSome, length, ◌∙◌, subst, arith}
use Rattle.sg_disk.specs.Contents.{StoredFile}
use Rattle.sg_disk.specs.declared.places.TheConstants.{DATA}
use Rattle.sg_contents.proofs.Standing.{stands_long}
use Rattle.sg_staging.specs.Staged.{HalfStaged}
use Rattle.sg_store_state.specs.Ready.{bytes_so_far}
use Rattle.sg_paged_store.proofs.ByteLemmas.{stored_with}
use Rattle.sg_paged_store.proofs.StagingLemmas.{some_half}
use Rattle.sg_paged_runs.proofs.StepLemmas.{half_there, seals}
use Rattle.sg_paged_runs.proofs.steps.seal.Goals as goal

pub returns-clause-stepped : goal.returns-clause-stepped
returns-clause-stepped c bytes old shows =
    let s = c.args.store.now in
    let found = some_half s.staged.half (λ h. h.count ≡ h.file.length) (c.may_seal.ensures.lawful c.if-not-may_seal.false) in
    let h : HalfStaged = found.0 in
    let f : StoredFile = stored_with h.file h.pages (bytes_so_far bytes h) in
    let is = half_there s bytes h found.1 in
    let far : DATA + s.room ≤ length bytes = omega (arith, stands_long old.contents bytes shows.stands, shows.knows.room) in
    let long : length (bytes_so_far bytes h) ≡ h.count = subst (λ (o : Option HalfStaged). IfSome o (λ x. length (bytes_so_far bytes x) ≡ x.count)) found.1 (c.may_seal.ensures.came bytes far) in
    seals s c.stage_seal.new.self bytes old f is (long ∙ found.2) (c.in_ok-stage_seal.ensures.digest_bytes bytes f shows.staged is) (c.in_ok-stage_seal.ensures.sealed_bytes bytes f is) c.stage_seal.ensures.idle c.stage_seal.ensures.snapshot (c.stage_seal.ensures.staged bytes) shows
