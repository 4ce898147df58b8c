use Rattle.std.proofs.Common.{◌≡◌, ℕ, ◌+◌, ◌<◌, ◌≤◌, ◌==◌, find, length, IsSomeAnd, Option, sym, ◌∙◌, ap, subst, arith}
use Rattle.sg_base.specs.declared.file.Listed.{Listed}
use Rattle.sg_disk.specs.View.{range}
use Rattle.sg_disk.specs.Contents.{Contents}
use Rattle.sg_disk.proofs.Moments.{quiet_one, unchanged_failed}
use Rattle.sg_placing.specs.declared.placed.Placed.{Placed}
use Rattle.sg_contents.specs.StandsFor.{Settled}
use Rattle.sg_contents.proofs.Standing.{settled_read, settled_unchanged}
use Rattle.sg_upgrade.proofs.UpgradeLemmas.{on_err}
use Rattle.sg_store_state.specs.State.{State}
use Rattle.sg_store_state.proofs.ReadLemmas.{ready_quiet}
use Rattle.sg_paged_store.proofs.FileLemmas.{some_placed, contents_bytes}
use Rattle.sg_paged_store.proofs.store.Store.read_some.Goals as goal

pub byte_of-place-requires : goal.byte_of-place-requires
byte_of-place-requires g c =
    let n = length c.args.into.now in
    let some = some_placed (find (λ (q : Placed). q.file.media.0 == c.args.media.0) c.args.self.now.current.files) (λ q. c.args.offset + n ≤ q.file.length) c.requires.file in
    subst (λ (o : Option Placed). IsSomeAnd o (λ q. c.args.offset < q.file.length)) (sym some.1) (omega (arith, some.2, c.requires.some))

pub read-requires : goal.read-requires
read-requires g c = omega (arith, c.byte_of-place.ensures.inside (length c.args.into.now) c.requires.some c.requires.file c.requires.page, c.requires.disk)

pub returns-clause-bytes : goal.returns-clause-bytes
returns-clause-bytes g c p f ready has id =
    let s : State = c.args.self.now in
    let n = length c.args.into.now in
    let v = g.D.Disk.view c.args.disk.now in
    let some = some_placed (find (λ (q : Placed). q.file.media.0 == c.args.media.0) s.current.files) (λ q. c.args.offset + n ≤ q.file.length) c.requires.file in
    let there = c.byte_of-place.ensures.place in
    let row : there.0.file ≡ some.0.file = subst (λ (o : Option Placed). IsSomeAnd o (λ q. there.0.file ≡ q.file)) some.1 there.3 in
    let fits : c.args.offset + n ≤ there.0.file.length = omega (arith, some.2, ap (λ (x : Listed). x.length) row) in
    c.in_ok-read.ensures.ok ready.settled.told ∙ ap (λ (k : ℕ). range v.bytes k n) there.2 ∙ contents_bytes c.args.media.0 c.args.offset n v.bytes s p f there.0 (settled_read v p ready.settled) ready.knows there.1 has id c.requires.some fits c.requires.page

pub returns-clause-ready : goal.returns-clause-ready
returns-clause-ready g c p ready =
    ready_quiet 1 (g.D.Disk.view c.args.disk.now) (g.D.Disk.view c.read.new.self) c.args.self.now p (quiet_one (g.D.Disk.view c.args.disk.now) (g.D.Disk.view c.read.new.self) c.in_ok-read.ensures.passed c.read.ensures.size) ready

pub returns-in_err-read-clause-settled : goal.returns-in_err-read-clause-settled
returns-in_err-read-clause-settled g c =
    let v = g.D.Disk.view c.args.disk.now in
    let w = g.D.Disk.view c.read.new.self in
    on_err c.from_residual.result ((p : Contents) → Settled v p → Settled w p) (λ p settled.
    settled_unchanged v w p (unchanged_failed v w c.in_err-read.ensures.failed) c.in_err-read.ensures.failed.told settled)
