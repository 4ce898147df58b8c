use Rattle.std.proofs.Common.{◌≡◌, ℕ, ◌+◌, ◌≤◌, ◌==◌, Option, find, length, IsSomeAnd, ◌∙◌, subst, ap, arith}
use Rattle.sg_disk.specs.View.{range}
use Rattle.sg_disk.specs.Contents.{Contents}
use Rattle.sg_disk.specs.StandsFor.{Settled}
use Rattle.sg_disk.proofs.Moments.{unchanged_failed}
use Rattle.sg_disk.proofs.Standing.{settled_read, settled_unchanged}
use Rattle.sg_placing.specs.Placing.{IsPlaced}
use Rattle.sg_placing.specs.declared.placed.Placed.{Placed}
use Rattle.sg_store.proofs.FreshLemmas.{on_err}
use Rattle.sg_store.proofs.ReadLemmas.{some_placed, found_at, file_bytes}
use Rattle.sg_store.proofs.store.Store.read_file.Goals as goal

pub overflow_add-place : goal.overflow_add-place
overflow_add-place g c =
    let s = c.args.self.now in
    let n = length c.args.into.now in
    let some = some_placed (find (λ (q : Placed). q.file.media.0 == c.args.media.0) s.current) (λ q. c.args.offset + n ≤ q.file.length) c.requires.file in
    let q = some.0 in
    let place : c.place_of-place.result ≡ q.place = subst (λ (o : Option Placed). IsSomeAnd o (λ x. c.place_of-place.result ≡ x.place)) some.1 c.place_of-place.ensures in
    let at = found_at (λ (x : Placed). x.file.media.0 == c.args.media.0) s.current q some.1 in
    let placed : IsPlaced s.room q = subst (IsPlaced s.room) (at.2 q) (s.current_placed at.0 q at.1) in
    omega (arith, place, c.from.ensures, placed.inside.1, some.2, s.room_fits)

pub read-requires : goal.read-requires
read-requires g c =
    let s = c.args.self.now in
    let n = length c.args.into.now in
    let some = some_placed (find (λ (q : Placed). q.file.media.0 == c.args.media.0) s.current) (λ q. c.args.offset + n ≤ q.file.length) c.requires.file in
    let q = some.0 in
    let place : c.place_of-place.result ≡ q.place = subst (λ (o : Option Placed). IsSomeAnd o (λ x. c.place_of-place.result ≡ x.place)) some.1 c.place_of-place.ensures in
    let at = found_at (λ (x : Placed). x.file.media.0 == c.args.media.0) s.current q some.1 in
    let placed : IsPlaced s.room q = subst (IsPlaced s.room) (at.2 q) (s.current_placed at.0 q at.1) in
    omega (arith, place, c.from.ensures, placed.inside.1, some.2, c.requires.disk)

pub returns-clause-bytes : goal.returns-clause-bytes
returns-clause-bytes g c p f ready has id =
    let s = c.args.self.now in
    let n = length c.args.into.now in
    let some = some_placed (find (λ (q : Placed). q.file.media.0 == c.args.media.0) s.current) (λ q. c.args.offset + n ≤ q.file.length) c.requires.file in
    let q = some.0 in
    let place : c.place_of-place.result ≡ q.place = subst (λ (o : Option Placed). IsSomeAnd o (λ x. c.place_of-place.result ≡ x.place)) some.1 c.place_of-place.ensures in
    let v = g.D.Disk.view c.args.disk.now in
    let at : c.place_of-place.result + c.from.result ≡ q.place + c.args.offset = omega (arith, place, c.from.ensures) in
    c.in_ok-read.ensures.ok ready.settled.told ∙ ap (λ (k : ℕ). range v.bytes k n) at ∙ file_bytes s p v.bytes f q c.args.media.0 c.args.offset n (settled_read v p ready.settled) ready.knows some.1 has id some.2

pub returns-in_err-read-clause-settled : goal.returns-in_err-read-clause-settled
returns-in_err-read-clause-settled g c =
    let v = g.D.Disk.view c.args.disk.now in
    let w = g.D.Disk.view c.read.new.self in
    on_err c.from_residual.result ((p : Contents) → Settled v p → Settled w p) (λ p settled.
    settled_unchanged v w p (unchanged_failed v w c.in_err-read.ensures.failed) c.in_err-read.ensures.failed.told settled)
