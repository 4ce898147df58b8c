use Rattle.std.proofs.Common.{◌≡◌, inl, ℕ, ◌+◌, ◌≤◌, Option, IfSome, length, subst, arith}
use Rattle.sg_disk.specs.View.{Torn, Written, Passed}
use Rattle.sg_disk.specs.Contents.{Contents}
use Rattle.sg_disk.specs.StandsFor.{Settled}
use Rattle.sg_disk.proofs.Writes.{one_kept, within_write, within_write_failed}
use Rattle.sg_disk.proofs.Keeping.{keeps_within}
use Rattle.sg_disk.proofs.Standing.{settled_leaves}
use Rattle.sg_disk.specs.declared.places.TheConstants.{DATA, JOURNAL, JOURNAL_LEN}
use Rattle.sg_store.specs.Ready.{IsReady}
use Rattle.sg_store.proofs.FreshLemmas.{on_err}
use Rattle.sg_store.specs.declared.store.Half.{Half}
use Rattle.sg_store.proofs.StageLemmas.{Writes, some_half, staged_within, staged_leaves, ready_after, sealed_after, half_after}
use Rattle.sg_store.proofs.store.Store.stage_bytes.Goals as goal

pub returns-in_err-write_at-clause-within : goal.returns-in_err-write_at-clause-within
returns-in_err-write_at-clause-within g c =
    let v = g.D.Disk.view c.args.disk.now in
    let w = g.D.Disk.view c.write_at.new.self in
    let s = c.args.self.now in
    let bs = c.args.bytes.now in
    let found = some_half s.half (λ h. h.count + length bs ≤ h.placed.file.length) c.requires.fits in
    let half = found.0 in
    let at : c.next_place-place.result ≡ half.placed.place + half.count = subst (λ (h : Option Half). IfSome h (λ x. c.next_place-place.result ≡ x.placed.place + x.count)) found.1 c.next_place-place.ensures in
    let placed = s.half_placed half found.1 in
    staged_within v w s half c.next_place-place.result (length bs) at placed found.2 (within_write_failed c.next_place-place.result (length bs) v w c.in_err-write_at.ensures.failed)

pub returns-clause-within : goal.returns-clause-within
returns-clause-within g c =
    let v = g.D.Disk.view c.args.disk.now in
    let w = g.D.Disk.view c.write_at.new.self in
    let s = c.args.self.now in
    let bs = c.args.bytes.now in
    let found = some_half s.half (λ h. h.count + length bs ≤ h.placed.file.length) c.requires.fits in
    let half = found.0 in
    let at : c.next_place-place.result ≡ half.placed.place + half.count = subst (λ (h : Option Half). IfSome h (λ x. c.next_place-place.result ≡ x.placed.place + x.count)) found.1 c.next_place-place.ensures in
    let placed = s.half_placed half found.1 in
    let inside : c.next_place-place.result + length bs ≤ v.size = omega (arith, at, c.requires.disk, placed.inside.1, found.2) in
    staged_within v w s half c.next_place-place.result (length bs) at placed found.2 (within_write c.next_place-place.result bs v w inside c.in_ok-write_at.ensures.passed)

pub returns-in_err-write_at-clause-any_moment : goal.returns-in_err-write_at-clause-any_moment
returns-in_err-write_at-clause-any_moment g c p ready =
    let v = g.D.Disk.view c.args.disk.now in
    let w = g.D.Disk.view c.write_at.new.self in
    let s = c.args.self.now in
    let bs = c.args.bytes.now in
    let found = some_half s.half (λ h. h.count + length bs ≤ h.placed.file.length) c.requires.fits in
    let half = found.0 in
    let at : c.next_place-place.result ≡ half.placed.place + half.count = subst (λ (h : Option Half). IfSome h (λ x. c.next_place-place.result ≡ x.placed.place + x.count)) found.1 c.next_place-place.ensures in
    let placed = s.half_placed half found.1 in
    staged_leaves v w s p half c.next_place-place.result (length bs) at found.1 placed found.2 c.in_err-write_at.ensures.failed.time c.in_err-write_at.ensures.failed.images ready

pub returns-clause-any_moment : goal.returns-clause-any_moment
returns-clause-any_moment g c p ready =
    let v = g.D.Disk.view c.args.disk.now in
    let w = g.D.Disk.view c.write_at.new.self in
    let s = c.args.self.now in
    let bs = c.args.bytes.now in
    let found = some_half s.half (λ h. h.count + length bs ≤ h.placed.file.length) c.requires.fits in
    let half = found.0 in
    let at : c.next_place-place.result ≡ half.placed.place + half.count = subst (λ (h : Option Half). IfSome h (λ x. c.next_place-place.result ≡ x.placed.place + x.count)) found.1 c.next_place-place.ensures in
    let placed = s.half_placed half found.1 in
    staged_leaves v w s p half c.next_place-place.result (length bs) at found.1 placed found.2 c.in_ok-write_at.ensures.passed.time c.in_ok-write_at.ensures.passed.images ready

pub returns-clause-ready : goal.returns-clause-ready
returns-clause-ready g c p ready =
    let v = g.D.Disk.view c.args.disk.now in
    let w = g.D.Disk.view c.write_at.new.self in
    let s = c.args.self.now in
    let bs = c.args.bytes.now in
    let found = some_half s.half (λ h. h.count + length bs ≤ h.placed.file.length) c.requires.fits in
    let half = found.0 in
    let at : c.next_place-place.result ≡ half.placed.place + half.count = subst (λ (h : Option Half). IfSome h (λ x. c.next_place-place.result ≡ x.placed.place + x.count)) found.1 c.next_place-place.ensures in
    let placed = s.half_placed half found.1 in
    let inside : c.next_place-place.result + length bs ≤ v.size = omega (arith, at, c.requires.disk, placed.inside.1, found.2) in
    let within = staged_within v w s half c.next_place-place.result (length bs) at placed found.2 (within_write c.next_place-place.result bs v w inside c.in_ok-write_at.ensures.passed) in
    let call : Passed (Written (half.placed.place + half.count) bs) (Torn (half.placed.place + half.count) (length bs)) v w = subst (λ (k : ℕ). Passed (Written k bs) (Torn k (length bs)) v w) at c.in_ok-write_at.ensures.passed in
    let writes : Writes v w s c.take_in.new.self half bs = record { is = found.1; placed = placed; fits = found.2; size = c.requires.disk; call = call; keeps = c.take_in.ensures.snapshot; sealed = c.take_in.ensures.sealed; takes = c.take_in.ensures.bytes } in
    ready_after v w s c.take_in.new.self p half bs writes within ready

pub returns-clause-half_bytes : goal.returns-clause-half_bytes
returns-clause-half_bytes g c p f ready was =
    let v = g.D.Disk.view c.args.disk.now in
    let w = g.D.Disk.view c.write_at.new.self in
    let s = c.args.self.now in
    let bs = c.args.bytes.now in
    let found = some_half s.half (λ h. h.count + length bs ≤ h.placed.file.length) c.requires.fits in
    let half = found.0 in
    let at : c.next_place-place.result ≡ half.placed.place + half.count = subst (λ (h : Option Half). IfSome h (λ x. c.next_place-place.result ≡ x.placed.place + x.count)) found.1 c.next_place-place.ensures in
    let placed = s.half_placed half found.1 in
    let call : Passed (Written (half.placed.place + half.count) bs) (Torn (half.placed.place + half.count) (length bs)) v w = subst (λ (k : ℕ). Passed (Written k bs) (Torn k (length bs)) v w) at c.in_ok-write_at.ensures.passed in
    let writes : Writes v w s c.take_in.new.self half bs = record { is = found.1; placed = placed; fits = found.2; size = c.requires.disk; call = call; keeps = c.take_in.ensures.snapshot; sealed = c.take_in.ensures.sealed; takes = c.take_in.ensures.bytes } in
    half_after v w s c.take_in.new.self p half bs f writes ready was

pub returns-clause-sealed_bytes : goal.returns-clause-sealed_bytes
returns-clause-sealed_bytes g c p ready =
    let v = g.D.Disk.view c.args.disk.now in
    let w = g.D.Disk.view c.write_at.new.self in
    let s = c.args.self.now in
    let bs = c.args.bytes.now in
    let found = some_half s.half (λ h. h.count + length bs ≤ h.placed.file.length) c.requires.fits in
    let half = found.0 in
    let at : c.next_place-place.result ≡ half.placed.place + half.count = subst (λ (h : Option Half). IfSome h (λ x. c.next_place-place.result ≡ x.placed.place + x.count)) found.1 c.next_place-place.ensures in
    let placed = s.half_placed half found.1 in
    let call : Passed (Written (half.placed.place + half.count) bs) (Torn (half.placed.place + half.count) (length bs)) v w = subst (λ (k : ℕ). Passed (Written k bs) (Torn k (length bs)) v w) at c.in_ok-write_at.ensures.passed in
    let writes : Writes v w s c.take_in.new.self half bs = record { is = found.1; placed = placed; fits = found.2; size = c.requires.disk; call = call; keeps = c.take_in.ensures.snapshot; sealed = c.take_in.ensures.sealed; takes = c.take_in.ensures.bytes } in
    sealed_after v w s c.take_in.new.self p half bs writes ready

pub returns-in_err-write_at-clause-journal : goal.returns-in_err-write_at-clause-journal
returns-in_err-write_at-clause-journal g c told one =
    let v = g.D.Disk.view c.args.disk.now in
    let w = g.D.Disk.view c.write_at.new.self in
    let s = c.args.self.now in
    let bs = c.args.bytes.now in
    let found = some_half s.half (λ h. h.count + length bs ≤ h.placed.file.length) c.requires.fits in
    let half = found.0 in
    let at : c.next_place-place.result ≡ half.placed.place + half.count = subst (λ (h : Option Half). IfSome h (λ x. c.next_place-place.result ≡ x.placed.place + x.count)) found.1 c.next_place-place.ensures in
    let placed = s.half_placed half found.1 in
    one_kept DATA s.room JOURNAL JOURNAL_LEN v w told (inl (omega arith)) one (staged_within v w s half c.next_place-place.result (length bs) at placed found.2 (within_write_failed c.next_place-place.result (length bs) v w c.in_err-write_at.ensures.failed))

pub returns-clause-journal : goal.returns-clause-journal
returns-clause-journal g c told one =
    let v = g.D.Disk.view c.args.disk.now in
    let w = g.D.Disk.view c.write_at.new.self in
    let s = c.args.self.now in
    let bs = c.args.bytes.now in
    let found = some_half s.half (λ h. h.count + length bs ≤ h.placed.file.length) c.requires.fits in
    let half = found.0 in
    let at : c.next_place-place.result ≡ half.placed.place + half.count = subst (λ (h : Option Half). IfSome h (λ x. c.next_place-place.result ≡ x.placed.place + x.count)) found.1 c.next_place-place.ensures in
    let placed = s.half_placed half found.1 in
    let inside : c.next_place-place.result + length bs ≤ v.size = omega (arith, at, c.requires.disk, placed.inside.1, found.2) in
    one_kept DATA s.room JOURNAL JOURNAL_LEN v w told (inl (omega arith)) one (staged_within v w s half c.next_place-place.result (length bs) at placed found.2 (within_write c.next_place-place.result bs v w inside c.in_ok-write_at.ensures.passed))

pub returns-in_err-write_at-clause-keeps : goal.returns-in_err-write_at-clause-keeps
returns-in_err-write_at-clause-keeps g c place n below = keeps_within DATA c.args.self.now.room place n (g.D.Disk.view c.args.disk.now) (g.D.Disk.view c.write_at.new.self) (inl below) (returns-in_err-write_at-clause-within g c)

pub returns-clause-keeps : goal.returns-clause-keeps
returns-clause-keeps g c place n below = keeps_within DATA c.args.self.now.room place n (g.D.Disk.view c.args.disk.now) (g.D.Disk.view c.write_at.new.self) (inl below) (returns-clause-within g c)

pub returns-in_err-write_at-clause-settled : goal.returns-in_err-write_at-clause-settled
returns-in_err-write_at-clause-settled g c =
    let v = g.D.Disk.view c.args.disk.now in
    let w = g.D.Disk.view c.write_at.new.self in
    on_err c.from_residual.result ((p : Contents) → IsReady v c.args.self.now p → Settled w p) (λ p ready.
    settled_leaves v w p ready.settled.told (returns-in_err-write_at-clause-any_moment g c p ready) c.in_err-write_at.ensures.failed.told)
