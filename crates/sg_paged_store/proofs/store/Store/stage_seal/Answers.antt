use Rattle.std.proofs.Common.{◌≡◌, ◌≢◌, ◌++◌, ◌∷◌, [], ◌≤◌, ◌<◌, List, ℕ, Option, None, Some, IfSome, IsSomeAnd, length, refl, sym, ◌∙◌, ap, subst}
use Rattle.std.proofs.lemmas.Result.{err_from_is_err_and}
use Rattle.md5.specs.Md5.{md5, Holds}
use Rattle.sg_disk.specs.Contents.{StoredFile}
use Rattle.sg_pages.specs.Shelves.{stands}
use Rattle.sg_staging.specs.Staged.{HalfStaged, Staged, half_at, HasPlace}
use Rattle.sg_staging.specs.declared.staging.DigestDiffers.{DigestDiffers}
use Rattle.sg_staging.proofs.StageLemmas.{has_place}
use Rattle.sg_store_state.specs.State.{State}
use Rattle.sg_store_state.specs.Ready.{HasStaged}
use Rattle.sg_store_state.proofs.StepLemmas.{sealed_staged, dropped_staged}
use Rattle.sg_paged_store.proofs.ByteLemmas.{half_is, sealed_with, half_holds, handed_on}
use Rattle.sg_paged_store.proofs.StagingLemmas.{some_half}
use Rattle.sg_paged_store.proofs.store.Store.stage_seal.Goals as goal

pub seal-requires-clause-place : goal.seal-requires-clause-place
seal-requires-clause-place c =
    let half = some_half c.args.self.now.staged.half (λ h. h.count ≡ h.file.length) c.requires in
    has_place c.self.inside.room c.self.inside.current c.self.inside.staging half.0 c.self.invariant.0.whole.high c.self.invariant.0.placed (ap (λ (x : State). x.staged.half) c.self.view_is ∙ half.1)

pub returns-clause-staged : goal.returns-clause-staged
returns-clause-staged c bytes has =
    let s : State = c.args.self.now in
    let half = some_half s.staged.half (λ h. h.count ≡ h.file.length) c.requires in
    let t : State = record s { current = c.self.inside.current; staged = c.seal.new.self } in
    let sealed = subst (λ (x : State). IfSome x.staged.half (λ h. stands c.seal.new.self.sealed ≡ stands x.staged.sealed ++ half_at h ∷ [])) c.self.view_is c.in_ok-seal.ensures.sealed in
    let digest = subst (λ (x : State). IfSome x.staged.half (λ h. (m : List ℕ) → Holds h.hasher m → md5 m ≡ h.file.md5)) c.self.view_is c.in_ok-seal.ensures.digest in
    let done = sealed_staged s t half.0 bytes half.1 half.2 (ap (λ (x : State). x.current) c.self.view_is) (subst (λ (h : Option HalfStaged). IfSome h (λ x. stands c.seal.new.self.sealed ≡ stands s.staged.sealed ++ half_at x ∷ [])) half.1 sealed) c.seal.ensures.idle (subst (λ (h : Option HalfStaged). IfSome h (λ x. (m : List ℕ) → Holds x.hasher m → md5 m ≡ x.file.md5)) half.1 digest) has in
    record { whole = done.whole; begun = done.begun }

pub invariant_of-self : goal.invariant_of-self
invariant_of-self c =
    let kept = c.self.invariant.0 in
    (record { whole = kept.whole; short = kept.short; ascending = kept.ascending; placed = c.seal.ensures.staged c.self.inside.room c.self.inside.current kept.placed }, c.self.invariant.1, c.self.invariant.2)

pub invariant_of-self-2 : goal.invariant_of-self-2
invariant_of-self-2 c =
    let kept = c.self.invariant.0 in
    (record { whole = kept.whole; short = kept.short; ascending = kept.ascending; placed = c.seal.ensures.staged c.self.inside.room c.self.inside.current kept.placed }, c.self.invariant.1, c.self.invariant.2)

pub returns-clause-sealed_bytes : goal.returns-clause-sealed_bytes
returns-clause-sealed_bytes c bytes f held =
    let s : State = c.args.self.now in
    let half = some_half s.staged.half (λ h. h.count ≡ h.file.length) c.requires in
    let t : State = record s { current = c.self.inside.current; staged = c.seal.new.self } in
    let sealed = subst (λ (x : State). IfSome x.staged.half (λ h. stands c.seal.new.self.sealed ≡ stands x.staged.sealed ++ half_at h ∷ [])) c.self.view_is c.in_ok-seal.ensures.sealed in
    sealed_with s t half.0 bytes f half.1 half.2 (subst (λ (h : Option HalfStaged). IfSome h (λ x. stands c.seal.new.self.sealed ≡ stands s.staged.sealed ++ half_at x ∷ [])) half.1 sealed) held

pub returns-clause-digest_bytes : goal.returns-clause-digest_bytes
returns-clause-digest_bytes c bytes f has held =
    let s : State = c.args.self.now in
    let half = some_half s.staged.half (λ h. h.count ≡ h.file.length) c.requires in
    let digest = subst (λ (x : State). IfSome x.staged.half (λ h. (m : List ℕ) → Holds h.hasher m → md5 m ≡ h.file.md5)) c.self.view_is c.in_ok-seal.ensures.digest in
    let one = subst (λ (h : Option HalfStaged). IfSome h (λ x. (m : List ℕ) → Holds x.hasher m → md5 m ≡ x.file.md5)) half.1 digest in
    one f.bytes (half_holds s half.0 bytes f half.1 has held) ∙ ap (λ (x : StoredFile). x.listed.md5) (half_is s half.0 bytes f half.1 held)

pub returns-in_err-seal-clause-differs_bytes : goal.returns-in_err-seal-clause-differs_bytes
returns-in_err-seal-clause-differs_bytes c fault is bytes f has held =
    let s : State = c.args.self.now in
    let half = some_half s.staged.half (λ h. h.count ≡ h.file.length) c.requires in
    let q = err_from_is_err_and c.from_residual.result c.from_residual.ensures.1 in
    let given = handed_on {U = Unit {0}} c.from_residual.result q.0 c.in_err-seal.field-0.0 fault q.1 q.2 is in
    let differs = subst (λ (x : State). IfSome x.staged.half (λ h. (m : List ℕ) → Holds h.hasher m → (md5 m ≡ fault.found) × (fault.found ≢ h.file.md5))) c.self.view_is (c.in_err-seal.ensures.differs fault given) in
    let one = subst (λ (h : Option HalfStaged). IfSome h (λ x. (m : List ℕ) → Holds x.hasher m → (md5 m ≡ fault.found) × (fault.found ≢ x.file.md5))) half.1 differs f.bytes (half_holds s half.0 bytes f half.1 has held) in
    let listed = ap (λ (x : StoredFile). x.listed.md5) (half_is s half.0 bytes f half.1 held) in
    (one.0, λ same. one.1 (same ∙ sym listed))
