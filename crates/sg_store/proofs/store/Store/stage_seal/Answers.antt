use Rattle.std.proofs.Common.{◌≡◌, ◌++◌, ℕ, List, All, Option, refl, sym, ap, subst, rules, tests, IsSomeAnd}
use Rattle.md5.specs.Md5.{md5, Holds}
use Rattle.sg_store.specs.declared.store.Half.{Half}
use Rattle.sg_store.specs.declared.faults.DigestDiffers.{DigestDiffers}
use Rattle.sg_store.proofs.StageLemmas.{dropped_staged, sealed_staged, sealed_more, sealed_digest, differs_digest}
use Rattle.std.proofs.lemmas.List.Elements.{All-push}
use Rattle.sg_placing.specs.Placing.{IsPlaced, AreDistinct}
use Rattle.sg_placing.specs.declared.placed.Placed.{Placed}
use Rattle.sg_store.specs.Halves.{half_files}
use Rattle.sg_store.proofs.DistinctLemmas.{distinct_dropped, distinct_sealed}
use Rattle.sg_store.proofs.store.Store.stage_seal.Goals as goal

pub returns-then-ne-clause-staged : goal.returns-then-ne-clause-staged
returns-then-ne-clause-staged c bytes has = dropped_staged c.args.self.now _ bytes refl refl c.take.ensures.after has

pub returns-clause-staged : goal.returns-clause-staged
returns-clause-staged c bytes has =
    let half = c.in-Some.half in
    let count : half.count ≡ half.placed.file.length = subst (λ (h : Option Half). IsSomeAnd h (λ x. x.count ≡ x.placed.file.length)) (sym c.in-Some.ensures.value) c.requires in
    let digest : (m : List ℕ) → Holds half.hasher m → md5 m ≡ half.placed.file.md5 = λ m holds. search (rules, tests) in
    sealed_staged c.args.self.now _ bytes half (sym c.in-Some.ensures.value) refl c.push.ensures c.take.ensures.after count digest has

pub returns-clause-sealed_bytes : goal.returns-clause-sealed_bytes
returns-clause-sealed_bytes c bytes f was =
    let half = c.in-Some.half in
    let count : half.count ≡ half.placed.file.length = subst (λ (h : Option Half). IsSomeAnd h (λ x. x.count ≡ x.placed.file.length)) (sym c.in-Some.ensures.value) c.requires in
    sealed_more c.args.self.now c.push.new.self bytes half f (sym c.in-Some.ensures.value) count c.push.ensures was

pub returns-clause-digest : goal.returns-clause-digest
returns-clause-digest c bytes f has was =
    let half = c.in-Some.half in
    let digest : (m : List ℕ) → Holds half.hasher m → md5 m ≡ half.placed.file.md5 = λ m holds. search (rules, tests) in
    sealed_digest c.args.self.now bytes half f (sym c.in-Some.ensures.value) digest has was

pub returns-then-ne-clause-differs_bytes : goal.returns-then-ne-clause-differs_bytes
returns-then-ne-clause-differs_bytes c fault is bytes f has was =
    let half = c.in-Some.half in
    let found = c.finalize-found.result in
    let digest : (m : List ℕ) → Holds half.hasher m → md5 m ≡ found = λ m holds. search rules in
    let other : found ≡ half.placed.file.md5 → ⊥ = search (rules, tests) in
    let same : record { found = found } ≡ fault = cc in
    subst (λ (x : DigestDiffers). (md5 f.bytes ≡ x.found) × (x.found ≡ f.listed.md5 → ⊥)) same (differs_digest c.args.self.now bytes half f found (sym c.in-Some.ensures.value) digest other has was)

pub invariant_of-self-clause-distinct : goal.invariant_of-self-clause-distinct
invariant_of-self-clause-distinct c =
    let s = c.args.self.now in
    subst (λ (h : Option Half). AreDistinct (s.current ++ s.staged ++ half_files h)) (sym c.take.ensures.after) (distinct_dropped s.current s.staged s.half s.distinct)

pub invariant_of-self-2-clause-distinct : goal.invariant_of-self-2-clause-distinct
invariant_of-self-2-clause-distinct c =
    let s = c.args.self.now in
    let half = c.in-Some.half in
    subst (λ (h : Option Half). AreDistinct (s.current ++ c.push.new.self ++ half_files h)) (sym c.take.ensures.after) (distinct_sealed s.current s.staged c.push.new.self s.half half.placed (sym (ap half_files c.in-Some.ensures.value)) c.push.ensures s.distinct)

pub invariant_of-self-2-clause-staged_placed : goal.invariant_of-self-2-clause-staged_placed
invariant_of-self-2-clause-staged_placed c =
    let s = c.args.self.now in
    let half = c.in-Some.half in
    subst (All (IsPlaced s.room)) (sym c.push.ensures) (All-push (IsPlaced s.room) s.staged half.placed s.staged_placed (s.half_placed half (sym c.in-Some.ensures.value)))
