-- What is shown at the seconds of an hour throughout which the lists stay the same.
use Rattle.std.proofs.Common.{◌≡◌, ℕ, zero, suc, ◌+◌, ◌*◌, ◌%◌, ◌<◌, ◌≤◌, List, length, refl, ap, sym, subst, ◌∙◌, arith, None, ℤ, pos, ◌+ℤ◌}
use Rattle.std.specs.List.{AllByRecursion}
use Rattle.std.specs.Prelude.{unsigned_abs}
use Rattle.std.specs.Int.{int_rem_euclid}
use Rattle.std.proofs.lemmas.Int.{int_rem_euclid_is}
use Rattle.std.proofs.Math.IntN.{+ℤ_assoc, +ℤ_comm, pos-+ℤ-pos}
use Rattle.sg_voice.specs.declared.play.Play.{Play}
use Rattle.sg_voice.specs.declared.play.Interrupt.{Interrupt}
use Rattle.sg_voice.specs.Hour.{IsPlay, IsInterrupt, slots_of, covering, event_seconds}
use Rattle.sg_voice.specs.Hour.{shown_from as slots_from, seconds_shown as seconds_of_slots}
use Rattle.sg_voice.proofs.SecondLemmas.{shown_all}
use Rattle.sg_voice.proofs.TileLemmas.{slots_tile}
use Rattle.sg_manifest.specs.Snapshot.{SnapshotRow, IsSnapshot}
use Rattle.sg_resolver.specs.Lists.{picture_layer}
use Rattle.sg_layer.specs.Shown.{place_of}
use Rattle.sg_layer.proofs.SoundLemmas.{plays_sound, interrupts_sound}
use Rattle.sg_resolver.specs.Shown.{slot_at, shown}
use Rattle.sg_resolver.specs.Steady.{BeginsHour, IsSteady, shown_from, seconds_shown}
use Rattle.sg_resolver.proofs.ValidLemmas.{normal_some, picture_sound}

-- the place of the p-th second of an hour is p
place_in : (begin : ℤ) (p : ℕ) → BeginsHour begin → p < 3600 → place_of (begin +ℤ pos p) ≡ p
place_in begin p h inside =
    let moved : (begin +ℤ pos p) +ℤ pos (h.back * 3600) ≡ pos (h.ahead * 3600 + p) =
    +ℤ_assoc begin (pos p) (pos (h.back * 3600))
    ∙ (ap (λ (z : ℤ). begin +ℤ z) (+ℤ_comm (pos p) (pos (h.back * 3600)))
    ∙ (sym (+ℤ_assoc begin (pos (h.back * 3600)) (pos p))
    ∙ (ap (λ (z : ℤ). z +ℤ pos p) h.is ∙ pos-+ℤ-pos (h.ahead * 3600) p))) in
    let left : int_rem_euclid (begin +ℤ pos p) (pos 3600) ≡ pos ((h.ahead * 3600 + p) % 3600) = int_rem_euclid_is (begin +ℤ pos p) (pos 3600) 3600 h.back (h.ahead * 3600 + p) (omega arith) refl moved in
    ap unsigned_abs left ∙ omega (arith, inside)

event_at : (s : SnapshotRow) (begin : ℤ) (ns : List Play) (is : List Interrupt) (p : ℕ) → IsSteady s begin ns is → p < 3600 → (shown s (begin +ℤ pos p)).event ≡ (covering p (slots_of ns is)).event
unfolding slot_at
event_at s begin ns is p h inside = rw (place_in begin p h.hour inside, h.normal p inside, h.shared p inside) refl

same_from : (s : SnapshotRow) (begin : ℤ) (ns : List Play) (is : List Interrupt) (e m p : ℕ) → IsSteady s begin ns is → p + m ≤ 3600 → shown_from s begin e m p ≡ slots_from e (slots_of ns is) m p
same_from s begin ns is e zero p h few = refl
same_from s begin ns is e (suc m) p h few =
    let one : (shown s (begin +ℤ pos p)).event ≡ (covering p (slots_of ns is)).event = event_at s begin ns is p h (omega (arith, few)) in
    let rest : shown_from s begin e m (p + 1) ≡ slots_from e (slots_of ns is) m (p + 1) = same_from s begin ns is e m (p + 1) h (omega (arith, few)) in
    rw (one, rest) refl

-- the lists of a valid snapshot make slots without a gap
some_of : (s : SnapshotRow) (begin : ℤ) (ns : List Play) (is : List Interrupt) → IsSnapshot s → IsSteady s begin ns is → 0 < length ns
some_of s begin ns is valid h = subst (λ (ps : List Play). 0 < length ps) (h.normal 0 (omega arith)) (normal_some s (begin +ℤ pos 0))

sound_of : (s : SnapshotRow) (begin : ℤ) (ns : List Play) (is : List Interrupt) → IsSnapshot s → IsSteady s begin ns is → AllByRecursion IsPlay ns
sound_of s begin ns is valid h =
    let t : ℤ = begin +ℤ pos 0 in
    subst (λ (ps : List Play). AllByRecursion IsPlay ps) (h.normal 0 (omega arith)) (plays_sound (picture_layer s None) t (picture_sound s None valid))

shared_of : (s : SnapshotRow) (begin : ℤ) (ns : List Play) (is : List Interrupt) → IsSnapshot s → IsSteady s begin ns is → AllByRecursion IsInterrupt is
shared_of s begin ns is valid h =
    let t : ℤ = begin +ℤ pos 0 in
    subst (λ (xs : List Interrupt). AllByRecursion IsInterrupt xs) (h.shared 0 (omega arith)) (interrupts_sound (picture_layer s None) t (picture_sound s None valid))

pub hour_shown : (s : SnapshotRow) (begin : ℤ) (ns : List Play) (is : List Interrupt) (e : ℕ) → IsSnapshot s → IsSteady s begin ns is → seconds_shown s begin e ≡ event_seconds e (slots_of ns is)
unfolding seconds_shown seconds_of_slots
hour_shown s begin ns is e valid h =
    let tiles = slots_tile ns is (some_of s begin ns is valid h) (sound_of s begin ns is valid h) (shared_of s begin ns is valid h) in
    same_from s begin ns is e 3600 0 h (omega arith) ∙ sym (shown_all e (slots_of ns is) tiles)
