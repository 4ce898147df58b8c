-- What the entries of a layer say of the plays and the interrupts that they make.
use Rattle.std.proofs.Common.{◌≡◌, ◌<◌, Bool, eqb, List, [], ◌∷◌, length, map, filter, Option, Some, None, refl, ap, subst, ◌∙◌, arith, ℤ}
use Rattle.std.specs.List.{AllByRecursion, flat_map}
use Rattle.std.specs.Prelude.{IfSome}
use Rattle.sg_voice.specs.declared.play.Play.{Play}
use Rattle.sg_voice.specs.declared.play.Interrupt.{Interrupt}
use Rattle.sg_voice.specs.Hour.{IsPlay, IsInterrupt}
use Rattle.sg_voice.proofs.SoundLemmas.{all_append}
use Rattle.sg_layer.specs.declared.entry.Entry.{Entry}
use Rattle.sg_layer.specs.Lists.{IsEntry, IsSharing, is_active, greatest_priority, highest, played_at, plays_of, or_else, first_play, interrupt_of}
use Rattle.sg_layer.specs.Front.{marked, IsFront}
use Rattle.sg_layer.specs.Shown.{LayerValue, IsLayer, plays_at, interrupts_at}
use Rattle.sg_layer.proofs.ListLemmas.{all_passing, marked_is}

-- what holds of all entries holds of those that are played
pub all_played : (P : Entry → Type 0) (t : ℤ) (xs : List Entry) → AllByRecursion P xs → AllByRecursion P (played_at t xs)
all_played P t xs all =
    let active = all_passing P P (is_active t) xs (λ x q h. h) all in
    all_passing P P (λ x. eqb x.event.priority (greatest_priority (filter (is_active t) xs))) (filter (is_active t) xs) (λ x q h. h) active

all_plays : (xs : List Entry) → AllByRecursion IsEntry xs → AllByRecursion IsPlay (plays_of xs)
all_plays [] all = tt
all_plays (x ∷ xs) all = all_append IsPlay x.plays (flat_map (λ z. z.plays) xs) all.0.plays (all_plays xs all.1)

all_or_else : (default : Option Play) (ps : List Play) → IfSome default IsPlay → AllByRecursion IsPlay ps → AllByRecursion IsPlay (or_else default ps)
all_or_else None [] sound all = tt
all_or_else (Some p) [] sound all = (sound, tt)
all_or_else None (p ∷ ps) sound all = all
all_or_else (Some q) (p ∷ ps) sound all = all

pub plays_sound : (l : LayerValue) (t : ℤ) → IsLayer l → AllByRecursion IsPlay (plays_at l t)
plays_sound l t h = all_or_else l.default (plays_of (played_at t l.normal)) h.default (all_plays (played_at t l.normal) (all_played IsEntry t l.normal h.normal))

first_sound : (ps : List Play) → 0 < length ps → AllByRecursion IsPlay ps → IsPlay (first_play ps)
first_sound [] some all = absurd (omega (arith, some))
first_sound (p ∷ ps) some all = all.0

all_interrupts : (xs : List Entry) → AllByRecursion IsEntry xs → AllByRecursion IsSharing xs → AllByRecursion IsInterrupt (map interrupt_of xs)
all_interrupts [] all shares = tt
all_interrupts (x ∷ xs) all shares =
    let play = first_sound x.plays all.0.some all.0.plays in
    (record { some = play.some; few = play.few; shared = shares.0.some; share = shares.0.few }, all_interrupts xs all.1 shares.1)

pub interrupts_sound : (l : LayerValue) (t : ℤ) → IsLayer l → AllByRecursion IsInterrupt (interrupts_at l t)
interrupts_sound l t h = all_interrupts (played_at t l.interrupts) (all_played IsEntry t l.interrupts h.interrupts) (all_played IsSharing t l.interrupts h.sharing)

-- no play stands in where there is one
pub else_some : (default : Option Play) (ps : List Play) → 0 < length ps → or_else default ps ≡ ps
else_some None [] some = refl
else_some (Some p) [] some = absurd (omega (arith, some))
else_some None (p ∷ ps) some = refl
else_some (Some q) (p ∷ ps) some = refl

-- what is listed by marks is what is played
pub listed_plays : (l : LayerValue) (t : ℤ) (marks : List Bool) (ps : List Play) → marks ≡ map (is_active t) l.normal → IsFront ps (or_else l.default (plays_of (highest (marked marks l.normal)))) → IsFront ps (plays_at l t)
listed_plays l t marks ps is front =
    let same : marked marks l.normal ≡ filter (is_active t) l.normal = ap (λ (bs : List Bool). marked bs l.normal) is ∙ marked_is (is_active t) l.normal in
    subst (λ (xs : List Entry). IsFront ps (or_else l.default (plays_of (highest xs)))) same front

pub listed_interrupts : (l : LayerValue) (t : ℤ) (marks : List Bool) (is : List Interrupt) → marks ≡ map (is_active t) l.interrupts → is ≡ map interrupt_of (highest (marked marks l.interrupts)) → is ≡ interrupts_at l t
listed_interrupts l t marks is by listed =
    let same : marked marks l.interrupts ≡ filter (is_active t) l.interrupts = ap (λ (bs : List Bool). marked bs l.interrupts) by ∙ marked_is (is_active t) l.interrupts in
    listed ∙ ap (λ (xs : List Entry). map interrupt_of (highest xs)) same
