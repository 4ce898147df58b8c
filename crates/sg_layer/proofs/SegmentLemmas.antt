-- The segment for which an hour is kept, and what the hour shows at its seconds.
use Rattle.std.proofs.Common.{◌≡◌, ℕ, ◌+◌, ◌<◌, ◌≤◌, true, ◌&&◌, List, [], ◌∷◌, ◌++◌, length, filter, map, Option, Some, None, refl, ap, sym, subst, ◌∙◌, inl, inr, arith, ℤ}
use Rattle.std.proofs.lemmas.List.{append-nil}
use Rattle.std.proofs.lemmas.Bool.{and_parts}
use Rattle.std.proofs.lemmas.Int.{ints}
use Rattle.std.specs.Prelude.{◌≤ℤ◌, ◌<ℤ◌, ◌⊎◌, int_le, int_lt}
use Rattle.std.specs.List.{AllByRecursion, Contains}
use Rattle.sg_events.proofs.EdgeLemmas.{activity_same}
use Rattle.sg_voice.specs.declared.play.Play.{Play}
use Rattle.sg_voice.specs.declared.play.Interrupt.{Interrupt}
use Rattle.sg_voice.specs.declared.play.Slot.{Slot}
use Rattle.sg_voice.specs.Hour.{slots_of, covering, Tiles}
use Rattle.sg_voice.proofs.ExactLemmas.{exact_since}
use Rattle.sg_voice.proofs.TileLemmas.{slots_tile}
use Rattle.sg_layer.specs.declared.entry.Entry.{Entry}
use Rattle.sg_layer.specs.declared.room.Room.{Room}
use Rattle.sg_layer.specs.Lists.{IsEntry, is_active, highest, plays_of, or_else, interrupt_of}
use Rattle.sg_layer.specs.Front.{IsFront}
use Rattle.sg_layer.specs.Shown.{LayerValue, IsLayer, plays_at, interrupts_at, place_of, slot_of, slot_at, IsSlotAt}
use Rattle.sg_layer.specs.Segment.{IsSomeNext, IsUpToNext, IsSoonest, is_inside}
use Rattle.sg_layer.specs.Ready.{Holds, HoldsFor, IsReady}
use Rattle.sg_layer.proofs.FrontLemmas.{front_none, front_some}
use Rattle.sg_layer.proofs.SoundLemmas.{plays_sound, interrupts_sound}

-- ---- Where a segment ends

-- a second is the soonest of itself and no entry
pub soonest_none : (t y : ℤ) → IsSoonest y [] t y
soonest_none t y = record { one = inl refl; bound = omega (arith, ints); least = tt }

next_later : (xs : List Entry) (t y : ℤ) → IsSomeNext xs t y → t <ℤ y
next_later [] t y h = absurd h
next_later (x ∷ xs) t y (inl here) = here.after
next_later (x ∷ xs) t y (inr there) = next_later xs t y there

pub soonest_later : (second : ℤ) (xs : List Entry) (t y : ℤ) → IsSoonest second xs t y → t <ℤ second → t <ℤ y
soonest_later second xs t y h later = go (h.one)
  where
    go : (y ≡ second) ⊎ IsSomeNext xs t y → t <ℤ y
    go (inl is) = subst (λ (z : ℤ). t <ℤ z) (sym is) later
    go (inr next) = next_later xs t y next

-- two lists of entries, asked one after the other
pub soonest_both : (a b y t : ℤ) (xs ys : List Entry) → ((rest : List Entry) (end : ℤ) → IsSoonest b rest t end → IsSoonest a (xs ++ rest) t end) → ((rest : List Entry) (end : ℤ) → IsSoonest y rest t end → IsSoonest b (ys ++ rest) t end) → IsSoonest a (xs ++ ys) t y
soonest_both a b y t xs ys first then = first ys y (subst (λ (zs : List Entry). IsSoonest b zs t y) (append-nil ys) (then [] y (soonest_none t y)))

-- ---- Nothing changes in a segment

record IsIn (t y u : ℤ) : Type 0 where
  begun : t ≤ℤ u
  not_over : u <ℤ y

stays : (x : Entry) (t y u : ℤ) → IsEntry x → IsUpToNext t y x → IsIn t y u → is_active u x ≡ is_active t x
stays x t y u entry free h = activity_same x.event.when x.event.repeat x.daypart t y u entry.daypart free h.begun h.not_over

all_stay : (xs : List Entry) (t y u : ℤ) → AllByRecursion IsEntry xs → AllByRecursion (IsUpToNext t y) xs → IsIn t y u → filter (is_active u) xs ≡ filter (is_active t) xs
all_stay [] t y u entries next h = refl
all_stay (x ∷ xs) t y u entries next h = rw (stays x t y u entries.0 next.0 h, all_stay xs t y u entries.1 next.1 h) refl

left_of : (P : Entry → Type 0) (xs ys : List Entry) → AllByRecursion P (xs ++ ys) → AllByRecursion P xs
left_of P [] ys all = tt
left_of P (x ∷ xs) ys all = (all.0, left_of P xs ys all.1)

right_of : (P : Entry → Type 0) (xs ys : List Entry) → AllByRecursion P (xs ++ ys) → AllByRecursion P ys
right_of P [] ys all = all
right_of P (x ∷ xs) ys all = right_of P xs ys all.1

-- what is held for a second
pub record HoldsAt (l : LayerValue) (t : ℤ) (r : Room) : Type 0 where
  pub plays : IsFront r.plays.items (plays_at l t)
  pub hour : 0 < length r.plays.items → r.hour ≡ slots_of (plays_at l t) (interrupts_at l t)

held_in : (l : LayerValue) (from till t : ℤ) (r : Room) → IsLayer l → Holds l from till r → IsIn from till t → HoldsAt l t r
held_in l from till t r valid h within =
    let least = h.soonest.least in
    let normal = all_stay l.normal from till t valid.normal (right_of (IsUpToNext from till) l.interrupts l.normal least) within in
    let shared = all_stay l.interrupts from till t valid.interrupts (left_of (IsUpToNext from till) l.interrupts l.normal least) within in
    let plays : plays_at l t ≡ plays_at l from = ap (λ (xs : List Entry). or_else l.default (plays_of (highest xs))) normal in
    let sharing : interrupts_at l t ≡ interrupts_at l from = ap (λ (xs : List Entry). map interrupt_of (highest xs)) shared in
    record {
      plays = subst (λ (ps : List Play). IsFront r.plays.items ps) (sym plays) h.plays;
      hour = λ some. h.hour some ∙ (ap (λ (ps : List Play). slots_of ps (interrupts_at l from)) (sym plays) ∙ ap (λ (is : List Interrupt). slots_of (plays_at l t) is) (sym sharing));
    }

within_of : (from till t : ℤ) → (int_le from t && int_lt t till) ≡ true → IsIn from till t
within_of from till t h =
    let both = and_parts (int_le from t) (int_lt t till) h in
    record { begun = grind (arith, ints, both.0); not_over = grind (arith, ints, both.1) }

held_by : (l : LayerValue) (kept : Option (ℤ × ℤ)) (t : ℤ) (r : Room) → IsLayer l → HoldsFor l kept r → is_inside kept t ≡ true → HoldsAt l t r
held_by l None t r valid h inside = absurd (cc)
held_by l (Some segment) t r valid h inside = held_in l segment.0 segment.1 t r valid h (within_of segment.0 segment.1 t inside)

pub held_at : (l : LayerValue) (t : ℤ) (r : Room) → IsReady l r → is_inside l.kept t ≡ true → HoldsAt l t r
held_at l t r ready inside = held_by l l.kept t r ready.layer ready.held inside

-- ---- What is shown

pub shown_none : (l : LayerValue) (t : ℤ) (r : Room) → HoldsAt l t r → length r.plays.items ≡ 0 → None ≡ slot_at l t
unfolding slot_at
shown_none l t r h none = rw (front_none r.plays.items (plays_at l t) h.plays none) refl

covered : (ps : List Play) (is : List Interrupt) (t : ℤ) → 0 < length ps → slot_of ps is t ≡ Some (covering (place_of t) (slots_of ps is))
covered [] is t some = absurd (omega (arith, some))
covered (p ∷ ps) is t some = refl

pub shown_some : (l : LayerValue) (t : ℤ) (r : Room) (place : ℕ) (slot : Slot) → HoldsAt l t r → 0 < length r.plays.items → place ≡ place_of t → slot ≡ covering place r.hour → Some slot ≡ slot_at l t
unfolding slot_at
shown_some l t r place slot h some at found =
    let there = front_some r.plays.items (plays_at l t) h.plays some in
    sym (covered (plays_at l t) (interrupts_at l t) t there ∙ ap (λ (s : Slot). Some s) (sym (found ∙ (ap (λ (p : ℕ). covering p r.hour) at ∙ ap (λ (ss : List Slot). covering (place_of t) ss) (h.hour some)))))

pub hour_tiles : (l : LayerValue) (t : ℤ) (r : Room) → IsLayer l → HoldsAt l t r → 0 < length r.plays.items → Tiles 0 r.hour
hour_tiles l t r valid h some =
    let there = front_some r.plays.items (plays_at l t) h.plays some in
    subst (λ (ss : List Slot). Tiles 0 ss) (sym (h.hour some)) (slots_tile (plays_at l t) (interrupts_at l t) there (plays_sound l t valid) (interrupts_sound l t valid))

pub shown_closed : (l : LayerValue) (t : ℤ) (r : Room) (place : ℕ) (slot : Slot) → IsLayer l → HoldsAt l t r → 0 < length r.plays.items → place ≡ place_of t → Contains r.hour slot → slot.place ≤ place → place < slot.place + slot.seconds → IsSlotAt l t slot
shown_closed l t r place slot valid h some at one begun lasts =
    let there = front_some r.plays.items (plays_at l t) h.plays some in
    record {
      is = (exact_since (plays_at l t) (interrupts_at l t) r.hour slot (h.hour some) there (plays_sound l t valid)).0 one;
      begun = omega (arith, at, begun);
      not_over = omega (arith, at, lasts);
    }
