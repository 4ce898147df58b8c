-- The moments of an upgrade.
use Rattle.std.proofs.Common.{◌≡◌, ◌⊎◌, inl, inr, min, ℕ, ◌+◌, ◌-◌, ◌≤◌, List, length, drop, codes, Result, Ok, Err, OnErr, refl, sym, ◌∙◌, ap, subst, arith}
use Rattle.std.proofs.lemmas.List.{drop-take}
use Rattle.sg_disk.specs.View.{View, range, Torn, Sized, Resized, Passed, Failed}
use Rattle.sg_disk.specs.Runs.{After, LeavesOnly, Within}
use Rattle.sg_disk.specs.declared.places.TheConstants.{DATA}
use Rattle.sg_disk.proofs.Ranges.{front_same, range_kept, range-range}
use Rattle.sg_disk.proofs.Moments.{one_call, joined, weaker, at_end}
use Rattle.sg_slots.specs.Bytes.{AreZeros}
use Rattle.sg_upgrade.specs.Upgrading.{AreLong, IsOldStill, IsNewBut, IsUpgrading}
use Rattle.sg_upgrade.specs.declared.places.TheConstants.{WHOLE, SECOND_MARK}
use Rattle.sg_upgrade.proofs.ClearLemmas.{zeros_outside}

-- a range in front of both lengths
pub range_sized : (n p l : ℕ) (old new : List ℕ) → p + l ≤ n → p + l ≤ length old → Sized n old new → range new p l ≡ range old p l
unfolding range
range_sized n p l old new short fits sized = sym (drop-take p l new) ∙ ap (λ (c : List ℕ). drop p c) (front_same (p + l) (min n (length old)) old new (omega (arith, short, fits)) sized.front) ∙ drop-take p l old

pub still_none : (room : ℕ) (c : List ℕ) → IsOldStill room c c
still_none room c = record { size = inl refl; front = refl; rest = refl }

pub still_sized : (room : ℕ) (old new : List ℕ) → DATA + room ≤ length old → Sized (WHOLE + room) old new → IsOldStill room old new
still_sized room old new long sized = record {
  size = inr sized.is_long;
  front = range_sized (WHOLE + room) 0 SECOND_MARK old new (omega arith) (omega (arith, long)) sized;
  rest = range_sized (WHOLE + room) (SECOND_MARK + 8) (DATA + room - (SECOND_MARK + 8)) old new (omega arith) (omega (arith, long)) sized;
}

pub still_resized : (room : ℕ) (old new : List ℕ) → DATA + room ≤ length old → Resized (WHOLE + room) old new → IsOldStill room old new
still_resized room old new long (inl same) = subst (λ (c : List ℕ). IsOldStill room old c) (sym same) (still_none room old)
still_resized room old new long (inr sized) = still_sized room old new long sized

-- a write at the second mark
pub still_mark : (room : ℕ) (old new : List ℕ) → Torn SECOND_MARK 8 old new → IsOldStill room old new
still_mark room old new torn = record {
  size = inl torn.same_length;
  front = range_kept SECOND_MARK 8 0 SECOND_MARK old new torn (inl (omega arith));
  rest = range_kept SECOND_MARK 8 (SECOND_MARK + 8) (DATA + room - (SECOND_MARK + 8)) old new torn (inr (omega arith));
}

-- one behind the data area
pub still_behind : (room n : ℕ) (old new : List ℕ) → Torn (DATA + room) n old new → IsOldStill room old new
still_behind room n old new torn = record {
  size = inl torn.same_length;
  front = range_kept (DATA + room) n 0 SECOND_MARK old new torn (inl (omega arith));
  rest = range_kept (DATA + room) n (SECOND_MARK + 8) (DATA + room - (SECOND_MARK + 8)) old new torn (inl (omega arith));
}

joined_size : (room : ℕ) (a b c : List ℕ) → (length b ≡ length a) ⊎ (length b ≡ WHOLE + room) → (length c ≡ length b) ⊎ (length c ≡ WHOLE + room) → (length c ≡ length a) ⊎ (length c ≡ WHOLE + room)
joined_size room a b c first (inr new) = inr new
joined_size room a b c (inl old) (inl same) = inl (same ∙ old)
joined_size room a b c (inr new) (inl same) = inr (same ∙ new)

pub still_joined : (room : ℕ) (a b c : List ℕ) → IsOldStill room a b → IsOldStill room b c → IsOldStill room a c
still_joined room a b c first second = record {
  size = joined_size room a b c first.size second.size;
  front = second.front ∙ first.front;
  rest = second.rest ∙ first.rest;
}

long_size : (room : ℕ) (a b : List ℕ) → DATA + room ≤ length a → (length b ≡ length a) ⊎ (length b ≡ WHOLE + room) → DATA + room ≤ length b
long_size room a b long (inl same) = omega (arith, long, same)
long_size room a b long (inr new) = omega (arith, new)

-- from one view on, each image is one of the old format still
abbrev pub Stays : ℕ → View → View → Type 0
Stays room v w = LeavesOnly (After (IsOldStill room) v) v w

pub long_after : (room : ℕ) (v w : View) → AreLong room v → Stays room v w → AreLong room w
long_after room v w long run c now =
    let was = at_end v w (After (IsOldStill room) v) run c now in
    let still = was.2 in
    long_size room was.0 c (long was.0 was.1) still.size

pub stays_resized : (room : ℕ) (v w : View) → AreLong room v → Passed (Sized (WHOLE + room)) (Resized (WHOLE + room)) v w → Stays room v w
stays_resized room v w long call = one_call v w (After (IsOldStill room) v) (λ c now. (c, now, still_none room c)) call.time (λ c now. let was = call.images c now in (was.0, was.1, still_resized room was.0 c (long was.0 was.1) was.2))

pub stays_resized_failed : (room : ℕ) (v w : View) → AreLong room v → Failed (Resized (WHOLE + room)) v w → Stays room v w
stays_resized_failed room v w long call = one_call v w (After (IsOldStill room) v) (λ c now. (c, now, still_none room c)) call.time (λ c now. let was = call.images c now in (was.0, was.1, still_resized room was.0 c (long was.0 was.1) was.2))

pub stays_mark : (room : ℕ) (v w : View) → Within SECOND_MARK 8 v w → Stays room v w
stays_mark room v w run = weaker v w (After (Torn SECOND_MARK 8) v) (After (IsOldStill room) v) (λ c was. (was.0, was.1, still_mark room was.0 c was.2)) run.moments

pub stays_behind : (room n : ℕ) (v w : View) → Within (DATA + room) n v w → Stays room v w
stays_behind room n v w run = weaker v w (After (Torn (DATA + room) n) v) (After (IsOldStill room) v) (λ c was. (was.0, was.1, still_behind room n was.0 c was.2)) run.moments

pub stays_joined : (room : ℕ) (u v w : View) → Stays room u v → Stays room v w → Stays room u w
stays_joined room u v w first second = joined u v w (After (IsOldStill room) u) first (weaker v w (After (IsOldStill room) v) (After (IsOldStill room) u) (λ c was.
    let before = at_end u v (After (IsOldStill room) u) first was.0 was.1 in
    (before.0, before.1, still_joined room before.0 was.0 c before.2 was.2)) second)

-- a part of the front
part_of_front : (p l : ℕ) (old new : List ℕ) → p + l ≤ SECOND_MARK → range new 0 SECOND_MARK ≡ range old 0 SECOND_MARK → range new p l ≡ range old p l
part_of_front p l old new fits same = sym (at new) ∙ ap (λ (c : List ℕ). range c p l) same ∙ at old
  where
    at : (c : List ℕ) → range (range c 0 SECOND_MARK) p l ≡ range c p l
    at c = let zero_p : 0 + p ≡ p = omega arith in range-range c 0 SECOND_MARK p l fits ∙ ap (λ (k : ℕ). range c k l) zero_p

-- a part of the rest
part_of_rest : (room p l : ℕ) (old new : List ℕ) → SECOND_MARK + 8 ≤ p → p + l ≤ DATA + room → range new (SECOND_MARK + 8) (DATA + room - (SECOND_MARK + 8)) ≡ range old (SECOND_MARK + 8) (DATA + room - (SECOND_MARK + 8)) → range new p l ≡ range old p l
part_of_rest room p l old new low high same = sym (at new) ∙ ap (λ (c : List ℕ). range c (p - (SECOND_MARK + 8)) l) same ∙ at old
  where
    at : (c : List ℕ) → range (range c (SECOND_MARK + 8) (DATA + room - (SECOND_MARK + 8))) (p - (SECOND_MARK + 8)) l ≡ range c p l
    at c =
        let whole : SECOND_MARK + 8 + (p - (SECOND_MARK + 8)) ≡ p = omega (arith, low) in
        range-range c (SECOND_MARK + 8) (DATA + room - (SECOND_MARK + 8)) (p - (SECOND_MARK + 8)) l (omega (arith, low, high)) ∙ ap (λ (k : ℕ). range c k l) whole

-- A disk of the old format still reads as before wherever the old format reads: in front of the second mark, and behind it up to
-- the end of the data area
pub still_keeps : (room p l : ℕ) (old new : List ℕ) → (p + l ≤ SECOND_MARK) ⊎ ((SECOND_MARK + 8 ≤ p) × (p + l ≤ DATA + room)) → IsOldStill room old new → range new p l ≡ range old p l
still_keeps room p l old new (inl front) still = part_of_front p l old new front still.front
still_keeps room p l old new (inr rest) still = part_of_rest room p l old new rest.0 rest.1 still.rest

-- one of the new format does so too, but for the version byte
pub new_keeps : (room p l : ℕ) (old new : List ℕ) → (p + l ≤ 4) ⊎ (((5 ≤ p) × (p + l ≤ SECOND_MARK)) ⊎ ((SECOND_MARK + 8 ≤ p) × (p + l ≤ DATA + room))) → IsNewBut room old new → range new p l ≡ range old p l
new_keeps room p l old new (inl gate) whole = sym (at new) ∙ ap (λ (c : List ℕ). range c p l) whole.gate ∙ at old
  where
    at : (c : List ℕ) → range (range c 0 4) p l ≡ range c p l
    at c = let zero_p : 0 + p ≡ p = omega arith in range-range c 0 4 p l gate ∙ ap (λ (k : ℕ). range c k l) zero_p
new_keeps room p l old new (inr (inl front)) whole = sym (at new) ∙ ap (λ (c : List ℕ). range c (p - 5) l) whole.front ∙ at old
  where
    at : (c : List ℕ) → range (range c 5 (SECOND_MARK - 5)) (p - 5) l ≡ range c p l
    at c = let same : 5 + (p - 5) ≡ p = omega (arith, front.0) in range-range c 5 (SECOND_MARK - 5) (p - 5) l (omega (arith, front.0, front.1)) ∙ ap (λ (k : ℕ). range c k l) same
new_keeps room p l old new (inr (inr rest)) whole = part_of_rest room p l old new rest.0 rest.1 whole.rest

-- the version byte is written over a disk that has all else
pub new_but : (room : ℕ) (old whole new : List ℕ) → IsOldStill room old whole → length whole ≡ WHOLE + room → range whole SECOND_MARK 8 ≡ codes "SGNSTOR2" → AreZeros (DATA + room) (WHOLE - DATA) whole → Torn 4 1 whole new → IsNewBut room old new
new_but room old whole new still size mark zeros torn = record {
  size = torn.same_length ∙ size;
  gate = range_kept 4 1 0 4 whole new torn (inl (omega arith)) ∙ part_of_front 0 4 old whole (omega arith) still.front;
  front = range_kept 4 1 5 (SECOND_MARK - 5) whole new torn (inr (omega arith)) ∙ part_of_front 5 (SECOND_MARK - 5) old whole (omega arith) still.front;
  mark = range_kept 4 1 SECOND_MARK 8 whole new torn (inr (omega arith)) ∙ mark;
  rest = range_kept 4 1 (SECOND_MARK + 8) (DATA + room - (SECOND_MARK + 8)) whole new torn (inr (omega arith)) ∙ still.rest;
  zeros = zeros_outside (DATA + room) (WHOLE - DATA) 4 1 whole new torn (inr (omega arith)) zeros;
}

pub upgrading_still : (room : ℕ) (v w : View) → Stays room v w → LeavesOnly (After (IsUpgrading room) v) v w
upgrading_still room v w run = weaker v w (After (IsOldStill room) v) (After (IsUpgrading room) v) (λ c was. (was.0, was.1, inl was.2)) run

-- the version byte is written over a disk that is stable
pub upgrading_version : (room : ℕ) (u v w : View) → u.told → ((c : List ℕ) → v.images c → c ≡ v.bytes) → IsOldStill room u.bytes v.bytes → length v.bytes ≡ WHOLE + room → range v.bytes SECOND_MARK 8 ≡ codes "SGNSTOR2" → AreZeros (DATA + room) (WHOLE - DATA) v.bytes → Stays room u v → Within 4 1 v w → LeavesOnly (After (IsUpgrading room) u) u w
upgrading_version room u v w told only still size mark zeros first second = joined u v w (After (IsUpgrading room) u) (upgrading_still room u v first) (weaker v w (After (Torn 4 1) v) (After (IsUpgrading room) u) (λ c was. (u.bytes, u.reads told, inr (new_but room u.bytes v.bytes c still size mark zeros (subst (λ (d : List ℕ). Torn 4 1 d c) (only was.0 was.1) was.2)))) second.moments)

-- a clause on an answer that is an `Err`, where its fact holds in any case
pub on_err : {T E : Type 0} (r : Result T E) (P : Type 0) → P → OnErr r P
on_err (Ok x) P p = tt
on_err (Err e) P p = p
