-- A store whose next bytes were staged.
use Rattle.std.proofs.Common.{◌≡◌, ◌⊎◌, inl, inr, ℕ, ◌+◌, ◌*◌, ◌%◌, ◌<◌, ◌≤◌, ◌↔◌, Bool, true, List, [], ◌∷◌, ◌++◌, length, Option, None, Some, MatchOption, IfSome, IsSomeAnd, refl, sym, ◌∙◌, ap, subst, arith}
use Rattle.sg_base.specs.declared.file.Listed.{Listed}
use Rattle.sg_disk.specs.View.{View, range, put, Torn}
use Rattle.sg_disk.specs.Runs.{Within, LeavesOnly}
use Rattle.sg_disk.specs.Contents.{Contents}
use Rattle.sg_disk.specs.Contents.{Pages}
use Rattle.sg_disk.specs.StandsFor.{IsOpen}
use Rattle.sg_disk.specs.declared.places.TheConstants.{DATA, HEADER_LEN, JOURNAL, PAGE, SLOT_LEN}
use Rattle.sg_disk.proofs.Writes.{one_kept, bytes_kept, within_wider}
use Rattle.sg_pages.specs.Pages.{needed}
use Rattle.sg_pages.specs.Shelves.{Shelved, stands, byte_place}
use Rattle.sg_pages.specs.declared.maps.TheConstants.{MAP_LEN}
use Rattle.sg_slots.specs.Slots.{slot_of, slot_place, opposite}
use Rattle.sg_slots.specs.declared.slots.Slot.{Slot}
use Rattle.sg_slots.specs.declared.slots.Slot.TheVariants.{Zero, One}
use Rattle.sg_slots.proofs.SlotLemmas.{place_high}
use Rattle.sg_paged_slots.specs.PagedDamage.{map_place}
use Rattle.sg_contents.specs.StandsFor.{IsNew, IsCurrent, StandsFor}
use Rattle.sg_contents.proofs.Standing.{settled_leaves, settled_read, stands_long}
use Rattle.sg_staging.specs.Staged.{HalfStaged, IsStagedIn, IsHalf}
use Rattle.sg_switching.specs.Switching.{map_of, IsBesideSlot}
use Rattle.sg_store_state.specs.State.{State}
use Rattle.sg_store_state.specs.Ready.{KeepsSnapshot, IsReady}
use Rattle.sg_store_state.proofs.StageLemmas.{Goes, half_standing, place_low, place_high as place_end, staged_leaves, staged_more}

-- where bytes go that may come
pub goes_of : (s : State) (place n : ℕ) → IsStagedIn s.room s.current s.staged → 1 ≤ n → IsSomeAnd s.staged.half (λ h. h.count + n ≤ h.file.length) → IsSomeAnd s.staged.half (λ h. h.count % PAGE + n ≤ PAGE) → IfSome s.staged.half (λ h. place ≡ byte_place (Pages h.pages) h.count) → (half : HalfStaged) × Goes s half place n
goes_of s place n kept some fits row at = by_half s.staged.half refl fits row at
  where
    by_half : (o : Option HalfStaged) → s.staged.half ≡ o → IsSomeAnd o (λ h. h.count + n ≤ h.file.length) → IsSomeAnd o (λ h. h.count % PAGE + n ≤ PAGE) → IfSome o (λ h. place ≡ byte_place (Pages h.pages) h.count) → (half : HalfStaged) × Goes s half place n
    by_half None is fits row at = absurd fits
    by_half (Some half) is fits row at = (half, record { is = is; kept = kept; at = at; some = some; fits = fits; row = row })

-- the next byte has a place
pub next_asks : (s : State) (n : ℕ) → IsStagedIn s.room s.current s.staged → 1 ≤ n → IsSomeAnd s.staged.half (λ h. h.count + n ≤ h.file.length) → IsSomeAnd s.staged.half (λ h. (h.count < h.file.length) × (length h.pages ≡ needed h.file.length))
next_asks s n kept some fits = by_half s.staged.half refl fits
  where
    by_half : (o : Option HalfStaged) → s.staged.half ≡ o → IsSomeAnd o (λ h. h.count + n ≤ h.file.length) → IsSomeAnd o (λ h. (h.count < h.file.length) × (length h.pages ≡ needed h.file.length))
    by_half None is fits = absurd fits
    by_half (Some half) is fits = (omega (arith, fits, some), (half_standing s.room s half kept is).stored half.pages refl)

-- the write is inside the data area
pub goes_within : (v w : View) (s : State) (half : HalfStaged) (place n : ℕ) → Goes s half place n → Within place n v w → Within DATA s.room v w
goes_within v w s half place n goes within = within_wider place n DATA s.room v w (place_low s half place n goes) (place_end s half place n goes) within

-- slots and maps stay
slot_stays : (v w : View) (s : State) (half : HalfStaged) (place n : ℕ) (x : Slot) → v.told → Goes s half place n → Within place n v w → slot_of x w.bytes ≡ slot_of x v.bytes
slot_stays v w s half place n x told goes within = bytes_kept place n (slot_place x) SLOT_LEN v w told (inl (omega (arith, place_low s half place n goes, place_high x))) within

map_stays : (v w : View) (s : State) (half : HalfStaged) (place n room : ℕ) (x : Slot) → s.room ≡ room → v.told → Goes s half place n → Within place n v w → map_of room x w.bytes ≡ map_of room x v.bytes
map_stays v w s half place n room x at told goes within = bytes_kept place n (map_place room x) MAP_LEN v w told (inr (above x)) within
  where
    above : (y : Slot) → place + n ≤ map_place room y
    above Zero = omega (arith, at, place_end s half place n goes)
    above One = omega (arith, at, place_end s half place n goes)

-- after `Ok` the store is ready
pub ready_staged : (v w : View) (s t : State) (half : HalfStaged) (p : Contents) (place : ℕ) (bs : List ℕ) → Goes s half place (length bs) → Within place (length bs) v w → (v.told → w.told) → (v.told → w.bytes ≡ put v.bytes place bs) → KeepsSnapshot s t → t.staged.sealed ≡ s.staged.sealed → ((before : List ℕ) → IsHalf s.staged half.file half.pages before → IsHalf t.staged half.file half.pages (before ++ bs)) → IsReady v s p → IsReady w t p
ready_staged v w s t half p place bs goes within tells written keeps sealed more ready =
    let told = ready.settled.told in
    let n : ℕ = length bs in
    let low = place_low s half place n goes in
    let high = place_end s half place n goes in
    let standing = settled_read v p ready.settled in
    let long = stands_long p v.bytes standing in
    let far = opposite s.spare in
    let a = slot_stays v w s half place n far told goes within in
    let b = map_stays v w s half place n p.room far ready.knows.room told goes within in
    let c = slot_stays v w s half place n s.spare told goes within in
    let d = map_stays v w s half place n p.room s.spare ready.knows.room told goes within in
    let Beside : List ℕ → List ℕ → List ℕ → List ℕ → Type 0 = λ one two three four. MatchOption p.text (Unit {0}) (λ text. IsCurrent p.room p.number text p.files one two three four) in
    let slot : IsBesideSlot s.spare p w.bytes =
    subst (λ (x : List ℕ). Beside x (map_of p.room far w.bytes) (slot_of s.spare w.bytes) (map_of p.room s.spare w.bytes)) (sym a)
    (subst (λ (x : List ℕ). Beside (slot_of far v.bytes) x (slot_of s.spare w.bytes) (map_of p.room s.spare w.bytes)) (sym b)
    (subst (λ (x : List ℕ). Beside (slot_of far v.bytes) (map_of p.room far v.bytes) x (map_of p.room s.spare w.bytes)) (sym c)
    (subst (λ (x : List ℕ). Beside (slot_of far v.bytes) (map_of p.room far v.bytes) (slot_of s.spare v.bytes) x) (sym d) ready.knows.slot))) in
    let gate : (s.spare_open ≡ true) ↔ IsOpen (slot_of s.spare w.bytes) = subst (λ (x : List ℕ). (s.spare_open ≡ true) ↔ IsOpen x) (sym c) ready.knows.gate in
    record {
      settled = settled_leaves v w p told (staged_leaves v w s half p place n goes within ready) tells;
      front = one_kept place n 0 JOURNAL v w told (inl (omega (arith, low))) ready.front within;
      maps = one_kept place n (DATA + p.room) (2 * MAP_LEN) v w told (inr (omega (arith, high, ready.knows.room))) ready.maps within;
      format = subst IsNew (sym (bytes_kept place n 0 HEADER_LEN v w told (inl (omega (arith, low))) within)) ready.format;
      knows = record {
        display = keeps.display ∙ ready.knows.display;
        epoch = keeps.epoch ∙ ready.knows.epoch;
        room = keeps.room ∙ ready.knows.room;
        number = keeps.number ∙ ready.knows.number;
        text = keeps.text ∙ ready.knows.text;
        files = ap stands keeps.current ∙ ready.knows.files;
        slot = subst (λ (x : Slot). IsBesideSlot x p w.bytes) (sym keeps.spare) slot;
        gate = subst (λ (x : Slot). (t.spare_open ≡ true) ↔ IsOpen (slot_of x w.bytes)) (sym keeps.spare) (subst (λ (x : Bool). (x ≡ true) ↔ IsOpen (slot_of s.spare w.bytes)) (sym keeps.spare_open) gate);
      };
      staged = staged_more s t half v.bytes w.bytes place bs goes (omega (arith, long, ready.knows.room)) (written told) (within.bytes told) keeps.current sealed more ready.staged;
    }

-- a half staged file
pub some_half : (o : Option HalfStaged) (P : HalfStaged → Type 0) → IsSomeAnd o P → (half : HalfStaged) × (o ≡ Some half) × P half
some_half None P none = absurd none
some_half (Some half) P holds = (half, refl, holds)
