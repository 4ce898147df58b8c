-- A switch, step by step: the closing of the spare slot, the filling of it and of its map, and the opening of its gate.
use Rattle.std.proofs.Common.{◌≡◌, ◌⊎◌, inl, inr, ℕ, ◌+◌, ◌-◌, ◌*◌, ◌≤◌, Bool, true, false, List, [], ◌∷◌, get_or, Option, None, Some, MatchOption, refl, sym, ◌∙◌, ap, subst, arith, zero-add, if◌then◌else◌}
use Rattle.std.proofs.lemmas.Bool.{cases_Bool, true≢false}
use Rattle.sg_disk.specs.View.{View, range, put, Torn, Only}
use Rattle.sg_disk.specs.Runs.{After, LeavesOnly, Within, HasOne}
use Rattle.sg_disk.specs.Contents.{StoredFile, Contents, switched}
use Rattle.sg_disk.specs.StandsFor.{IsOpen, AreFiles}
use Rattle.sg_disk.specs.declared.places.TheConstants.{DATA, FIELDS, HEADER_LEN, JOURNAL, SLOT_LEN, SLOT_ZERO}
use Rattle.sg_disk.proofs.Ranges.{range_kept, range-range, torn_in, byte_kept, byte_put}
use Rattle.sg_disk.proofs.Moments.{weaker, at_end}
use Rattle.sg_disk.proofs.Standing.{open_cases}
use Rattle.sg_pages.specs.declared.maps.TheConstants.{MAP_LEN}
use Rattle.sg_slots.specs.Slots.{slot_place, slot_of, opposite}
use Rattle.sg_slots.specs.declared.slots.Slot.{Slot}
use Rattle.sg_slots.specs.declared.slots.Slot.TheVariants.{Zero, One}
use Rattle.sg_slots.proofs.SlotLemmas.{place_high}
use Rattle.sg_slots.proofs.StandLemmas.{gate_of}
use Rattle.sg_paged_slots.specs.PagedDamage.{map_place}
use Rattle.sg_paged_slots.specs.Both.{TornBoth, WithinBoth}
use Rattle.sg_paged_slots.proofs.BothLemmas.{both_kept}
use Rattle.sg_contents.specs.Lawful.{IsLawful}
use Rattle.sg_contents.specs.StandsFor.{HasSlot, IsCurrent, IsNew, AreSlots, StandsFor, Either}
use Rattle.sg_contents.proofs.Areas.{SameButSlots, but_slots, but_maps, but_joined, new_format, reslotted}
use Rattle.sg_contents.proofs.Gates.{Stand, closing_stands, shut_stands, next_stands}
use Rattle.sg_contents.proofs.Standing.{settled_read, stands_long}
use Rattle.sg_switching.specs.Switching.{map_of, HasSpare}

-- the snapshot in the slot beside this one, or both closed
abbrev pub StandIn : Contents → Slot → List ℕ → Type 0
StandIn p slot c = Stand p.room p.number p.text p.files (slot_of (opposite slot) c) (map_of p.room (opposite slot) c) (slot_of slot c) (map_of p.room slot c)

slots_from : (slot : Slot) (room number : ℕ) (text : Option (List ℕ)) (files : List StoredFile) (c : List ℕ) → Stand room number text files (slot_of (opposite slot) c) (map_of room (opposite slot) c) (slot_of slot c) (map_of room slot c) → AreSlots room number text files (slot_of Zero c) (map_of room Zero c) (slot_of One c) (map_of room One c)
slots_from Zero room number None files c stand = (stand.1, stand.0)
slots_from One room number None files c stand = stand
slots_from Zero room number (Some t) files c stand = inr stand
slots_from One room number (Some t) files c stand = inl stand

stand_from : (slot : Slot) (room number : ℕ) (text : Option (List ℕ)) (files : List StoredFile) (c : List ℕ) → AreSlots room number text files (slot_of Zero c) (map_of room Zero c) (slot_of One c) (map_of room One c) → MatchOption text (Unit {0}) (λ t. IsCurrent room number t files (slot_of (opposite slot) c) (map_of room (opposite slot) c) (slot_of slot c) (map_of room slot c)) → Stand room number text files (slot_of (opposite slot) c) (map_of room (opposite slot) c) (slot_of slot c) (map_of room slot c)
stand_from Zero room number None files c slots is = (slots.1, slots.0)
stand_from One room number None files c slots is = slots
stand_from slot room number (Some t) files c slots is = is

-- where slots and maps are
pub place_low : (slot : Slot) → SLOT_ZERO ≤ slot_place slot
place_low Zero = omega arith
place_low One = omega arith

pub opposite_apart : (slot : Slot) (place n : ℕ) → slot_place slot ≤ place → place + n ≤ slot_place slot + SLOT_LEN → (slot_place (opposite slot) + SLOT_LEN ≤ place) ⊎ (place + n ≤ slot_place (opposite slot))
opposite_apart Zero place n low high = inr (omega (arith, high))
opposite_apart One place n low high = inl (omega (arith, low))

pub map_low : (room : ℕ) (slot : Slot) → DATA + room ≤ map_place room slot
map_low room Zero = omega arith
map_low room One = omega arith

pub map_high : (room : ℕ) (slot : Slot) → map_place room slot + MAP_LEN ≤ DATA + room + 2 * MAP_LEN
map_high room Zero = omega arith
map_high room One = omega arith

maps_apart : (room : ℕ) (slot : Slot) → (map_place room (opposite slot) + MAP_LEN ≤ map_place room slot) ⊎ (map_place room slot + MAP_LEN ≤ map_place room (opposite slot))
maps_apart room Zero = inr (omega arith)
maps_apart room One = inl (omega arith)

-- a write in a slot keeps the other slot and both maps
opposite_kept : (slot : Slot) (place n : ℕ) (c d : List ℕ) → slot_place slot ≤ place → place + n ≤ slot_place slot + SLOT_LEN → Torn place n c d → slot_of (opposite slot) d ≡ slot_of (opposite slot) c
opposite_kept slot place n c d low high torn = range_kept place n (slot_place (opposite slot)) SLOT_LEN c d torn (opposite_apart slot place n low high)

map_kept : (room : ℕ) (slot any : Slot) (place n : ℕ) (c d : List ℕ) → place + n ≤ slot_place slot + SLOT_LEN → Torn place n c d → map_of room any d ≡ map_of room any c
map_kept room slot any place n c d high torn = range_kept place n (map_place room any) MAP_LEN c d torn (inr (omega (arith, high, place_high slot, map_low room any)))

-- what stands in a disk whose slots and maps are these
stand_as : (p : Contents) (slot : Slot) (c d : List ℕ) (b b_map : List ℕ) → slot_of (opposite slot) d ≡ slot_of (opposite slot) c → map_of p.room (opposite slot) d ≡ map_of p.room (opposite slot) c → slot_of slot d ≡ b → map_of p.room slot d ≡ b_map → Stand p.room p.number p.text p.files (slot_of (opposite slot) c) (map_of p.room (opposite slot) c) b b_map → StandIn p slot d
stand_as p slot c d b b_map one two three four stand =
    subst (λ (x : List ℕ). Stand p.room p.number p.text p.files x (map_of p.room (opposite slot) d) (slot_of slot d) (map_of p.room slot d)) (sym one)
    (subst (λ (x : List ℕ). Stand p.room p.number p.text p.files (slot_of (opposite slot) c) x (slot_of slot d) (map_of p.room slot d)) (sym two)
    (subst (λ (x : List ℕ). Stand p.room p.number p.text p.files (slot_of (opposite slot) c) (map_of p.room (opposite slot) c) x (map_of p.room slot d)) (sym three)
    (subst (λ (x : List ℕ). Stand p.room p.number p.text p.files (slot_of (opposite slot) c) (map_of p.room (opposite slot) c) b x) (sym four) stand)))

-- writes in the slots and in the maps of an image
rebuilt : (p : Contents) (slot : Slot) (c d : List ℕ) → SameButSlots p.room c d → IsNew (range c 0 HEADER_LEN) → StandsFor p c → StandIn p slot d → StandsFor p d
rebuilt p slot c d same new standing stand = reslotted p p.number p.text p.files c d same new standing.lawful (slots_from slot p.room p.number p.text p.files d stand) standing.files standing

-- a torn gate of the slot
gate_torn : (slot : Slot) (c d : List ℕ) → Torn (slot_place slot) 1 c d → Torn 0 1 (slot_of slot c) (slot_of slot d)
gate_torn slot c d torn =
    let at : slot_place slot ≡ slot_place slot + 0 = omega arith in
    torn_in (slot_place slot) SLOT_LEN 0 1 c d (omega arith) (subst (λ (k : ℕ). Torn k 1 c d) at torn)

pub gate_same : (room : ℕ) (slot : Slot) (c d : List ℕ) → Torn (slot_place slot) 1 c d → SameButSlots room c d
gate_same room slot c d torn = but_slots room (slot_place slot) 1 c d (place_low slot) (omega (arith, place_high slot)) torn

fill_same : (room : ℕ) (slot : Slot) (c d : List ℕ) → TornBoth (slot_place slot + FIELDS) (SLOT_LEN - FIELDS) (map_place room slot) MAP_LEN c d → SameButSlots room c d
fill_same room slot c d torn = but_joined room c torn.0 d
    (but_slots room (slot_place slot + FIELDS) (SLOT_LEN - FIELDS) c torn.0 (omega (arith, place_low slot)) (omega (arith, place_high slot)) torn.1)
    (but_maps room (map_place room slot) MAP_LEN torn.0 d (map_low room slot) (map_high room slot) torn.2)

-- every image has the slots and the maps that a read gives
slot_same : (v : View) (slot : Slot) (d : List ℕ) → HasOne 0 JOURNAL v → v.images d → slot_of slot d ≡ slot_of slot v.bytes
slot_same v slot d front now = sym (inner d) ∙ ap (λ (l : List ℕ). range l (slot_place slot) SLOT_LEN) (front d now) ∙ inner v.bytes
  where
    inner : (c : List ℕ) → range (range c 0 JOURNAL) (slot_place slot) SLOT_LEN ≡ slot_of slot c
    inner c = range-range c 0 JOURNAL (slot_place slot) SLOT_LEN (omega (arith, place_high slot)) ∙ ap (λ (k : ℕ). range c k SLOT_LEN) (zero-add (slot_place slot))

map_same : (v : View) (room : ℕ) (slot : Slot) (d : List ℕ) → HasOne (DATA + room) (2 * MAP_LEN) v → v.images d → map_of room slot d ≡ map_of room slot v.bytes
map_same v room slot d maps now = sym (inner slot d) ∙ ap (λ (l : List ℕ). range l (from slot) MAP_LEN) (maps d now) ∙ inner slot v.bytes
  where
    from : Slot → ℕ
    from Zero = 0
    from One = MAP_LEN

    inner : (slot : Slot) (c : List ℕ) → range (range c (DATA + room) (2 * MAP_LEN)) (from slot) MAP_LEN ≡ map_of room slot c
    inner Zero c = let at : DATA + room + 0 ≡ DATA + room = omega arith in range-range c (DATA + room) (2 * MAP_LEN) 0 MAP_LEN (omega arith) ∙ ap (λ (k : ℕ). range c k MAP_LEN) at
    inner One c = range-range c (DATA + room) (2 * MAP_LEN) MAP_LEN MAP_LEN (omega arith)

header_same : (v : View) (d : List ℕ) → HasOne 0 JOURNAL v → v.images d → range d 0 HEADER_LEN ≡ range v.bytes 0 HEADER_LEN
header_same v d front now = sym (inner d) ∙ ap (λ (l : List ℕ). range l 0 HEADER_LEN) (front d now) ∙ inner v.bytes
  where
    inner : (c : List ℕ) → range (range c 0 JOURNAL) 0 HEADER_LEN ≡ range c 0 HEADER_LEN
    inner c = range-range c 0 JOURNAL 0 HEADER_LEN (omega arith) ∙ ap (λ (k : ℕ). range c k HEADER_LEN) (zero-add 0)

-- what stands in the slots of a ready store
pub ready_stand : (v : View) (spare : Slot) (was_open : Bool) (p : Contents) → HasSpare v spare was_open p → StandIn p spare v.bytes
ready_stand v spare was_open p ready =
    let standing : StandsFor p v.bytes = settled_read v p ready.settled in
    let format = new_format p.room p.number p.text p.files p.seals v.bytes ready.format standing.format in
    stand_from spare p.room p.number p.text p.files v.bytes format.slots ready.slot

image_stand : (v : View) (spare : Slot) (was_open : Bool) (p : Contents) (d : List ℕ) → HasSpare v spare was_open p → v.images d → StandIn p spare d
image_stand v spare was_open p d ready now =
    stand_as p spare v.bytes d (slot_of spare v.bytes) (map_of p.room spare v.bytes) (slot_same v (opposite spare) d ready.front now) (map_same v p.room (opposite spare) d ready.maps now) (slot_same v spare d ready.front now) (map_same v p.room spare d ready.maps now) (ready_stand v spare was_open p ready)

-- the gate of a slot was written: what stands, where the slot itself stands as it does
gate_stand : (p : Contents) (slot : Slot) (c d : List ℕ) → Torn (slot_place slot) 1 c d → Stand p.room p.number p.text p.files (slot_of (opposite slot) c) (map_of p.room (opposite slot) c) (slot_of slot d) (map_of p.room slot c) → StandIn p slot d
gate_stand p slot c d torn stand =
    stand_as p slot c d (slot_of slot d) (map_of p.room slot c) (opposite_kept slot (slot_place slot) 1 c d (omega arith) (omega arith) torn) (map_kept p.room slot (opposite slot) (slot_place slot) 1 c d (omega arith) torn) refl (map_kept p.room slot slot (slot_place slot) 1 c d (omega arith) torn) stand

-- the closing of the spare slot: each image stands for the contents
pub closing : (v w : View) (spare : Slot) (was_open : Bool) (p : Contents) → HasSpare v spare was_open p → Within (slot_place spare) 1 v w → (was_open ≡ false → LeavesOnly v.images v w) → LeavesOnly (StandsFor p) v w
closing v w spare was_open p ready within untouched = elim (cases_Bool was_open) [
  | inr shut ↦ weaker v w v.images (StandsFor p) ready.settled.each (untouched shut)
  | inl opened ↦ weaker v w (After (Torn (slot_place spare) 1) v) (StandsFor p) (λ c was. torn_one opened c was.0 was.1 was.2) within.moments
]
  where
    torn_one : was_open ≡ true → (c d : List ℕ) → v.images d → Torn (slot_place spare) 1 d c → StandsFor p c
    torn_one opened c d now torn =
        let open_now : IsOpen (slot_of spare d) = subst IsOpen (sym (slot_same v spare d ready.front now)) (ready.gate.0 opened) in
        let stand = closing_stands p.room p.number p.text p.files (slot_of (opposite spare) d) (map_of p.room (opposite spare) d) (slot_of spare d) (map_of p.room spare d) (slot_of spare c) open_now (gate_torn spare d c torn) (image_stand v spare was_open p d ready now) in
        rebuilt p spare d c (gate_same p.room spare d c torn) (subst IsNew (sym (header_same v d ready.front now)) ready.format) (ready.settled.each d now) (gate_stand p spare d c torn stand)

-- a disk with one image, whose spare slot is closed
pub record Closed (v : View) (p : Contents) (slot : Slot) : Type 0 where
  pub told : v.told
  pub only : Only v.bytes v
  pub new : IsNew (range v.bytes 0 HEADER_LEN)
  pub standing : StandsFor p v.bytes
  pub shut : IsOpen (slot_of slot v.bytes) → ⊥
  pub stand : StandIn p slot v.bytes

pub closed_after : (v w : View) (spare : Slot) (was_open : Bool) (p : Contents) → HasSpare v spare was_open p → w.told → Only w.bytes w → w.bytes ≡ (if was_open then put v.bytes (slot_place spare) (0 ∷ []) else v.bytes) → Within (slot_place spare) 1 v w → LeavesOnly (StandsFor p) v w → Closed w p spare
closed_after v w spare was_open p ready told only bytes within moments =
    let shut : IsOpen (slot_of spare w.bytes) → ⊥ = shut_by (cases_Bool was_open) in
    let torn = within.bytes ready.settled.told in
    let same = gate_same p.room spare v.bytes w.bytes torn in
    let stand = shut_stands p.room p.number p.text p.files (slot_of (opposite spare) v.bytes) (map_of p.room (opposite spare) v.bytes) (slot_of spare v.bytes) (map_of p.room spare v.bytes) (slot_of spare w.bytes) (map_of p.room spare v.bytes) shut (ready_stand v spare was_open p ready) in
    record {
      told = told;
      only = only;
      new = subst IsNew (sym same.header) ready.format;
      standing = at_end v w (StandsFor p) moments w.bytes (w.reads told);
      shut = shut;
      stand = gate_stand p spare v.bytes w.bytes torn stand;
    }
  where
    shut_by : (was_open ≡ true) ⊎ (was_open ≡ false) → IsOpen (slot_of spare w.bytes) → ⊥
    shut_by (inl opened) now =
        let is : w.bytes ≡ put v.bytes (slot_place spare) (0 ∷ []) = bytes ∙ ap (λ (b : Bool). if b then put v.bytes (slot_place spare) (0 ∷ []) else v.bytes) opened in
        let long = stands_long p v.bytes (settled_read v p ready.settled) in
        let byte : get_or w.bytes (slot_place spare) 0 ≡ 0 = ap (λ (c : List ℕ). get_or c (slot_place spare) 0) is ∙ byte_put v.bytes (slot_place spare) 0 (omega (arith, long, place_high spare)) in
        absurd (omega (arith, byte, gate_of spare w.bytes, now))
    shut_by (inr shut) now =
        let is : w.bytes ≡ v.bytes = bytes ∙ ap (λ (b : Bool). if b then put v.bytes (slot_place spare) (0 ∷ []) else v.bytes) shut in
        absurd (true≢false (sym (ready.gate.1 (subst (λ (c : List ℕ). IsOpen (slot_of spare c)) is now)) ∙ shut))

-- the slot and its map were filled behind the closed gate
abbrev pub TornFill : ℕ → Slot → List ℕ → List ℕ → Type 0
TornFill room slot old new = TornBoth (slot_place slot + FIELDS) (SLOT_LEN - FIELDS) (map_place room slot) MAP_LEN old new

fill_stand : (p : Contents) (slot : Slot) (c d : List ℕ) → TornFill p.room slot c d → (IsOpen (slot_of slot c) → ⊥) → StandIn p slot c → (IsOpen (slot_of slot d) → ⊥) × StandIn p slot d
fill_stand p slot c d torn shut stand =
    let high = place_high slot in
    let low = map_low p.room slot in
    let first = byte_kept (slot_place slot + FIELDS) (SLOT_LEN - FIELDS) (slot_place slot) c torn.0 torn.1 (inl (omega arith)) in
    let second = byte_kept (map_place p.room slot) MAP_LEN (slot_place slot) torn.0 d torn.2 (inl (omega (arith, high, low))) in
    let closed : IsOpen (slot_of slot d) → ⊥ = λ opened. shut (gate_of slot c ∙ sym first ∙ sym second ∙ sym (gate_of slot d) ∙ opened) in
    let next = shut_stands p.room p.number p.text p.files (slot_of (opposite slot) c) (map_of p.room (opposite slot) c) (slot_of slot c) (map_of p.room slot c) (slot_of slot d) (map_of p.room slot d) closed stand in (
      closed,
      stand_as p slot c d (slot_of slot d) (map_of p.room slot d)
          (both_kept (slot_place slot + FIELDS) (SLOT_LEN - FIELDS) (map_place p.room slot) MAP_LEN (slot_place (opposite slot)) SLOT_LEN c d (opposite_apart slot (slot_place slot + FIELDS) (SLOT_LEN - FIELDS) (omega arith) (omega arith)) (inl (omega (arith, place_high (opposite slot), low))) torn)
          (both_kept (slot_place slot + FIELDS) (SLOT_LEN - FIELDS) (map_place p.room slot) MAP_LEN (map_place p.room (opposite slot)) MAP_LEN c d (inr (omega (arith, high, map_low p.room (opposite slot)))) (maps_apart p.room slot) torn)
          refl refl next,
    )

pub filling : (v w : View) (p : Contents) (slot : Slot) → Closed v p slot → WithinBoth (slot_place slot + FIELDS) (SLOT_LEN - FIELDS) (map_place p.room slot) MAP_LEN v w → LeavesOnly (StandsFor p) v w
filling v w p slot closed within = weaker v w (After (TornFill p.room slot) v) (StandsFor p) (λ c was.
    let torn : TornFill p.room slot v.bytes c = subst (λ (x : List ℕ). TornFill p.room slot x c) (closed.only was.0 was.1) was.2 in
    rebuilt p slot v.bytes c (fill_same p.room slot v.bytes c torn) closed.new closed.standing (fill_stand p slot v.bytes c torn closed.shut closed.stand).1) within.moments

-- a disk with one image, whose closed spare slot has the next snapshot
pub record Filled (v : View) (p : Contents) (slot : Slot) (text : List ℕ) (files : List StoredFile) : Type 0 where
  pub closed : Closed v p slot
  pub has : HasSlot (p.number + 1) text files (slot_of slot v.bytes) (map_of p.room slot v.bytes)
  pub held : AreFiles files (range v.bytes DATA p.room)
  pub lawful : IsLawful (switched p text files)

pub closed_still : (v w : View) (p : Contents) (slot : Slot) → Closed v p slot → w.told → Only w.bytes w → WithinBoth (slot_place slot + FIELDS) (SLOT_LEN - FIELDS) (map_place p.room slot) MAP_LEN v w → LeavesOnly (StandsFor p) v w → Closed w p slot
closed_still v w p slot closed told only within moments =
    let torn = within.bytes closed.told in
    let both = fill_stand p slot v.bytes w.bytes torn closed.shut closed.stand in
    let same = fill_same p.room slot v.bytes w.bytes torn in
    record {
      told = told;
      only = only;
      new = subst IsNew (sym same.header) closed.new;
      standing = at_end v w (StandsFor p) moments w.bytes (w.reads told);
      shut = both.0;
      stand = both.1;
    }

-- the filled slot, as its gate is opened
pub opened_current : (v : View) (p : Contents) (slot : Slot) (text : List ℕ) (files : List StoredFile) (c : List ℕ) → Filled v p slot text files → Torn (slot_place slot) 1 v.bytes c → IsOpen (slot_of slot c) → IsCurrent p.room (p.number + 1) text files (slot_of slot c) (map_of p.room slot c) (slot_of (opposite slot) c) (map_of p.room (opposite slot) c)
opened_current v p slot text files c filled torn opened =
    let standing = filled.closed.standing in
    let is = next_stands p.room p.number p.text p.files text files (slot_of (opposite slot) v.bytes) (map_of p.room (opposite slot) v.bytes) (slot_of slot v.bytes) (map_of p.room slot v.bytes) (slot_of slot c) standing.lawful.snapshot filled.has (gate_torn slot v.bytes c torn) opened filled.closed.stand in
    let one = subst (λ (x : List ℕ). IsCurrent p.room (p.number + 1) text files (slot_of slot c) x (slot_of (opposite slot) v.bytes) (map_of p.room (opposite slot) v.bytes)) (sym (map_kept p.room slot slot (slot_place slot) 1 v.bytes c (omega arith) torn)) is in
    let two = subst (λ (x : List ℕ). IsCurrent p.room (p.number + 1) text files (slot_of slot c) (map_of p.room slot c) x (map_of p.room (opposite slot) v.bytes)) (sym (opposite_kept slot (slot_place slot) 1 v.bytes c (omega arith) (omega arith) torn)) one in
    subst (λ (x : List ℕ). IsCurrent p.room (p.number + 1) text files (slot_of slot c) (map_of p.room slot c) (slot_of (opposite slot) c) x) (sym (map_kept p.room slot (opposite slot) (slot_place slot) 1 v.bytes c (omega arith) torn)) two

pub opened_one : (v : View) (p : Contents) (slot : Slot) (text : List ℕ) (files : List StoredFile) (c : List ℕ) → Filled v p slot text files → Torn (slot_place slot) 1 v.bytes c → IsOpen (slot_of slot c) → StandsFor (switched p text files) c
opened_one v p slot text files c filled torn opened =
    reslotted p (p.number + 1) (Some text) files v.bytes c (gate_same p.room slot v.bytes c torn) filled.closed.new filled.lawful (slots_of slot (opened_current v p slot text files c filled torn opened)) filled.held filled.closed.standing
  where
    slots_of : (x : Slot) → IsCurrent p.room (p.number + 1) text files (slot_of x c) (map_of p.room x c) (slot_of (opposite x) c) (map_of p.room (opposite x) c) → AreSlots p.room (p.number + 1) (Some text) files (slot_of Zero c) (map_of p.room Zero c) (slot_of One c) (map_of p.room One c)
    slots_of Zero current = inl current
    slots_of One current = inr current

-- the opening of the filled slot: each image stands for the contents before or for those after
pub opening : (v w : View) (p : Contents) (slot : Slot) (text : List ℕ) (files : List StoredFile) → Filled v p slot text files → Within (slot_place slot) 1 v w → LeavesOnly (Either p (switched p text files)) v w
opening v w p slot text files filled within = weaker v w (After (Torn (slot_place slot) 1) v) (Either p (switched p text files)) (λ c was. one c was.0 was.1 was.2) within.moments
  where
    one : (c d : List ℕ) → v.images d → Torn (slot_place slot) 1 d c → Either p (switched p text files) c
    one c d now torn =
        let is : d ≡ v.bytes = filled.closed.only d now in
        let here : Torn (slot_place slot) 1 v.bytes c = subst (λ (x : List ℕ). Torn (slot_place slot) 1 x c) is torn in
        elim (open_cases (slot_of slot c)) [
          | inl opened ↦ inr (opened_one v p slot text files c filled here opened)
          | inr shut ↦
              let stand = shut_stands p.room p.number p.text p.files (slot_of (opposite slot) v.bytes) (map_of p.room (opposite slot) v.bytes) (slot_of slot v.bytes) (map_of p.room slot v.bytes) (slot_of slot c) (map_of p.room slot v.bytes) shut filled.closed.stand in
              inl (rebuilt p slot v.bytes c (gate_same p.room slot v.bytes c here) filled.closed.new filled.closed.standing (gate_stand p slot v.bytes c here stand))
        ]
