-- A switch, step by step: the closing of the spare slot, its filling, and the opening of its gate.
use Rattle.std.proofs.Common.{◌≡◌, ◌⊎◌, inl, inr, ℕ, ◌+◌, ◌*◌, ◌≤◌, Bool, true, false, List, [], ◌∷◌, get_or, Option, None, Some, MatchOption, sym, ◌∙◌, ◌-◌, ap, subst, arith, zero-add, if◌then◌else◌}
use Rattle.std.proofs.lemmas.Bool.{cases_Bool, true≢false}
use Rattle.sg_disk.specs.View.{View, range, put, Torn, Only}
use Rattle.sg_disk.specs.Runs.{After, LeavesOnly, Within, HasOne}
use Rattle.sg_disk.specs.Contents.{StoredFile, Contents, IsSnapshot, IsLawful, switched}
use Rattle.sg_disk.specs.StandsFor.{HasFields, IsOpen, IsCurrent, AreSlots, AreFiles, StandsFor, Either}
use Rattle.sg_disk.specs.declared.places.TheConstants.{DATA, FIELDS, JOURNAL, SLOT_LEN, SLOT_ONE, SLOT_ZERO}
use Rattle.sg_disk.proofs.Ranges.{range_kept, range-range, torn_in, torn_wider, byte_kept, byte_put}
use Rattle.sg_disk.proofs.Moments.{weaker, at_end}
use Rattle.sg_disk.proofs.Standing.{open_cases}
use Rattle.sg_disk.proofs.Areas.{fields_kept, reslotted}
use Rattle.sg_disk.proofs.Gates.{closed_other, other_torn}
use Rattle.sg_slots.specs.Slots.{slot_place, slot_of, opposite}
use Rattle.sg_store.specs.Ready.{IsReady}
use Rattle.sg_store.specs.declared.store.Store.{Store}
use Rattle.sg_slots.specs.declared.slots.Slot.{Slot}
use Rattle.sg_slots.specs.declared.slots.Slot.TheVariants.{Zero, One}
use Rattle.sg_slots.proofs.SlotLemmas.{place_high}
use Rattle.sg_slots.proofs.StandLemmas.{gate_of}

-- a snapshot in the one slot beside the other, or both closed
abbrev pub Stand : ℕ → ℕ → Option (List ℕ) → List StoredFile → List ℕ → List ℕ → Type 0
Stand room number text files a b = MatchOption text ((IsOpen a → ⊥) × (IsOpen b → ⊥)) (λ t. IsCurrent room number t files a b)

slots_from : (slot : Slot) (room number : ℕ) (text : Option (List ℕ)) (files : List StoredFile) (c : List ℕ) → Stand room number text files (slot_of (opposite slot) c) (slot_of slot c) → AreSlots room number text files (range c SLOT_ZERO SLOT_LEN) (range c SLOT_ONE SLOT_LEN)
slots_from Zero room number None files c stand = (stand.1, stand.0)
slots_from One room number None files c stand = stand
slots_from Zero room number (Some t) files c stand = inr stand
slots_from One room number (Some t) files c stand = inl stand

stand_from : (slot : Slot) (room number : ℕ) (text : Option (List ℕ)) (files : List StoredFile) (c : List ℕ) → AreSlots room number text files (range c SLOT_ZERO SLOT_LEN) (range c SLOT_ONE SLOT_LEN) → MatchOption text (Unit {0}) (λ t. IsCurrent room number t files (slot_of (opposite slot) c) (slot_of slot c)) → Stand room number text files (slot_of (opposite slot) c) (slot_of slot c)
stand_from Zero room number None files c slots is = (slots.1, slots.0)
stand_from One room number None files c slots is = slots
stand_from slot room number (Some t) files c slots is = is

-- what stands, as the spare slot's bytes change
closing_stands : (room number : ℕ) (text : Option (List ℕ)) (files : List StoredFile) (a b new : List ℕ) → IsOpen b → Torn 0 1 b new → Stand room number text files a b → Stand room number text files a new
closing_stands room number None files a b new opened torn stand = absurd (stand.1 opened)
closing_stands room number (Some t) files a b new opened torn stand = record { gate = stand.gate; fields = stand.fields; rest = other_torn room number 1 b new (omega arith) opened torn stand.rest }

shut_stands : (room number : ℕ) (text : Option (List ℕ)) (files : List StoredFile) (a b new : List ℕ) → (IsOpen new → ⊥) → Stand room number text files a b → Stand room number text files a new
shut_stands room number None files a b new shut stand = (stand.0, shut)
shut_stands room number (Some t) files a b new shut stand = record { gate = stand.gate; fields = stand.fields; rest = closed_other room number new shut }

next_stands : (room number : ℕ) (text : Option (List ℕ)) (files : List StoredFile) (next : List ℕ) (next_files : List StoredFile) (a b new : List ℕ) → MatchOption text ((number ≡ 0) × (files ≡ [])) (λ t. IsSnapshot room number t files) → HasFields (number + 1) next next_files b → Torn 0 1 b new → IsOpen new → Stand room number text files a b → IsCurrent room (number + 1) next next_files new a
next_stands room number None files next next_files a b new none has torn opened stand = record { gate = opened; fields = fields_kept (number + 1) next next_files 0 1 b new (omega arith) torn has; rest = closed_other room (number + 1) a stand.0 }
next_stands room number (Some t) files next next_files a b new snapshot has torn opened stand = record { gate = opened; fields = fields_kept (number + 1) next next_files 0 1 b new (omega arith) torn has; rest = λ _. (number, t, files, omega arith, stand.fields, snapshot) }

-- a range in one slot is outside the other one
pub opposite_apart : (slot : Slot) (place n : ℕ) → slot_place slot ≤ place → place + n ≤ slot_place slot + SLOT_LEN → (slot_place (opposite slot) + SLOT_LEN ≤ place) ⊎ (place + n ≤ slot_place (opposite slot))
opposite_apart Zero place n low high = inr (omega (arith, high))
opposite_apart One place n low high = inl (omega (arith, low))

pub place_low : (slot : Slot) → SLOT_ZERO ≤ slot_place slot
place_low Zero = omega arith
place_low One = omega arith

-- the opposite slot stays
opposite_kept : (slot : Slot) (place n : ℕ) (c d : List ℕ) → slot_place slot ≤ place → place + n ≤ slot_place slot + SLOT_LEN → Torn place n c d → slot_of (opposite slot) d ≡ slot_of (opposite slot) c
opposite_kept slot place n c d low high torn = range_kept place n (slot_place (opposite slot)) SLOT_LEN c d torn (opposite_apart slot place n low high)

-- a torn gate of the slot
gate_torn : (slot : Slot) (c d : List ℕ) → Torn (slot_place slot) 1 c d → Torn 0 1 (slot_of slot c) (slot_of slot d)
gate_torn slot c d torn =
    let at : slot_place slot ≡ slot_place slot + 0 = omega arith in
    torn_in (slot_place slot) SLOT_LEN 0 1 c d (omega arith) (subst (λ (k : ℕ). Torn k 1 c d) at torn)

-- a write in a slot of an image
rebuilt : (p : Contents) (slot : Slot) (c d : List ℕ) (place n : ℕ) → slot_place slot ≤ place → place + n ≤ slot_place slot + SLOT_LEN → Torn place n c d → StandsFor p c → Stand p.room p.number p.text p.files (slot_of (opposite slot) d) (slot_of slot d) → StandsFor p d
rebuilt p slot c d place n low high torn stands stand =
    let wide : Torn SLOT_ZERO (2 * SLOT_LEN) c d = torn_wider place n SLOT_ZERO (2 * SLOT_LEN) c d (omega (arith, low, place_low slot)) (omega (arith, high, place_high slot)) torn in
    reslotted p p.number p.text p.files c d wide stands.lawful (slots_from slot p.room p.number p.text p.files d stand) stands.files stands

switched_stands : (p : Contents) (slot : Slot) (text : List ℕ) (files : List StoredFile) (c d : List ℕ) (place n : ℕ) → slot_place slot ≤ place → place + n ≤ slot_place slot + SLOT_LEN → Torn place n c d → IsLawful (switched p text files) → AreFiles files (range c DATA p.room) → StandsFor p c → IsCurrent p.room (p.number + 1) text files (slot_of slot d) (slot_of (opposite slot) d) → StandsFor (switched p text files) d
switched_stands p slot text files c d place n low high torn lawful held stands is =
    let wide : Torn SLOT_ZERO (2 * SLOT_LEN) c d = torn_wider place n SLOT_ZERO (2 * SLOT_LEN) c d (omega (arith, low, place_low slot)) (omega (arith, high, place_high slot)) torn in
    reslotted p (p.number + 1) (Some text) files c d wide lawful (slots_of slot is) held stands
  where
    slots_of : (x : Slot) → IsCurrent p.room (p.number + 1) text files (slot_of x d) (slot_of (opposite x) d) → AreSlots p.room (p.number + 1) (Some text) files (range d SLOT_ZERO SLOT_LEN) (range d SLOT_ONE SLOT_LEN)
    slots_of Zero current = inl current
    slots_of One current = inr current

-- every image has the slots that a read gives
slot_same : (v : View) (slot : Slot) (d : List ℕ) → HasOne 0 JOURNAL v → v.images d → slot_of slot d ≡ slot_of slot v.bytes
slot_same v slot d front now = sym (inner d) ∙ ap (λ (l : List ℕ). range l (slot_place slot) SLOT_LEN) (front d now) ∙ inner v.bytes
  where
    inner : (c : List ℕ) → range (range c 0 JOURNAL) (slot_place slot) SLOT_LEN ≡ slot_of slot c
    inner c = range-range c 0 JOURNAL (slot_place slot) SLOT_LEN (omega (arith, place_high slot)) ∙ ap (λ (k : ℕ). range c k SLOT_LEN) (zero-add (slot_place slot))

-- what stands in the slots of a ready store
pub ready_stand : (v : View) (s : Store) (p : Contents) → IsReady v s p → Stand p.room p.number p.text p.files (slot_of (opposite s.spare) v.bytes) (slot_of s.spare v.bytes)
ready_stand v s p ready =
    let stands : StandsFor p v.bytes = ready.settled.each v.bytes (v.reads ready.settled.told) in
    stand_from s.spare p.room p.number p.text p.files v.bytes stands.slots ready.knows.slot

image_stand : (v : View) (s : Store) (p : Contents) (d : List ℕ) → IsReady v s p → v.images d → Stand p.room p.number p.text p.files (slot_of (opposite s.spare) d) (slot_of s.spare d)
image_stand v s p d ready now =
    subst (λ (a : List ℕ). Stand p.room p.number p.text p.files a (slot_of s.spare d)) (sym (slot_same v (opposite s.spare) d ready.front now))
    (subst (λ (b : List ℕ). Stand p.room p.number p.text p.files (slot_of (opposite s.spare) v.bytes) b) (sym (slot_same v s.spare d ready.front now)) (ready_stand v s p ready))

-- the closing of the spare slot: each image stands for the contents
pub closing : (v w : View) (s : Store) (p : Contents) → IsReady v s p → Within (slot_place s.spare) 1 v w → (s.spare_open ≡ false → LeavesOnly v.images v w) → LeavesOnly (StandsFor p) v w
closing v w s p ready within untouched = elim (cases_Bool s.spare_open) [
  | inr shut ↦ weaker v w v.images (StandsFor p) ready.settled.each (untouched shut)
  | inl opened ↦ weaker v w (After (Torn (slot_place s.spare) 1) v) (StandsFor p) (λ c was. torn_one opened c was.0 was.1 was.2) within.moments
]
  where
    torn_one : s.spare_open ≡ true → (c d : List ℕ) → v.images d → Torn (slot_place s.spare) 1 d c → StandsFor p c
    torn_one opened c d now torn =
        let before = image_stand v s p d ready now in
        let open_now : IsOpen (slot_of s.spare d) = subst IsOpen (sym (slot_same v s.spare d ready.front now)) (ready.knows.gate.0 opened) in
        let stand = closing_stands p.room p.number p.text p.files (slot_of (opposite s.spare) d) (slot_of s.spare d) (slot_of s.spare c) open_now (gate_torn s.spare d c torn) before in
        let here = subst (λ (a : List ℕ). Stand p.room p.number p.text p.files a (slot_of s.spare c)) (sym (opposite_kept s.spare (slot_place s.spare) 1 d c (omega arith) (omega arith) torn)) stand in
        rebuilt p s.spare d c (slot_place s.spare) 1 (omega arith) (omega arith) torn (ready.settled.each d now) here

-- a disk with one image, whose spare slot is closed
pub record Closed (v : View) (p : Contents) (slot : Slot) : Type 0 where
  pub told : v.told
  pub only : Only v.bytes v
  pub stands : StandsFor p v.bytes
  pub shut : IsOpen (slot_of slot v.bytes) → ⊥
  pub stand : Stand p.room p.number p.text p.files (slot_of (opposite slot) v.bytes) (slot_of slot v.bytes)

pub closed_after : (v w : View) (s : Store) (p : Contents) → IsReady v s p → w.told → Only w.bytes w → w.bytes ≡ (if s.spare_open then put v.bytes (slot_place s.spare) (0 ∷ []) else v.bytes) → Within (slot_place s.spare) 1 v w → LeavesOnly (StandsFor p) v w → Closed w p s.spare
closed_after v w s p ready told only bytes within moments =
    let shut : IsOpen (slot_of s.spare w.bytes) → ⊥ = shut_by (cases_Bool s.spare_open) in
    let torn = within.bytes ready.settled.told in
    let stand = shut_stands p.room p.number p.text p.files (slot_of (opposite s.spare) v.bytes) (slot_of s.spare v.bytes) (slot_of s.spare w.bytes) shut (ready_stand v s p ready) in
    record {
      told = told;
      only = only;
      stands = at_end v w (StandsFor p) moments w.bytes (w.reads told);
      shut = shut;
      stand = subst (λ (a : List ℕ). Stand p.room p.number p.text p.files a (slot_of s.spare w.bytes)) (sym (opposite_kept s.spare (slot_place s.spare) 1 v.bytes w.bytes (omega arith) (omega arith) torn)) stand;
    }
  where
    shut_by : (s.spare_open ≡ true) ⊎ (s.spare_open ≡ false) → IsOpen (slot_of s.spare w.bytes) → ⊥
    shut_by (inl opened) now =
        let is : w.bytes ≡ put v.bytes (slot_place s.spare) (0 ∷ []) = bytes ∙ ap (λ (b : Bool). if b then put v.bytes (slot_place s.spare) (0 ∷ []) else v.bytes) opened in
        let stands : StandsFor p v.bytes = ready.settled.each v.bytes (v.reads ready.settled.told) in
        let byte : get_or w.bytes (slot_place s.spare) 0 ≡ 0 = ap (λ (c : List ℕ). get_or c (slot_place s.spare) 0) is ∙ byte_put v.bytes (slot_place s.spare) 0 (omega (arith, stands.size, place_high s.spare)) in
        absurd (omega (arith, byte, gate_of s.spare w.bytes, now))
    shut_by (inr shut) now =
        let is : w.bytes ≡ v.bytes = bytes ∙ ap (λ (b : Bool). if b then put v.bytes (slot_place s.spare) (0 ∷ []) else v.bytes) shut in
        absurd (true≢false (sym (ready.knows.gate.1 (subst (λ (c : List ℕ). IsOpen (slot_of s.spare c)) is now)) ∙ shut))

-- the filling of the closed slot: each image stands for the contents
pub filling : (v w : View) (p : Contents) (slot : Slot) → Closed v p slot → Within (slot_place slot + FIELDS) (SLOT_LEN - FIELDS) v w → LeavesOnly (StandsFor p) v w
filling v w p slot closed within = weaker v w (After (Torn (slot_place slot + FIELDS) (SLOT_LEN - FIELDS)) v) (StandsFor p) (λ c was. filled_one c was.0 was.1 was.2) within.moments
  where
    filled_one : (c d : List ℕ) → v.images d → Torn (slot_place slot + FIELDS) (SLOT_LEN - FIELDS) d c → StandsFor p c
    filled_one c d now torn =
        let is : d ≡ v.bytes = closed.only d now in
        let here : Torn (slot_place slot + FIELDS) (SLOT_LEN - FIELDS) v.bytes c = subst (λ (x : List ℕ). Torn (slot_place slot + FIELDS) (SLOT_LEN - FIELDS) x c) is torn in
        let gate : get_or c (slot_place slot) 0 ≡ get_or v.bytes (slot_place slot) 0 = byte_kept (slot_place slot + FIELDS) (SLOT_LEN - FIELDS) (slot_place slot) v.bytes c here (inl (omega arith)) in
        let shut : IsOpen (slot_of slot c) → ⊥ = λ opened. closed.shut (gate_of slot v.bytes ∙ sym gate ∙ sym (gate_of slot c) ∙ opened) in
        let stand = shut_stands p.room p.number p.text p.files (slot_of (opposite slot) v.bytes) (slot_of slot v.bytes) (slot_of slot c) shut closed.stand in
        let all = subst (λ (a : List ℕ). Stand p.room p.number p.text p.files a (slot_of slot c)) (sym (opposite_kept slot (slot_place slot + FIELDS) (SLOT_LEN - FIELDS) v.bytes c (omega arith) (omega arith) here)) stand in
        rebuilt p slot v.bytes c (slot_place slot + FIELDS) (SLOT_LEN - FIELDS) (omega arith) (omega arith) here closed.stands all

-- a disk with one image, whose closed spare slot has the next snapshot
pub record Filled (v : View) (p : Contents) (slot : Slot) (text : List ℕ) (files : List StoredFile) : Type 0 where
  pub closed : Closed v p slot
  pub has : HasFields (p.number + 1) text files (slot_of slot v.bytes)
  pub held : AreFiles files (range v.bytes DATA p.room)
  pub lawful : IsLawful (switched p text files)

pub closed_still : (v w : View) (p : Contents) (slot : Slot) → Closed v p slot → w.told → Only w.bytes w → Within (slot_place slot + FIELDS) (SLOT_LEN - FIELDS) v w → LeavesOnly (StandsFor p) v w → Closed w p slot
closed_still v w p slot closed told only within moments =
    let torn = within.bytes closed.told in
    let gate : get_or w.bytes (slot_place slot) 0 ≡ get_or v.bytes (slot_place slot) 0 = byte_kept (slot_place slot + FIELDS) (SLOT_LEN - FIELDS) (slot_place slot) v.bytes w.bytes torn (inl (omega arith)) in
    let shut : IsOpen (slot_of slot w.bytes) → ⊥ = λ opened. closed.shut (gate_of slot v.bytes ∙ sym gate ∙ sym (gate_of slot w.bytes) ∙ opened) in
    let stand = shut_stands p.room p.number p.text p.files (slot_of (opposite slot) v.bytes) (slot_of slot v.bytes) (slot_of slot w.bytes) shut closed.stand in
    record {
      told = told;
      only = only;
      stands = at_end v w (StandsFor p) moments w.bytes (w.reads told);
      shut = shut;
      stand = subst (λ (a : List ℕ). Stand p.room p.number p.text p.files a (slot_of slot w.bytes)) (sym (opposite_kept slot (slot_place slot + FIELDS) (SLOT_LEN - FIELDS) v.bytes w.bytes (omega arith) (omega arith) torn)) stand;
    }

-- the opening of the filled slot: each image stands for the contents before or for those after
opened_one : (v : View) (p : Contents) (slot : Slot) (text : List ℕ) (files : List StoredFile) (c : List ℕ) → Filled v p slot text files → Torn (slot_place slot) 1 v.bytes c → IsOpen (slot_of slot c) → StandsFor (switched p text files) c
opened_one v p slot text files c filled torn opened =
    let stands = filled.closed.stands in
    let is = next_stands p.room p.number p.text p.files text files (slot_of (opposite slot) v.bytes) (slot_of slot v.bytes) (slot_of slot c) stands.lawful.snapshot filled.has (gate_torn slot v.bytes c torn) opened filled.closed.stand in
    switched_stands p slot text files v.bytes c (slot_place slot) 1 (omega arith) (omega arith) torn filled.lawful filled.held stands (subst (λ (a : List ℕ). IsCurrent p.room (p.number + 1) text files (slot_of slot c) a) (sym (opposite_kept slot (slot_place slot) 1 v.bytes c (omega arith) (omega arith) torn)) is)

pub opening : (v w : View) (p : Contents) (slot : Slot) (text : List ℕ) (files : List StoredFile) → Filled v p slot text files → Within (slot_place slot) 1 v w → LeavesOnly (Either p (switched p text files)) v w
opening v w p slot text files filled within = weaker v w (After (Torn (slot_place slot) 1) v) (Either p (switched p text files)) (λ c was. one c was.0 was.1 was.2) within.moments
  where
    one : (c d : List ℕ) → v.images d → Torn (slot_place slot) 1 d c → Either p (switched p text files) c
    one c d now torn =
        let is : d ≡ v.bytes = filled.closed.only d now in
        let here : Torn (slot_place slot) 1 v.bytes c = subst (λ (x : List ℕ). Torn (slot_place slot) 1 x c) is torn in
        elim (open_cases (slot_of slot c)) [
          | inl opened ↦ inr (opened_one v p slot text files c filled here opened)
          | inr shut ↦
              let stand = shut_stands p.room p.number p.text p.files (slot_of (opposite slot) v.bytes) (slot_of slot v.bytes) (slot_of slot c) shut filled.closed.stand in
              let all = subst (λ (a : List ℕ). Stand p.room p.number p.text p.files a (slot_of slot c)) (sym (opposite_kept slot (slot_place slot) 1 v.bytes c (omega arith) (omega arith) here)) stand in
              inl (rebuilt p slot v.bytes c (slot_place slot) 1 (omega arith) (omega arith) here filled.closed.stands all)
        ]

-- the slots after the last sync
pub opened_slots : (v w : View) (p : Contents) (slot : Slot) (text : List ℕ) (files : List StoredFile) → Filled v p slot text files → w.bytes ≡ put v.bytes (slot_place slot) (1 ∷ []) → Torn (slot_place slot) 1 v.bytes w.bytes → IsCurrent p.room (p.number + 1) text files (slot_of slot w.bytes) (slot_of (opposite slot) w.bytes)
opened_slots v w p slot text files filled bytes torn =
    let stands = filled.closed.stands in
    let byte : get_or w.bytes (slot_place slot) 0 ≡ 1 = ap (λ (c : List ℕ). get_or c (slot_place slot) 0) bytes ∙ byte_put v.bytes (slot_place slot) 1 (omega (arith, stands.size, place_high slot)) in
    let is = next_stands p.room p.number p.text p.files text files (slot_of (opposite slot) v.bytes) (slot_of slot v.bytes) (slot_of slot w.bytes) stands.lawful.snapshot filled.has (gate_torn slot v.bytes w.bytes torn) (gate_of slot w.bytes ∙ byte) filled.closed.stand in
    subst (λ (a : List ℕ). IsCurrent p.room (p.number + 1) text files (slot_of slot w.bytes) a) (sym (opposite_kept slot (slot_place slot) 1 v.bytes w.bytes (omega arith) (omega arith) torn)) is

pub opened_stands : (v w : View) (p : Contents) (slot : Slot) (text : List ℕ) (files : List StoredFile) → Filled v p slot text files → w.bytes ≡ put v.bytes (slot_place slot) (1 ∷ []) → Torn (slot_place slot) 1 v.bytes w.bytes → StandsFor (switched p text files) w.bytes
opened_stands v w p slot text files filled bytes torn =
    let is = opened_slots v w p slot text files filled bytes torn in
    opened_one v p slot text files w.bytes filled torn is.gate
