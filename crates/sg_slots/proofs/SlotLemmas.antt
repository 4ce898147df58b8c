-- What a slot says.
use Rattle.std.proofs.Common.{◌≡◌, inl, inr, ℕ, zero, suc, ◌+◌, ◌*◌, ◌<◌, ◌≤◌, nat_lt, nat_le, ◌&&◌, Bool, true, false, List, [], ◌∷◌, ◌++◌, length, get_or, drop, None, Some, if◌then◌else◌, All, refl, sym, ◌∙◌, ap, subst, arith, add-one}
use Rattle.std.specs.Int.{w32, w64, from_le_bytes}
use Rattle.std.proofs.lemmas.Bool.{eq-eqb, ne_eqb, cases_lt, ltb-true, and_parts}
use Rattle.std.proofs.lemmas.List.{length_push, get_or_append_left, get_or_push, drop_more, at_drop_all}
use Rattle.std.proofs.lemmas.List.Elements.{All-nil, All-push}
use Rattle.std.proofs.lemmas.List.Quantifiers.{all_pairs_push}
use Rattle.sg_placing.specs.Placing.{end_of, IsPlaced, AreAscending}
use Rattle.sg_placing.specs.declared.placed.Placed.{Placed}
use Rattle.sg_slots.specs.Damage.{is_entry, entries_damage}
use Rattle.sg_disk.specs.View.{range}
use Rattle.sg_base.specs.declared.limits.TheConstants.{MAX_FILE_LEN}
use Rattle.sg_disk.specs.declared.places.TheConstants.{DATA, ENTRY_LEN, FIELDS, SLOT_ONE}
use Rattle.sg_disk.proofs.Ranges.{range-range, byte_in}
use Rattle.sg_slots.specs.Bytes.{u32_at, u64_at, placed_at, entries_of}
use Rattle.sg_slots.specs.Slots.{slot_place, head_at}
use Rattle.sg_slots.specs.declared.slots.Slot.{Slot}
use Rattle.sg_slots.specs.declared.slots.Slot.TheVariants.{Zero, One}
use Rattle.sg_slots.specs.declared.fault.OpenFault.TheVariants.{Damaged}
use Rattle.sg_slots.specs.Damage.{Damage}

-- a number in a range
pub u32_in_range : (c : List ℕ) (a l p : ℕ) → p + 4 ≤ l → u32_at (range c a l) p ≡ u32_at c (a + p)
unfolding u32_at
u32_in_range c a l p le = ap (λ (bs : List ℕ). from_le_bytes w32 bs) (range-range c a l p 4 le)

pub u64_in_range : (c : List ℕ) (a l p : ℕ) → p + 8 ≤ l → u64_at (range c a l) p ≡ u64_at c (a + p)
unfolding u64_at
u64_in_range c a l p le = ap (λ (bs : List ℕ). from_le_bytes w64 bs) (range-range c a l p 8 le)

-- an open gate and a closed one
pub head_open : (slot : Slot) (c : List ℕ) → get_or c (slot_place slot) 0 ≡ 1 → head_at slot c ≡ Some (record { number = u32_at c (slot_place slot + FIELDS); text = u32_at c (slot_place slot + 8); count = u32_at c (slot_place slot + 12) })
head_open slot c opened = ap (λ (b : Bool). if b then Some (record { number = u32_at c (slot_place slot + FIELDS); text = u32_at c (slot_place slot + 8); count = u32_at c (slot_place slot + 12) }) else None) (eq-eqb (get_or c (slot_place slot) 0) 1 opened)

pub head_closed : (slot : Slot) (c : List ℕ) → (get_or c (slot_place slot) 0 ≡ 1 → ⊥) → head_at slot c ≡ None
head_closed slot c closed = ap (λ (b : Bool). if b then Some (record { number = u32_at c (slot_place slot + FIELDS); text = u32_at c (slot_place slot + 8); count = u32_at c (slot_place slot + 12) }) else None) (ne_eqb (get_or c (slot_place slot) 0) 1 closed)

-- the gate of a slot that was read
pub gate_read : (c head : List ℕ) (place : ℕ) → head ≡ range c place 16 → get_or head 0 0 ≡ get_or c place 0
gate_read c head place is = let at : place + 0 ≡ place = omega arith in ap (λ (l : List ℕ). get_or l 0 0) is ∙ byte_in c place 16 0 (omega arith) ∙ ap (λ (k : ℕ). get_or c k 0) at

-- a slot that was read
pub none_read : (slot : Slot) (c head : List ℕ) (place : ℕ) → place ≡ slot_place slot → head ≡ range c place 16 → (get_or head 0 0 ≡ 1 → ⊥) → None ≡ head_at slot c
none_read slot c head place at is closed = sym (head_closed slot c (λ opened. closed (gate_read c head place is ∙ ap (λ (k : ℕ). get_or c k 0) at ∙ opened)))

pub some_read : (slot : Slot) (c head : List ℕ) (place number text count : ℕ) → place ≡ slot_place slot → head ≡ range c place 16 → get_or head 0 0 ≡ 1 → number ≡ u32_at head 4 → text ≡ u32_at head 8 → count ≡ u32_at head 12 → Some (record { number = number; text = text; count = count }) ≡ head_at slot c
some_read slot c head place number text count at is opened first second third =
    let field : (p : ℕ) → p + 4 ≤ 16 → u32_at head p ≡ u32_at c (slot_place slot + p) = λ p le. ap (λ (l : List ℕ). u32_at l p) is ∙ u32_in_range c place 16 p le ∙ ap (λ (k : ℕ). u32_at c (k + p)) at in
    let one : number ≡ u32_at c (slot_place slot + FIELDS) = first ∙ field 4 (omega arith) in
    let two : text ≡ u32_at c (slot_place slot + 8) = second ∙ field 8 (omega arith) in
    let three : count ≡ u32_at c (slot_place slot + 12) = third ∙ field 12 (omega arith) in
    rw (one, two, three) (sym (head_open slot c (sym (ap (λ (k : ℕ). get_or c k 0) at) ∙ sym (gate_read c head place is) ∙ opened)))

-- the entries of a table
pub length-entries : (table : List ℕ) (n : ℕ) → length (entries_of table n) ≡ n
length-entries table zero = refl
length-entries table (suc n) = length_push (entries_of table n) (placed_at table (ENTRY_LEN * n)) ∙ ap (λ (k : ℕ). k + 1) (length-entries table n) ∙ add-one n

pub get_or-entries : (table : List ℕ) (n i : ℕ) (d : Placed) → i < n → get_or (entries_of table n) i d ≡ placed_at table (ENTRY_LEN * i)
get_or-entries table zero i d lt = absurd (omega (arith, lt))
get_or-entries table (suc n) i d lt = elim (cases_lt i n) [
  | inl before ↦
      let near : i < length (entries_of table n) = omega (arith, before, length-entries table n) in
      get_or_append_left (entries_of table n) (placed_at table (ENTRY_LEN * n) ∷ []) d i near ∙ get_or-entries table n i d before
  | inr past ↦
      let at : i ≡ n = omega (arith, past, lt) in
      get_or_push (entries_of table n) (placed_at table (ENTRY_LEN * n)) d i (length-entries table n ∙ sym at) ∙ ap (λ (k : ℕ). placed_at table (ENTRY_LEN * k)) (sym at)
]

-- how far the reading of a table has come
pub record Reads (room place count : ℕ) (table : List ℕ) (i before : ℕ) (files : List Placed) : Type 0 where
  pub files_are : files ≡ entries_of table i
  pub damage : entries_damage room place 0 (entries_of table count) ≡ entries_damage room (place + ENTRY_LEN * i) before (drop i (entries_of table count))
  pub placed : All (IsPlaced room) files
  pub low : All (λ p. p.file.media.0 ≤ before) files
  pub ascending : AreAscending files

-- no file is by ascending id
pub ascending_none : (files : List Placed) → files ≡ [] → AreAscending files
ascending_none files none i j d lt below = absurd (omega (arith, below, ap length none))

-- and one more whose id is above those before it
ascending_more : (files : List Placed) (before : ℕ) (p : Placed) → All (λ q. q.file.media.0 ≤ before) files → before < p.file.media.0 → AreAscending files → AreAscending (files ++ p ∷ [])
ascending_more files before p low above up = all_pairs_push (λ q r. q.file.media.0 < r.file.media.0) files p up (λ k d lt. omega (arith, low k d lt, above))

low_more : (files : List Placed) (before : ℕ) (p : Placed) → All (λ q. q.file.media.0 ≤ before) files → before < p.file.media.0 → All (λ q. q.file.media.0 ≤ p.file.media.0) (files ++ p ∷ [])
low_more files before p low above = All-push (λ q. q.file.media.0 ≤ p.file.media.0) files p (λ k d lt. omega (arith, low k d lt, above)) (omega arith)

-- a sound entry has an id above the one before
entry_above : (room before : ℕ) (p : Placed) → is_entry room before p ≡ true → before < p.file.media.0
entry_above room before p sound = ltb-true before p.file.media.0 (and_parts (nat_lt before p.file.media.0) (nat_le 1 p.file.length && (nat_le p.file.length MAX_FILE_LEN && (nat_le DATA p.place && nat_le (end_of p) (DATA + room)))) sound).0

pub reads_none : (room place count : ℕ) (table : List ℕ) (files : List Placed) → files ≡ [] → Reads room place count table 0 0 files
reads_none room place count table files is =
    let at : place ≡ place + ENTRY_LEN * 0 = omega arith in
    record {
      files_are = is;
      damage = ap (λ (p : ℕ). entries_damage room p 0 (entries_of table count)) at;
      placed = subst (All (IsPlaced room)) (sym is) (All-nil (IsPlaced room));
      low = subst (All (λ (p : Placed). p.file.media.0 ≤ 0)) (sym is) (All-nil (λ (p : Placed). p.file.media.0 ≤ 0));
      ascending = ascending_none files is;
    }

-- what the check of entry i says of the whole
pub entries_step : (room place count : ℕ) (table : List ℕ) (i before : ℕ) (files : List Placed) (p : Placed) → i < count → p ≡ placed_at table (ENTRY_LEN * i) → Reads room place count table i before files
    → entries_damage room place 0 (entries_of table count) ≡ (if is_entry room before p then entries_damage room (place + ENTRY_LEN * i + ENTRY_LEN) p.file.media.0 (drop (i + 1) (entries_of table count)) else Some (record { place = place + ENTRY_LEN * i; found = p.file.media.0 }))
entries_step room place count table i before files p lt is so_far =
    let all : List Placed = entries_of table count in
    let here : drop i all ≡ p ∷ drop (i + 1) all = drop_more all i p (omega (arith, lt, length-entries table count)) ∙ ap (λ (q : Placed). q ∷ drop (i + 1) all) (get_or-entries table count i p lt ∙ sym is) in
    so_far.damage ∙ ap (λ (l : List Placed). entries_damage room (place + ENTRY_LEN * i) before l) here

pub reads_more : (room place count : ℕ) (table : List ℕ) (i before : ℕ) (files new : List Placed) (p : Placed) → i < count → p ≡ placed_at table (ENTRY_LEN * i) → is_entry room before p ≡ true → IsPlaced room p → new ≡ files ++ p ∷ [] → Reads room place count table i before files → Reads room place count table (i + 1) p.file.media.0 new
reads_more room place count table i before files new p lt is sound placed pushed so_far =
    let at : place + ENTRY_LEN * i + ENTRY_LEN ≡ place + ENTRY_LEN * (i + 1) = omega arith in
    let one : i + 1 ≡ suc i = add-one i in
    record {
      files_are = pushed ∙ ap (λ (l : List Placed). l ++ p ∷ []) so_far.files_are ∙ ap (λ (q : Placed). entries_of table i ++ q ∷ []) is ∙ ap (entries_of table) (sym one);
      damage = entries_step room place count table i before files p lt is so_far ∙ ap (λ (b : Bool). if b then entries_damage room (place + ENTRY_LEN * i + ENTRY_LEN) p.file.media.0 (drop (i + 1) (entries_of table count)) else Some (record { place = place + ENTRY_LEN * i; found = p.file.media.0 })) sound ∙ ap (λ (k : ℕ). entries_damage room k p.file.media.0 (drop (i + 1) (entries_of table count))) at;
      placed = subst (All (IsPlaced room)) (sym pushed) (All-push (IsPlaced room) files p so_far.placed placed);
      low = subst (All (λ (q : Placed). q.file.media.0 ≤ p.file.media.0)) (sym pushed) (low_more files before p so_far.low (entry_above room before p sound));
      ascending = subst AreAscending (sym pushed) (ascending_more files before p so_far.low (entry_above room before p sound) so_far.ascending);
    }

pub reads_refused : (room place count : ℕ) (table : List ℕ) (i before : ℕ) (files : List Placed) (p : Placed) → i < count → p ≡ placed_at table (ENTRY_LEN * i) → is_entry room before p ≡ false → Reads room place count table i before files → entries_damage room place 0 (entries_of table count) ≡ Some (record { place = place + ENTRY_LEN * i; found = p.file.media.0 })
reads_refused room place count table i before files p lt is sound so_far =
    entries_step room place count table i before files p lt is so_far ∙ ap (λ (b : Bool). if b then entries_damage room (place + ENTRY_LEN * i + ENTRY_LEN) p.file.media.0 (drop (i + 1) (entries_of table count)) else Some (record { place = place + ENTRY_LEN * i; found = p.file.media.0 })) sound

pub reads_all : (room place count : ℕ) (table : List ℕ) (i before : ℕ) (files : List Placed) → count ≤ i → Reads room place count table i before files → entries_damage room place 0 (entries_of table count) ≡ None
reads_all room place count table i before files le so_far =
    so_far.damage ∙ at_drop_all (λ (l : List Placed). entries_damage room (place + ENTRY_LEN * i) before l) (entries_of table count) i (omega (arith, le, length-entries table count))

-- the fields of an answer
abbrev pub damage_at : ℕ → ℕ → Damage
damage_at place found = record { place = place; found = found }

pub damaged_as : (p f place found : ℕ) → Damaged p f ≡ Damaged place found → Some (damage_at p f) ≡ Some (damage_at place found)
damaged_as p f place found is =
    let first : p ≡ place = cc in
    let second : f ≡ found = cc in
    ap (λ (k : ℕ). Some (damage_at k f)) first ∙ ap (λ (k : ℕ). Some (damage_at place k)) second

-- where a slot may begin
pub place_high : (slot : Slot) → slot_place slot ≤ SLOT_ONE
place_high Zero = omega arith
place_high One = omega arith
