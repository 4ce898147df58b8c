-- A disk whose slots have no fault in the old format has none in the new one, after its upgrade.
use Rattle.std.proofs.Common.{◌≡◌, inl, inr, ℕ, ◌+◌, ◌*◌, ◌/◌, ◌<◌, ◌≤◌, ◌==◌, nat_lt, nat_le, ◌&&◌, ◌||◌, Bool, true, false, List, [], ◌∷◌, ◌++◌, get_or, sum_by, Option, None, Some, option_map, if◌then◌else◌, refl, sym, ◌∙◌, ap, subst, arith}
use Rattle.std.specs.List.{flat_map, list_all}
use Rattle.std.specs.Int.{w32, from_le_bytes}
use Rattle.std.proofs.lemmas.Bool.{and_parts, and_from, le-leb, leb-true, cases_Bool, ne_eqb}
use Rattle.std.proofs.lemmas.List.Sums.{sum_by-cons}
use Rattle.sg_base.specs.declared.limits.TheConstants.{MANIFEST_FILES, MAX_FILE_LEN, MANIFEST_TEXT}
use Rattle.sg_disk.specs.View.{range}
use Rattle.sg_disk.specs.declared.places.TheConstants.{DATA, ENTRY_LEN, PAGE, SLOT_ZERO, TABLE}
use Rattle.sg_disk.proofs.Ranges.{byte_in}
use Rattle.sg_placing.specs.Placing.{end_of}
use Rattle.sg_placing.specs.declared.placed.Placed.{Placed}
use Rattle.sg_pages.specs.Pages.{needed}
use Rattle.sg_pages.specs.Maps.{bad_entry, pages_of}
use Rattle.sg_pages.specs.Shelves.{pages_for, extent_of}
use Rattle.sg_slots.specs.Bytes.{u32_at, entries_of}
use Rattle.sg_slots.specs.Damage.{Damage, check, or_else, is_entry, fields_damage, entries_damage, slot_damage, twin_damage, is_apart, overlap_damage, slots_damage}
use Rattle.sg_slots.specs.Slots.{slot_place, head_at, files_of, files_at}
use Rattle.sg_slots.specs.declared.slots.Slot.{Slot}
use Rattle.sg_slots.specs.declared.slots.Slot.TheVariants.{Zero, One}
use Rattle.sg_slots.specs.declared.slots.Head.{Head}
use Rattle.sg_slots.proofs.SlotLemmas.{damage_at, place_high}
use Rattle.sg_upgrade.specs.Upgrading.{IsNewBut}
use Rattle.sg_upgrade.proofs.UpgradeLemmas.{new_keeps}
use Rattle.sg_paged_slots.specs.PagedDamage.{is_beside, has_room, is_file_entry, files_damage, map_damage, map_place, entry_damage}
use Rattle.sg_paged_slots.specs.Headers.{header_at, any_header_damage}
use Rattle.sg_paged_slots.specs.PagedSlots.{pages_in, paged_slot_damage, paged_slots_damage}
use Rattle.sg_paged_slots.specs.declared.headers.Header.{Header}
use Rattle.sg_paged_store.specs.Faults.{slots_damage_by, damage_of}

-- two checks find nothing only if each of them does
or_none : (a b : Option Damage) → or_else a b ≡ None → (a ≡ None) × (b ≡ None)
or_none None b none = (refl, none)
or_none (Some d) b none = cc

none_or : (a b : Option Damage) → a ≡ None → b ≡ None → or_else a b ≡ None
none_or a b first second = ap (λ (x : Option Damage). or_else x b) first ∙ second

-- a list of checks finds nothing only if the first passes, and the later ones find nothing
passed : (b : Bool) (later : Option Damage) (d : Damage) → (if b then later else Some d) ≡ None → (b ≡ true) × (later ≡ None)
passed true later d none = (refl, none)
passed false later d none = cc

or_true : (a b : Bool) → b ≡ true → (a || b) ≡ true
or_true true b is = refl
or_true false b is = is

-- a file that is apart from earlier ones is beside them
beside_apart : (earlier : List Placed) (p : Placed) → is_apart earlier p ≡ true → is_beside earlier p ≡ true
beside_apart [] p apart = refl
beside_apart (e ∷ earlier) p apart =
    let both = and_parts (nat_le (end_of e) p.place || nat_le (end_of p) e.place) (is_apart earlier p) apart in
    and_from (e.place == 0 || (nat_le (end_of e) p.place || nat_le (end_of p) e.place)) (is_beside earlier p) (or_true (e.place == 0) (nat_le (end_of e) p.place || nat_le (end_of p) e.place) both.0) (beside_apart earlier p both.1)

-- a file in the data area stands in a range, and has no pages
no_pages : (p : Placed) → nat_le DATA p.place ≡ true → pages_for p ≡ 0
no_pages p low = ap (λ (b : Bool). if b then needed p.file.length else 0) (ne_eqb p.place 0 (λ none. absurd (omega (arith, none, leb-true DATA p.place low))))

-- an entry of the old format is one of the new
entry_new : (room before : ℕ) (earlier : List Placed) (p : Placed) → sum_by pages_for earlier ≡ 0 → is_entry room before p ≡ true → is_apart earlier p ≡ true → (is_file_entry room before earlier p ≡ true) × (pages_for p ≡ 0)
entry_new room before earlier p none is apart =
    let one = and_parts (nat_lt before p.file.media.0) (nat_le 1 p.file.length && (nat_le p.file.length MAX_FILE_LEN && (nat_le DATA p.place && nat_le (end_of p) (DATA + room)))) is in
    let two = and_parts (nat_le 1 p.file.length) (nat_le p.file.length MAX_FILE_LEN && (nat_le DATA p.place && nat_le (end_of p) (DATA + room))) one.1 in
    let three = and_parts (nat_le p.file.length MAX_FILE_LEN) (nat_le DATA p.place && nat_le (end_of p) (DATA + room)) two.1 in
    let four = and_parts (nat_le DATA p.place) (nat_le (end_of p) (DATA + room)) three.1 in
    let inner : Bool = nat_le DATA p.place && (nat_le (end_of p) (DATA + room) && is_beside earlier p) in
    let pages : pages_for p ≡ 0 = no_pages p four.0 in
    let few : nat_le (sum_by pages_for earlier + pages_for p) (room / PAGE) ≡ true = le-leb (sum_by pages_for earlier + pages_for p) (room / PAGE) (omega (arith, none, pages)) in
    let there : inner ≡ true = and_from (nat_le DATA p.place) (nat_le (end_of p) (DATA + room) && is_beside earlier p) four.0 (and_from (nat_le (end_of p) (DATA + room)) (is_beside earlier p) four.1 (beside_apart earlier p apart)) in
    let room_is : has_room room earlier p ≡ true = and_from (nat_le (sum_by pages_for earlier + pages_for p) (room / PAGE)) (p.place == 0 || inner) few (or_true (p.place == 0) inner there) in
    (and_from (nat_lt before p.file.media.0) (nat_le 1 p.file.length && (nat_le p.file.length MAX_FILE_LEN && has_room room earlier p)) one.0 (and_from (nat_le 1 p.file.length) (nat_le p.file.length MAX_FILE_LEN && has_room room earlier p) two.0 (and_from (nat_le p.file.length MAX_FILE_LEN) (has_room room earlier p) three.0 room_is)), pages)

sum_push : (earlier : List Placed) (p : Placed) → sum_by pages_for earlier ≡ 0 → pages_for p ≡ 0 → sum_by pages_for (earlier ++ p ∷ []) ≡ 0
sum_push [] p none last = omega (arith, sum_by-cons pages_for p [], last)
sum_push (e ∷ earlier) p none last =
    let whole = sum_by-cons pages_for e earlier in
    omega (arith, none, whole, sum_by-cons pages_for e (earlier ++ p ∷ []), sum_push earlier p (omega (arith, none, whole)) last)

-- a table without a fault
files_new : (room place other before : ℕ) (earlier files : List Placed) → sum_by pages_for earlier ≡ 0 → entries_damage room place before files ≡ None → overlap_damage other earlier files ≡ None → (files_damage room place before earlier files ≡ None) × (sum_by pages_for files ≡ 0)
files_new room place other before earlier [] none entries apart = (refl, refl)
files_new room place other before earlier (p ∷ files) none entries apart =
    let first = passed (is_entry room before p) (entries_damage room (place + ENTRY_LEN) p.file.media.0 files) (damage_at place p.file.media.0) entries in
    let clear = passed (is_apart earlier p) (overlap_damage (other + ENTRY_LEN) (earlier ++ p ∷ []) files) (damage_at other p.file.media.0) apart in
    let here = entry_new room before earlier p none first.0 clear.0 in
    let rest = files_new room (place + ENTRY_LEN) (other + ENTRY_LEN) p.file.media.0 (earlier ++ p ∷ []) files (sum_push earlier p none here.1) first.1 clear.1 in
    (ap (λ (b : Bool). if b then files_damage room (place + ENTRY_LEN) p.file.media.0 (earlier ++ p ∷ []) files else Some (damage_at place p.file.media.0)) here.0 ∙ rest.0, omega (arith, sum_by-cons pages_for p files, here.1, rest.1))

-- without pages there is no entry of a map
map_new : (room : ℕ) (slot : Slot) (c : List ℕ) (files : List Placed) → sum_by pages_for files ≡ 0 → map_damage room slot files (pages_in room slot c files) ≡ None
map_new room slot c files none = ap (λ (n : ℕ). option_map (entry_damage (map_place room slot)) (bad_entry (room / PAGE) (flat_map extent_of files) 0 (pages_of (range c (map_place room slot) (2 * n)) n))) none

-- what the slots say stays
slot_low : (slot : Slot) → SLOT_ZERO ≤ slot_place slot
slot_low Zero = omega arith
slot_low One = omega arith

slot_bytes : (room p l : ℕ) (c d : List ℕ) → SLOT_ZERO ≤ p → p + l ≤ DATA → IsNewBut room c d → range d p l ≡ range c p l
slot_bytes room p l c d low high new = new_keeps room p l c d (inr (inr (omega (arith, low), omega (arith, high)))) new

same_number : (room : ℕ) (slot : Slot) (c d : List ℕ) (p : ℕ) → p + 4 ≤ 16 → IsNewBut room c d → u32_at d (slot_place slot + p) ≡ u32_at c (slot_place slot + p)
unfolding u32_at
same_number room slot c d p le new = ap (λ (bs : List ℕ). from_le_bytes w32 bs) (slot_bytes room (slot_place slot + p) 4 c d (omega (arith, slot_low slot)) (omega (arith, le, place_high slot)) new)

same_gate : (room : ℕ) (slot : Slot) (c d : List ℕ) → IsNewBut room c d → get_or d (slot_place slot) 0 ≡ get_or c (slot_place slot) 0
same_gate room slot c d new = sym (one d) ∙ ap (λ (l : List ℕ). get_or l 0 0) (slot_bytes room (slot_place slot) 1 c d (slot_low slot) (omega (arith, place_high slot)) new) ∙ one c
  where
    one : (b : List ℕ) → get_or (range b (slot_place slot) 1) 0 0 ≡ get_or b (slot_place slot) 0
    one b = let at : slot_place slot + 0 ≡ slot_place slot = omega arith in byte_in b (slot_place slot) 1 0 (omega arith) ∙ ap (λ (k : ℕ). get_or b k 0) at

head_from : ℕ → ℕ → ℕ → ℕ → Option Head
head_from gate number text count = if gate == 1 then Some (record { number = number; text = text; count = count }) else None

head_same : (room : ℕ) (slot : Slot) (c d : List ℕ) → IsNewBut room c d → head_at slot d ≡ head_at slot c
unfolding head_from
head_same room slot c d new =
    let one = same_number room slot c d 4 (omega arith) new in
    let two = same_number room slot c d 8 (omega arith) new in
    let three = same_number room slot c d 12 (omega arith) new in
    ap (λ (g : ℕ). head_from g (u32_at d (slot_place slot + 4)) (u32_at d (slot_place slot + 8)) (u32_at d (slot_place slot + 12))) (same_gate room slot c d new)
    ∙ ap (λ (n : ℕ). head_from (get_or c (slot_place slot) 0) n (u32_at d (slot_place slot + 8)) (u32_at d (slot_place slot + 12))) one
    ∙ ap (λ (n : ℕ). head_from (get_or c (slot_place slot) 0) (u32_at c (slot_place slot + 4)) n (u32_at d (slot_place slot + 12))) two
    ∙ ap (λ (n : ℕ). head_from (get_or c (slot_place slot) 0) (u32_at c (slot_place slot + 4)) (u32_at c (slot_place slot + 8)) n) three

check_passed : (b : Bool) (place found : ℕ) → check b place found ≡ None → b ≡ true
check_passed true place found none = refl
check_passed false place found none = cc

few_files : (place : ℕ) (head : Head) → fields_damage place (Some head) ≡ None → head.count ≤ MANIFEST_FILES
few_files place head none =
    let number = check (nat_le 1 head.number) (place + 4) head.number in
    let text = check (nat_le 1 head.text && nat_le head.text MANIFEST_TEXT) (place + 8) head.text in
    let count = check (nat_le head.count MANIFEST_FILES) (place + 12) head.count in
    let rest = or_none number (or_else text count) none in
    leb-true head.count MANIFEST_FILES (check_passed (nat_le head.count MANIFEST_FILES) (place + 12) head.count (or_none text count rest.1).1)

files_same : (room : ℕ) (slot : Slot) (c d : List ℕ) → IsNewBut room c d → fields_damage (slot_place slot) (head_at slot c) ≡ None → files_at slot d ≡ files_at slot c
files_same room slot c d new sound = ap (λ (o : Option Head). files_of slot o d) (head_same room slot c d new) ∙ by_head (head_at slot c) sound
  where
    by_head : (o : Option Head) → fields_damage (slot_place slot) o ≡ None → files_of slot o d ≡ files_of slot o c
    by_head None none = refl
    by_head (Some head) none = ap (λ (l : List ℕ). entries_of l head.count) (slot_bytes room (slot_place slot + TABLE) (ENTRY_LEN * head.count) c d (omega (arith, slot_low slot)) (omega (arith, place_high slot, few_files (slot_place slot) head none)) new)

slot_new : (room : ℕ) (slot : Slot) (c d : List ℕ) → IsNewBut room c d → slot_damage room slot c ≡ None → overlap_damage (slot_place slot + TABLE) [] (files_at slot c) ≡ None → paged_slot_damage room slot d ≡ None
slot_new room slot c d new sound apart =
    let both = or_none (fields_damage (slot_place slot) (head_at slot c)) (entries_damage room (slot_place slot + TABLE) 0 (files_at slot c)) sound in
    let files = files_same room slot c d new both.0 in
    let table = files_new room (slot_place slot + TABLE) (slot_place slot + TABLE) 0 [] (files_at slot c) refl both.1 apart in
    let pages : List ℕ = pages_in room slot d (files_at slot d) in
    none_or (fields_damage (slot_place slot) (head_at slot d)) (or_else (files_damage room (slot_place slot + TABLE) 0 [] (files_at slot d)) (map_damage room slot (files_at slot d) pages)) (ap (fields_damage (slot_place slot)) (head_same room slot c d new) ∙ both.0)
    (none_or (files_damage room (slot_place slot + TABLE) 0 [] (files_at slot d)) (map_damage room slot (files_at slot d) pages) (ap (files_damage room (slot_place slot + TABLE) 0 []) files ∙ table.0) (map_new room slot d (files_at slot d) (ap (sum_by pages_for) files ∙ table.1)))

pub slots_new : (room : ℕ) (c d : List ℕ) → IsNewBut room c d → slots_damage room c ≡ None → paged_slots_damage room d ≡ None
slots_new room c d new none =
    let twin : Option Damage = twin_damage (head_at Zero c) (head_at One c) in
    let zero_apart : Option Damage = overlap_damage (slot_place Zero + TABLE) [] (files_at Zero c) in
    let one_apart : Option Damage = overlap_damage (slot_place One + TABLE) [] (files_at One c) in
    let first = or_none (slot_damage room Zero c) (or_else (slot_damage room One c) (or_else twin (or_else zero_apart one_apart))) none in
    let second = or_none (slot_damage room One c) (or_else twin (or_else zero_apart one_apart)) first.1 in
    let third = or_none twin (or_else zero_apart one_apart) second.1 in
    let apart = or_none zero_apart one_apart third.1 in
    let twins : twin_damage (head_at Zero d) (head_at One d) ≡ None = ap (λ (o : Option Head). twin_damage o (head_at One d)) (head_same room Zero c d new) ∙ ap (λ (o : Option Head). twin_damage (head_at Zero c) o) (head_same room One c d new) ∙ third.0 in
    none_or (paged_slot_damage room Zero d) (or_else (paged_slot_damage room One d) (twin_damage (head_at Zero d) (head_at One d))) (slot_new room Zero c d new first.0 apart.0)
    (none_or (paged_slot_damage room One d) (twin_damage (head_at Zero d) (head_at One d)) (slot_new room One c d new second.0 apart.1) twins)

-- the first fault of a disk, where its header has one
pub in_header : (size : ℕ) (c : List ℕ) (d : Damage) → any_header_damage size c ≡ Some d → damage_of size c ≡ Some d
in_header size c d is = ap (λ (x : Option Damage). or_else x (slots_damage_by (header_at c) c)) is

-- where only its slots may have one
pub in_slots : (size : ℕ) (c : List ℕ) (answer : Option Damage) → any_header_damage size c ≡ None → slots_damage_by (header_at c) c ≡ answer → damage_of size c ≡ answer
in_slots size c answer sound is = ap (λ (x : Option Damage). or_else x (slots_damage_by (header_at c) c)) sound ∙ is

pub in_old : (c : List ℕ) (h : Header) (answer : Option Damage) → h ≡ header_at c → h.old ≡ true → slots_damage h.format.room c ≡ answer → slots_damage_by (header_at c) c ≡ answer
in_old c h answer at old is = subst (λ (x : Header). slots_damage_by x c ≡ answer) at (ap (λ (b : Bool). if b then slots_damage h.format.room c else paged_slots_damage h.format.room c) old ∙ is)

pub in_new : (c : List ℕ) (h : Header) (answer : Option Damage) → h ≡ header_at c → h.old ≡ false → paged_slots_damage h.format.room c ≡ answer → slots_damage_by (header_at c) c ≡ answer
in_new c h answer at new is = subst (λ (x : Header). slots_damage_by x c ≡ answer) at (ap (λ (b : Bool). if b then slots_damage h.format.room c else paged_slots_damage h.format.room c) new ∙ is)

-- both formats, after the upgrade of an old one
pub by_format : (b c : List ℕ) (h : Header) (answer : Option Damage) → h ≡ header_at b → (h.old ≡ false → c ≡ b) → (h.old ≡ true → IsNewBut h.format.room b c × (slots_damage h.format.room b ≡ None)) → paged_slots_damage h.format.room c ≡ answer → slots_damage_by (header_at b) b ≡ answer
by_format b c h answer at kept upgraded is = elim (cases_Bool h.old) [
  | inl old ↦
      let both = upgraded old in
      in_old b h answer at old (both.1 ∙ sym (slots_new h.format.room b c both.0 both.1) ∙ is)
  | inr new ↦ in_new b h answer at new (ap (paged_slots_damage h.format.room) (sym (kept new)) ∙ is)
]
