-- A store that is ready stays so over what another client writes elsewhere on the disk: the journal records a play, closes a
-- record, or is opened, and an acknowledgement raises the floor.
use Rattle.std.proofs.Common.{◌≡◌, inl, inr, ℕ, suc, ◌+◌, ◌-◌, ◌≤◌, List, [], ◌∷◌, ◌++◌, length, get_or, map, take, Option, None, Some, MatchOption, All, IfSome, refl, sym, ◌∙◌, ap, subst, arith, zero-add}
use Rattle.std.specs.Option.{ForSome}
use Rattle.md5.specs.Md5.{md5, Holds}
use Rattle.sg_base.specs.declared.play.PlayBody.{PlayBody}
use Rattle.sg_disk.specs.View.{View, range}
use Rattle.sg_disk.specs.Runs.{Within, Keeps}
use Rattle.sg_disk.specs.Contents.{StoredFile, Contents}
use Rattle.sg_disk.specs.StandsFor.{IsCurrent, Settled}
use Rattle.sg_disk.specs.declared.places.TheConstants.{DATA, JOURNAL, JOURNAL_LEN, SLOT_LEN}
use Rattle.sg_disk.proofs.Ranges.{range-range}
use Rattle.sg_disk.proofs.Keeping.{keeps_within, one_keeps}
use Rattle.sg_placing.specs.Placing.{placed_of, IsPlaced}
use Rattle.sg_placing.specs.declared.placed.Placed.{Placed}
use Rattle.sg_slots.specs.Slots.{slot_place, slot_of, opposite}
use Rattle.sg_slots.specs.declared.slots.Slot.{Slot}
use Rattle.sg_slots.specs.declared.slots.Slot.TheVariants.{Zero, One}
use Rattle.sg_slots.proofs.SlotLemmas.{place_high}
use Rattle.sg_store.specs.Ready.{whole_files, bytes_so_far, file_at, sealed_files, text_length, IsWhole, IsBegun, IsInSlot, KeepsSnapshot, Knows, IsReady}
use Rattle.sg_store.specs.declared.store.Store.{Store}
use Rattle.sg_store.specs.declared.store.Half.{Half}
use Rattle.sg_store.proofs.FillLemmas.{whole_placed}
use Rattle.sg_store.proofs.StageLemmas.{knows_kept}

-- contents with the same snapshot in the same store, and maybe other plays
pub record SameSnapshot (p q : Contents) : Type 0 where
  pub display : q.display ≡ p.display
  pub epoch : q.epoch ≡ p.epoch
  pub room : q.room ≡ p.room
  pub number : q.number ≡ p.number
  pub text : q.text ≡ p.text
  pub files : q.files ≡ p.files

same_store : (s : Store) → KeepsSnapshot s s
same_store s = record { display = refl; epoch = refl; room = refl; number = refl; text = refl; current = refl; spare = refl; spare_open = refl }

-- what the store knows of contents doesn't speak of plays
knows_same : (s : Store) (p q : Contents) (c : List ℕ) → SameSnapshot p q → Knows s p c → Knows s q c
knows_same s p q c same knows = record {
  display = knows.display ∙ sym same.display;
  epoch = knows.epoch ∙ sym same.epoch;
  room = knows.room ∙ sym same.room;
  number = knows.number ∙ sym same.number;
  text = knows.text ∙ ap text_length (sym same.text);
  files = knows.files ∙ ap (λ (l : List StoredFile). map placed_of l) (sym same.files);
  slot = subst (λ (t : Option (List ℕ)). In q.room q.number q.files t) (sym same.text) (subst (λ (l : List StoredFile). In q.room q.number l p.text) (sym same.files) (subst (λ (n : ℕ). In q.room n p.files p.text) (sym same.number) (subst (λ (r : ℕ). In r p.number p.files p.text) (sym same.room) knows.slot)));
  gate = knows.gate;
}
  where
    In : ℕ → ℕ → List StoredFile → Option (List ℕ) → Type 0
    In room number files text = MatchOption text (Unit {0}) (λ t. IsCurrent room number t files (slot_of (opposite s.spare) c) (slot_of s.spare c))

-- a slot is in front of the journal
slot_kept : (slot : Slot) (c d : List ℕ) → range d 0 JOURNAL ≡ range c 0 JOURNAL → slot_of slot d ≡ slot_of slot c
slot_kept slot c d same = sym (inner d) ∙ ap (λ (l : List ℕ). range l (slot_place slot) SLOT_LEN) same ∙ inner c
  where
    inner : (b : List ℕ) → range (range b 0 JOURNAL) (slot_place slot) SLOT_LEN ≡ slot_of slot b
    inner b = range-range b 0 JOURNAL (slot_place slot) SLOT_LEN (omega (arith, place_high slot)) ∙ ap (λ (k : ℕ). range b k SLOT_LEN) (zero-add (slot_place slot))

-- the bytes of a placed file are in the area area
placed_kept : (c d : List ℕ) (room : ℕ) (q : Placed) → range d DATA room ≡ range c DATA room → IsPlaced room q → range d q.place q.file.length ≡ range c q.place q.file.length
placed_kept c d room q same placed = sym (inner d) ∙ ap (λ (l : List ℕ). range l (q.place - DATA) q.file.length) same ∙ inner c
  where
    at : DATA + (q.place - DATA) ≡ q.place
    at = omega (arith, placed.inside.0)

    inner : (b : List ℕ) → range (range b DATA room) (q.place - DATA) q.file.length ≡ range b q.place q.file.length
    inner b = range-range b DATA room (q.place - DATA) q.file.length (omega (arith, placed.inside.0, placed.inside.1)) ∙ ap (λ (k : ℕ). range b k q.file.length) at

begun_kept : (c d : List ℕ) (room : ℕ) (half : Option Half) → range d DATA room ≡ range c DATA room → ForSome half (λ h. IsPlaced room h.placed) → IfSome half (IsBegun c) → IfSome half (IsBegun d)
begun_kept c d room None same placed begun = tt
begun_kept c d room (Some half) same placed begun =
    let bytes : bytes_so_far d half ≡ bytes_so_far c half = ap (λ (l : List ℕ). take half.count (l ++ [])) (placed_kept c d room half.placed same (placed half refl)) in
    subst (Holds half.hasher) (sym bytes) begun

files_same : (c d : List ℕ) (room : ℕ) (files : List Placed) → range d DATA room ≡ range c DATA room → All (IsPlaced room) files → map (file_at d) files ≡ map (file_at c) files
files_same c d room [] same placed = refl
files_same c d room (q ∷ files) same placed =
    ap (λ (f : StoredFile). f ∷ map (file_at d) files) (ap (λ (l : List ℕ). with_bytes (l ++ [])) (placed_kept c d room q same (placed 0 q (omega arith)))) ∙ ap (λ (l : List StoredFile). file_at c q ∷ l) (files_same c d room files same (λ k e lt. placed (suc k) e (omega (arith, lt))))
  where
    with_bytes : List ℕ → StoredFile
    with_bytes bytes = record (file_at c q) { bytes = bytes }

-- the sealed files keep their bytes
pub sealed_kept : (v w : View) (s : Store) → v.told → Keeps DATA s.room v w → sealed_files s w.bytes ≡ sealed_files s v.bytes
sealed_kept v w s told area = files_same v.bytes w.bytes s.room s.staged (area.bytes told) s.staged_placed

-- The store is ready on a disk that has its header, its slots and its area as before, and is settled with contents that have
-- the same snapshot
pub ready_elsewhere : (v w : View) (s : Store) (p q : Contents) → IsReady v s p → Settled w q → SameSnapshot p q → Keeps 0 JOURNAL v w → Keeps DATA s.room v w → IsReady w s q
ready_elsewhere v w s p q ready settled same front area =
    let told : v.told = ready.settled.told in
    let placed = whole_placed s s.current_placed s.staged_placed in
    record {
      settled = settled;
      front = one_keeps 0 JOURNAL v w told ready.front front;
      knows = knows_same s p q w.bytes same (knows_kept s s p v.bytes w.bytes (same_store s) (slot_kept Zero v.bytes w.bytes (front.bytes told)) (slot_kept One v.bytes w.bytes (front.bytes told)) ready.knows);
      staged = record {
        whole = λ k d lt. ap (λ (l : List ℕ). md5 (l ++ [])) (placed_kept v.bytes w.bytes s.room (get_or (whole_files s) k d) (area.bytes told) (placed k d lt)) ∙ ready.staged.whole k d lt;
        begun = begun_kept v.bytes w.bytes s.room s.half (area.bytes told) s.half_placed ready.staged.begun;
        apart = ready.staged.apart;
      };
    }

-- a write in the journal's area
pub sealed_elsewhere : (v w : View) (s : Store) → v.told → Within JOURNAL JOURNAL_LEN v w → sealed_files s w.bytes ≡ sealed_files s v.bytes
sealed_elsewhere v w s told within = sealed_kept v w s told (keeps_within JOURNAL JOURNAL_LEN DATA s.room v w (inr (omega arith)) within)

pub store_elsewhere : (v w : View) (s : Store) (p : Contents) (plays : List PlayBody) (floor : ℕ) → IsReady v s p → Settled w (record p { plays = plays; floor = floor }) → Within JOURNAL JOURNAL_LEN v w → IsReady w s (record p { plays = plays; floor = floor })
store_elsewhere v w s p plays floor ready settled within =
    ready_elsewhere v w s p (record p { plays = plays; floor = floor }) ready settled (record { display = refl; epoch = refl; room = refl; number = refl; text = refl; files = refl }) (keeps_within JOURNAL JOURNAL_LEN 0 JOURNAL v w (inl (omega arith)) within) (keeps_within JOURNAL JOURNAL_LEN DATA s.room v w (inr (omega arith)) within)
