-- A store stays ready where another client of the disk writes elsewhere.
use Rattle.std.proofs.Common.{◌≡◌, ◌↔◌, ℕ, zero, suc, ◌+◌, ◌-◌, ◌*◌, true, List, [], ◌∷◌, ◌++◌, get_or, take, map, Option, None, Some, MatchOption, IfSome, All, refl, sym, ◌∙◌, ap, subst, arith}
use Rattle.md5.specs.Md5.{md5, Holds}
use Rattle.sg_disk.specs.View.{View, range}
use Rattle.sg_disk.specs.Runs.{Keeps}
use Rattle.sg_disk.specs.Contents.{Segment, StoredFile, Contents, IsInside, parts_at}
use Rattle.sg_disk.specs.StandsFor.{IsOpen}
use Rattle.sg_disk.specs.declared.places.TheConstants.{DATA, HEADER_LEN, JOURNAL, SLOT_LEN, SLOT_ONE, SLOT_ZERO}
use Rattle.sg_disk.proofs.Extents.{inside_parts}
use Rattle.sg_disk.proofs.Keeping.{keeps_part, one_keeps}
use Rattle.sg_placing.proofs.GapLemmas.{All-front}
use Rattle.sg_pages.specs.Shelves.{FileAt}
use Rattle.sg_pages.specs.declared.maps.TheConstants.{MAP_LEN}
use Rattle.sg_slots.specs.Slots.{slot_of, opposite}
use Rattle.sg_slots.specs.declared.slots.Slot.{Slot}
use Rattle.sg_slots.specs.declared.slots.Slot.TheVariants.{Zero, One}
use Rattle.sg_contents.specs.StandsFor.{IsNew, IsCurrent, Settled}
use Rattle.sg_soundness.specs.Shelved.{file_at_of}
use Rattle.sg_staging.specs.Staged.{HalfStaged, half_at, half_stands, IsStanding, IsStagedIn}
use Rattle.sg_switching.specs.Switching.{map_of, IsBesideSlot}
use Rattle.sg_store_state.specs.State.{State, whole_stands}
use Rattle.sg_store_state.specs.Ready.{bytes_in, bytes_here, text_length, IsBegun, HasStaged, IsReady}
use Rattle.sg_store_state.proofs.StageLemmas.{half_standing}
use Rattle.sg_sharing.specs.Sharing.{HasSameSnapshot}

-- bytes of the data area
parts_kept : (v w : View) (room : ℕ) (segments : List Segment) → v.told → Keeps DATA room v w → All (IsInside room) segments → bytes_in w.bytes segments ≡ bytes_in v.bytes segments
parts_kept v w room [] told keeps inside = refl
parts_kept v w room (t ∷ segments) told keeps inside =
    let here : IsInside room t = inside zero t (omega arith) in
    let at : DATA + (t.place - DATA) ≡ t.place = omega (arith, here.0) in
    let one : range w.bytes t.place t.size ≡ range v.bytes t.place t.size = subst (λ (k : ℕ). range w.bytes k t.size ≡ range v.bytes k t.size) at ((keeps_part DATA room (t.place - DATA) t.size v w (omega (arith, here.0, here.1)) keeps).bytes told) in
    ap (λ (l : List ℕ). l ++ bytes_in w.bytes segments) one ∙ ap (λ (l : List ℕ). range v.bytes t.place t.size ++ l) (parts_kept v w room segments told keeps (λ k d lt. inside (suc k) d (omega (arith, lt))))

here_kept : (v w : View) (room : ℕ) (f : FileAt) → v.told → Keeps DATA room v w → IsStanding room f → bytes_here w.bytes f ≡ bytes_here v.bytes f
here_kept v w room f told keeps standing = parts_kept v w room (parts_at f.file.length f.stand) told keeps (inside_parts room (record { listed = f.file; stand = f.stand; bytes = [] }) standing.inside)

staged_kept : (v w : View) (s : State) (room : ℕ) → s.room ≡ room → v.told → Keeps DATA room v w → IsStagedIn s.room s.current s.staged → HasStaged s v.bytes → HasStaged s w.bytes
staged_kept v w s room at told keeps kept has = record {
  whole = λ k d lt.
      let f : FileAt = get_or (whole_stands s) k d in
      let standing : IsStanding room f = subst (λ (r : ℕ). IsStanding r f) at (All-front (IsStanding s.room) (whole_stands s) (half_stands s.staged.half) kept.standing k d lt) in
      ap md5 (here_kept v w room f told keeps standing) ∙ has.whole k d lt;
  begun = by_half s.staged.half refl has.begun;
}
  where
    by_half : (o : Option HalfStaged) → s.staged.half ≡ o → IfSome o (IsBegun v.bytes) → IfSome o (IsBegun w.bytes)
    by_half None is begun = tt
    by_half (Some half) is begun =
        let standing : IsStanding room (half_at half) = subst (λ (r : ℕ). IsStanding r (half_at half)) at (half_standing s.room s half kept is) in
        subst (Holds half.hasher) (sym (ap (λ (l : List ℕ). take half.count l) (here_kept v w room (half_at half) told keeps standing))) begun

-- slots and maps
slot_kept : (v w : View) (x : Slot) → v.told → Keeps 0 JOURNAL v w → slot_of x w.bytes ≡ slot_of x v.bytes
slot_kept v w Zero told front = (keeps_part 0 JOURNAL SLOT_ZERO SLOT_LEN v w (omega arith) front).bytes told
slot_kept v w One told front = (keeps_part 0 JOURNAL SLOT_ONE SLOT_LEN v w (omega arith) front).bytes told

map_kept : (v w : View) (room : ℕ) (x : Slot) → v.told → Keeps (DATA + room) (2 * MAP_LEN) v w → map_of room x w.bytes ≡ map_of room x v.bytes
map_kept v w room Zero told maps =
    let at : DATA + room + 0 ≡ DATA + room = omega arith in
    subst (λ (k : ℕ). range w.bytes k MAP_LEN ≡ range v.bytes k MAP_LEN) at ((keeps_part (DATA + room) (2 * MAP_LEN) 0 MAP_LEN v w (omega arith) maps).bytes told)
map_kept v w room One told maps = (keeps_part (DATA + room) (2 * MAP_LEN) MAP_LEN MAP_LEN v w (omega arith) maps).bytes told

-- the snapshot in its slot, on disks that have the same slots and maps, and of contents that have the same snapshot
abbrev Beside : Option (List ℕ) → ℕ → ℕ → List StoredFile → List ℕ → List ℕ → List ℕ → List ℕ → Type 0
Beside text room number files one two three four = MatchOption text (Unit {0}) (λ t. IsCurrent room number t files one two three four)

beside_kept : (v w : View) (s : State) (p q : Contents) → v.told → HasSameSnapshot p q → Keeps 0 JOURNAL v w → Keeps (DATA + p.room) (2 * MAP_LEN) v w → IsBesideSlot s.spare p v.bytes → IsBesideSlot s.spare q w.bytes
beside_kept v w s p q told same front maps slot =
    let far : Slot = opposite s.spare in
    let moved : IsBesideSlot s.spare p w.bytes =
    subst (λ (x : List ℕ). Beside p.text p.room p.number p.files x (map_of p.room far w.bytes) (slot_of s.spare w.bytes) (map_of p.room s.spare w.bytes)) (sym (slot_kept v w far told front))
    (subst (λ (x : List ℕ). Beside p.text p.room p.number p.files (slot_of far v.bytes) x (slot_of s.spare w.bytes) (map_of p.room s.spare w.bytes)) (sym (map_kept v w p.room far told maps))
    (subst (λ (x : List ℕ). Beside p.text p.room p.number p.files (slot_of far v.bytes) (map_of p.room far v.bytes) x (map_of p.room s.spare w.bytes)) (sym (slot_kept v w s.spare told front))
    (subst (λ (x : List ℕ). Beside p.text p.room p.number p.files (slot_of far v.bytes) (map_of p.room far v.bytes) (slot_of s.spare v.bytes) x) (sym (map_kept v w p.room s.spare told maps)) slot))) in
    let At : Option (List ℕ) → ℕ → ℕ → List StoredFile → Type 0 = λ text room number files. Beside text room number files (slot_of far w.bytes) (map_of room far w.bytes) (slot_of s.spare w.bytes) (map_of room s.spare w.bytes) in
    subst (λ (x : Option (List ℕ)). At x q.room q.number q.files) same.text
    (subst (λ (x : ℕ). At p.text x q.number q.files) same.room
    (subst (λ (x : ℕ). At p.text p.room x q.files) same.number
    (subst (λ (x : List StoredFile). At p.text p.room p.number x) same.files moved)))

-- The header, the slots, the maps and the data area stay, and the disk is settled with contents that have the same snapshot
pub store_keeps : (v w : View) (s : State) (p q : Contents) → IsReady v s p → IsStagedIn s.room s.current s.staged → Settled w q → HasSameSnapshot p q → Keeps 0 JOURNAL v w → Keeps DATA p.room v w → Keeps (DATA + p.room) (2 * MAP_LEN) v w → IsReady w s q
store_keeps v w s p q ready kept settled same front area maps =
    let told : v.told = ready.settled.told in
    let knows = ready.knows in
    record {
      settled = settled;
      front = one_keeps 0 JOURNAL v w told ready.front front;
      maps = subst (λ (r : ℕ). (c : List ℕ) → w.images c → range c (DATA + r) (2 * MAP_LEN) ≡ range w.bytes (DATA + r) (2 * MAP_LEN)) same.room (one_keeps (DATA + p.room) (2 * MAP_LEN) v w told ready.maps maps);
      format = subst IsNew (sym ((keeps_part 0 JOURNAL 0 HEADER_LEN v w (omega arith) front).bytes told)) ready.format;
      knows = record {
        display = knows.display ∙ same.display;
        epoch = knows.epoch ∙ same.epoch;
        room = knows.room ∙ same.room;
        number = knows.number ∙ same.number;
        text = knows.text ∙ ap text_length same.text;
        files = knows.files ∙ ap (λ (l : List StoredFile). map file_at_of l) same.files;
        slot = beside_kept v w s p q told same front maps knows.slot;
        gate = subst (λ (x : List ℕ). (s.spare_open ≡ true) ↔ IsOpen x) (sym (slot_kept v w s.spare told front)) knows.gate;
      };
      staged = staged_kept v w s p.room knows.room told area kept ready.staged;
    }
