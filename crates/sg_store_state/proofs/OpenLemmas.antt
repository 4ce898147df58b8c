-- What an opening finds on a disk of the new format that stands for contents.
use Rattle.std.proofs.Common.{◌≡◌, ℕ, suc, ◌+◌, ◌-◌, ◌*◌, ◌<◌, ◌≤◌, List, [], ◌∷◌, ◌++◌, length, get_or, map, Option, None, Some, MatchOption, is_some, All, IfSome, refl, sym, ◌∙◌, ap, subst, arith}
use Rattle.std.proofs.lemmas.List.{append-nil, length-map, get_or-map}
use Rattle.md5.specs.Md5.{md5}
use Rattle.sg_base.specs.declared.limits.TheConstants.{MAX_ROOM}
use Rattle.sg_disk.specs.View.{View, range, Only}
use Rattle.sg_disk.specs.Contents.{Segment, StoredFile, Contents, IsInside, taken, parts}
use Rattle.sg_disk.specs.StandsFor.{IsHeld, AreFiles, bytes_at}
use Rattle.sg_disk.specs.declared.places.TheConstants.{DATA, HEADER_LEN, JOURNAL}
use Rattle.sg_disk.proofs.Ranges.{range-range}
use Rattle.sg_disk.proofs.Extents.{inside_parts}
use Rattle.sg_disk.proofs.Writes.{one_stable}
use Rattle.sg_pages.specs.Shelves.{Shelved, stands}
use Rattle.sg_pages.specs.declared.maps.TheConstants.{MAP_LEN}
use Rattle.sg_slots.specs.Slots.{slot_of, opposite, head_at, files_of, spare_at, head_number, head_text}
use Rattle.sg_slots.specs.declared.slots.Slot.{Slot}
use Rattle.sg_slots.specs.declared.slots.Slot.TheVariants.{Zero, One}
use Rattle.sg_slots.specs.declared.slots.Head.{Head}
use Rattle.sg_slots.proofs.SlotLemmas.{head_closed}
use Rattle.sg_slots.proofs.StandLemmas.{gate_of, gate_found}
use Rattle.sg_paged_slots.specs.Headers.{header_at}
use Rattle.sg_paged_slots.specs.PagedSlots.{pages_in, shelf_at}
use Rattle.sg_contents.specs.Lawful.{IsSnapshot, IsLawful}
use Rattle.sg_contents.specs.StandsFor.{IsNew, IsCurrent, AreSlots, StandsFor}
use Rattle.sg_contents.proofs.Standing.{settled_by, lawful_inside}
use Rattle.sg_contents.proofs.Areas.{new_format}
use Rattle.sg_soundness.specs.Shelved.{file_at_of}
use Rattle.sg_soundness.proofs.MapBack.{stands_back}
use Rattle.sg_soundness.proofs.SlotStands.{slot_says, spare_found}
use Rattle.sg_soundness.proofs.SoundHeader.{header_says}
use Rattle.sg_staging.specs.Staged.{Staged, nothing_staged}
use Rattle.sg_switching.specs.Switching.{map_of}
use Rattle.sg_store_state.specs.State.{State, whole_stands}
use Rattle.sg_store_state.specs.Ready.{bytes_in, bytes_here, IsWhole, IsBegun, text_length, HasStaged, IsReady}

-- the parts of a file that lie in the data area, as the area has them and as the disk has them
pub parts_here : (room : ℕ) (c : List ℕ) (segments : List Segment) → All (IsInside room) segments → bytes_in c segments ≡ bytes_at (range c DATA room) segments
parts_here room c [] inside = refl
parts_here room c (s ∷ segments) inside =
    let here : IsInside room s = inside 0 s (omega arith) in
    let place : DATA + (s.place - DATA) ≡ s.place = omega (arith, here.0) in
    let one : range c s.place s.size ≡ range (range c DATA room) (s.place - DATA) s.size = ap (λ (k : ℕ). range c k s.size) (sym place) ∙ sym (range-range c DATA room (s.place - DATA) s.size (omega (arith, here.1, here.0))) in
    ap (λ (l : List ℕ). l ++ bytes_in c segments) one ∙ ap (λ (l : List ℕ). range (range c DATA room) (s.place - DATA) s.size ++ l) (parts_here room c segments (λ k d lt. inside (suc k) d (omega (arith, lt))))

-- the bytes of a file that the disk holds stand there, and are whole
pub held_here : (room : ℕ) (c : List ℕ) (f : StoredFile) → All (IsInside room) (taken f) → IsHeld (range c DATA room) f → bytes_here c (file_at_of f) ≡ f.bytes
held_here room c f inside held = parts_here room c (parts f) (inside_parts room f inside) ∙ held.there

pub whole_all : (files : List StoredFile) (room : ℕ) (c : List ℕ) → All (λ f. All (IsInside room) (taken f)) files → AreFiles files (range c DATA room) → All (IsWhole c) (map file_at_of files)
whole_all files room c inside held k d lt =
    let near : k < length files = omega (arith, lt, length-map files file_at_of) in
    let f : StoredFile = record { listed = d.file; stand = d.stand; bytes = [] } in
    let g : StoredFile = get_or files k f in
    let one = held k f near in
    subst (IsWhole c) (sym (get_or-map file_at_of files k f d near)) (ap md5 (held_here room c g (inside k f near) one) ∙ one.digest)

-- what an opening has read
pub record Found (s : State) (c : List ℕ) : Type 0 where
  pub display : s.display ≡ (header_at c).format.display
  pub epoch : s.epoch ≡ (header_at c).format.epoch
  pub room : s.room ≡ (header_at c).format.room
  pub spare : s.spare ≡ spare_at (head_at Zero c) (head_at One c)
  pub gate : s.spare_open ≡ is_some (head_at s.spare c)
  pub number : s.number ≡ head_number (head_at (opposite s.spare) c)
  pub text : s.text ≡ head_text (head_at (opposite s.spare) c)
  pub files : s.current ≡ shelf_at s.room (opposite s.spare) c
  pub staged : s.staged ≡ nothing_staged

-- the current snapshot that an opening has found
pub record Snapshot (spare : Slot) (p : Contents) (c : List ℕ) : Type 0 where
  pub number : head_number (head_at (opposite spare) c) ≡ p.number
  pub text : head_text (head_at (opposite spare) c) ≡ text_length p.text
  pub files : stands (shelf_at p.room (opposite spare) c) ≡ map file_at_of p.files
  pub slot : MatchOption p.text (Unit {0}) (λ text. IsCurrent p.room p.number text p.files (slot_of (opposite spare) c) (map_of p.room (opposite spare) c) (slot_of spare c) (map_of p.room spare c))

found_in : (c : List ℕ) (p : Contents) (text : Option (List ℕ)) → p.text ≡ text → p.room ≤ MAX_ROOM → MatchOption text ((p.number ≡ 0) × (p.files ≡ [])) (λ t. IsSnapshot p.room p.number t p.files) → AreSlots p.room p.number text p.files (slot_of Zero c) (map_of p.room Zero c) (slot_of One c) (map_of p.room One c) → Snapshot (spare_at (head_at Zero c) (head_at One c)) p c
found_in c p None is small none slots =
    let zero_shut : head_at Zero c ≡ None = head_closed Zero c (λ opened. slots.0 (gate_of Zero c ∙ opened)) in
    let one_shut : head_at One c ≡ None = head_closed One c (λ opened. slots.1 (gate_of One c ∙ opened)) in
    let spare : spare_at (head_at Zero c) (head_at One c) ≡ Zero = ap (λ (h : Option Head). spare_at h (head_at One c)) zero_shut in
    let chosen : Slot = spare_at (head_at Zero c) (head_at One c) in
    let current : head_at (opposite chosen) c ≡ None = ap (λ (s : Slot). head_at (opposite s) c) spare ∙ one_shut in
    record {
      number = ap head_number current ∙ sym none.0;
      text = ap head_text current ∙ sym (ap text_length is);
      files = ap (λ (h : Option Head). stands (record { files = files_of (opposite chosen) h c; pages = pages_in p.room (opposite chosen) c (files_of (opposite chosen) h c) })) current ∙ sym (ap (map file_at_of) none.1);
      slot = subst (λ (t : Option (List ℕ)). MatchOption t (Unit {0}) (λ text. IsCurrent p.room p.number text p.files (slot_of (opposite chosen) c) (map_of p.room (opposite chosen) c) (slot_of chosen c) (map_of p.room chosen c))) (sym is) tt;
    }
found_in c p (Some t) is small snapshot slots =
    let chosen : Slot = spare_at (head_at Zero c) (head_at One c) in
    let current = spare_found p.room p.number t p.files c small snapshot slots in
    let says = slot_says p.room p.number t p.files (opposite chosen) c small snapshot current.gate current.slot in
    record {
      number = ap head_number says.head;
      text = ap head_text says.head ∙ sym (ap text_length is);
      files = ap stands says.shelf ∙ stands_back p.room p.files snapshot.stored snapshot.inside;
      slot = subst (λ (o : Option (List ℕ)). MatchOption o (Unit {0}) (λ text. IsCurrent p.room p.number text p.files (slot_of (opposite chosen) c) (map_of p.room (opposite chosen) c) (slot_of chosen c) (map_of p.room chosen c))) (sym is) current;
    }

-- nothing is staged, and the files of the contents are whole
pub staged_none : (s : State) (p : Contents) (c : List ℕ) → stands s.current ≡ map file_at_of p.files → s.staged ≡ nothing_staged → IsLawful p → AreFiles p.files (range c DATA p.room) → HasStaged s c
staged_none s p c files staged lawful held =
    let all : whole_stands s ≡ map file_at_of p.files = ap (λ (k : Staged). stands s.current ++ stands k.sealed) staged ∙ append-nil (stands s.current) ∙ files in
    record {
      whole = subst (All (IsWhole c)) (sym all) (whole_all p.files p.room c (lawful_inside p lawful) held);
      begun = subst (λ (k : Staged). IfSome k.half (IsBegun c)) (sym staged) tt;
    }

-- an opening that has read a disk which stands for contents
pub opened : (w : View) (s : State) (r : Contents) → w.told → Only w.bytes w → Found s w.bytes → IsNew (range w.bytes 0 HEADER_LEN) → StandsFor r w.bytes → IsReady w s r
opened w s r told only found new standing =
    let c : List ℕ = w.bytes in
    let format = new_format r.room r.number r.text r.files r.seals c new standing.format in
    let says = header_says r c standing in
    let room : s.room ≡ r.room = found.room ∙ says.room in
    let snapshot : Snapshot s.spare r c = subst (λ (x : Slot). Snapshot x r c) (sym found.spare) (found_in c r r.text refl standing.lawful.room.high standing.lawful.snapshot format.slots) in
    let files : stands s.current ≡ map file_at_of r.files = ap stands found.files ∙ ap (λ (n : ℕ). stands (shelf_at n (opposite s.spare) c)) room ∙ snapshot.files in
    record {
      settled = settled_by w c r told only standing;
      front = one_stable 0 JOURNAL w only;
      maps = one_stable (DATA + r.room) (2 * MAP_LEN) w only;
      format = new;
      knows = record {
        display = found.display ∙ says.display;
        epoch = found.epoch ∙ says.epoch;
        room = room;
        number = found.number ∙ snapshot.number;
        text = found.text ∙ snapshot.text;
        files = files;
        slot = snapshot.slot;
        gate = gate_found s.spare c s.spare_open found.gate;
      };
      staged = staged_none s r c files found.staged standing.lawful standing.files;
    }
