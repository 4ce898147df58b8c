-- What an opening finds on a disk that stands for contents.
use Rattle.std.proofs.Common.{◌≡◌, ◌⊎◌, inl, inr, ℕ, ◌+◌, ◌-◌, ◌<◌, ◌≤◌, List, [], ◌∷◌, ◌++◌, length, get_or, map, Option, None, Some, MatchOption, is_some, All, AllPairs, IfSome, refl, sym, ◌∙◌, ap, subst, arith}
use Rattle.std.proofs.lemmas.List.{append-nil, length-map, get_or-map}
use Rattle.md5.specs.Md5.{md5}
use Rattle.sg_disk.specs.View.{View, range, Only}
use Rattle.sg_disk.proofs.Standing.{settled_by, lawful_inside}
use Rattle.sg_disk.proofs.Writes.{one_stable}
use Rattle.sg_disk.specs.Contents.{Segment, StoredFile, Contents, IsClear, IsInside, IsExtent, IsSnapshot, IsLawful, taken, all_taken}
use Rattle.sg_disk.specs.Contents.{Extent}
use Rattle.sg_disk.specs.StandsFor.{place_of, IsCurrent, AreSlots, IsHeld, AreFiles, bytes_at, StandsFor}
use Rattle.sg_base.specs.declared.limits.TheConstants.{MAX_ROOM}
use Rattle.sg_disk.specs.declared.places.TheConstants.{DATA, JOURNAL, SLOT_LEN, SLOT_ONE, SLOT_ZERO}
use Rattle.sg_disk.proofs.Ranges.{range-range}
use Rattle.sg_disk.proofs.Extents.{extent_of, taken_extent, parts_extent}
use Rattle.sg_placing.specs.Placing.{placed_of, AreApart}
use Rattle.sg_placing.specs.declared.placed.Placed.{Placed}
use Rattle.sg_slots.specs.Bytes.{u32_at, u64_at}
use Rattle.sg_slots.specs.Slots.{slot_of, opposite, head_at, files_of, files_at, spare_at, head_number, head_text}
use Rattle.sg_store.specs.Halves.{half_files}
use Rattle.sg_store.specs.Ready.{whole_files, taken_files, IsWhole, IsBegun, HasStaged, Knows, IsReady, text_length}
use Rattle.sg_store.specs.declared.store.Store.{Store}
use Rattle.sg_store.specs.declared.store.Half.{Half}
use Rattle.sg_slots.specs.declared.slots.Slot.{Slot}
use Rattle.sg_slots.specs.declared.slots.Slot.TheVariants.{Zero, One}
use Rattle.sg_slots.specs.declared.slots.Head.{Head}
use Rattle.sg_slots.proofs.SlotLemmas.{head_closed}
use Rattle.sg_slots.specs.Damage.{Damage, header_damage, slots_damage}
use Rattle.sg_slots.proofs.HeaderLemmas.{header_number, header_long_number, header_open}
use Rattle.sg_slots.proofs.Soundness.{header_undamaged, slots_undamaged}
use Rattle.sg_slots.proofs.StandLemmas.{gate_of, slot_stands, spare_found, gate_found, apart_placed}

-- the bytes of a file that the disk holds are whole
pub whole_held : (room : ℕ) (c : List ℕ) (f : StoredFile) → IsExtent f → All (IsInside room) (taken f) → IsHeld (range c DATA room) f → IsWhole c (placed_of f)
whole_held room c f is inside held =
    let extent : taken f ≡ extent_of f ∷ [] = taken_extent f is in
    let at = inside 0 (extent_of f) (omega (arith, ap length extent)) in
    let here : IsInside room (extent_of f) = subst (λ (l : List Segment). IsInside room (get_or l 0 (extent_of f))) extent at in
    let place : DATA + (place_of f.stand - DATA) ≡ place_of f.stand = omega (arith, here.0) in
    let bytes : range c (place_of f.stand) f.listed.length ++ [] ≡ f.bytes =
    ap (λ (k : ℕ). range c k f.listed.length ++ []) (sym place) ∙ ap (λ (l : List ℕ). l ++ []) (sym (range-range c DATA room (place_of f.stand - DATA) f.listed.length (omega (arith, here.1, here.0))))
    ∙ ap (λ (l : List Segment). bytes_at (range c DATA room) l) (sym (parts_extent f is)) ∙ held.there in
    ap md5 bytes ∙ held.digest

-- what an opening has read
pub record Found (s : Store) (c : List ℕ) : Type 0 where
  pub display : s.display ≡ u32_at c 16
  pub epoch : s.epoch ≡ u32_at c 20
  pub room : s.room ≡ u64_at c 24
  pub spare : s.spare ≡ spare_at (head_at Zero c) (head_at One c)
  pub gate : s.spare_open ≡ is_some (head_at s.spare c)
  pub number : s.number ≡ head_number (head_at (opposite s.spare) c)
  pub text : s.text ≡ head_text (head_at (opposite s.spare) c)
  pub files : s.current ≡ files_at (opposite s.spare) c
  pub staged : s.staged ≡ []
  pub half : s.half ≡ None

-- the current snapshot that an opening has found
pub record Snapshot (spare : Slot) (p : Contents) (c : List ℕ) : Type 0 where
  pub number : head_number (head_at (opposite spare) c) ≡ p.number
  pub text : head_text (head_at (opposite spare) c) ≡ text_length p.text
  pub files : files_at (opposite spare) c ≡ map placed_of p.files
  pub slot : MatchOption p.text (Unit {0}) (λ text. IsCurrent p.room p.number text p.files (slot_of (opposite spare) c) (slot_of spare c))

found_in : (c : List ℕ) (p : Contents) (text : Option (List ℕ)) → p.text ≡ text → p.room ≤ MAX_ROOM → MatchOption text ((p.number ≡ 0) × (p.files ≡ [])) (λ t. IsSnapshot p.room p.number t p.files) → AreSlots p.room p.number text p.files (range c SLOT_ZERO SLOT_LEN) (range c SLOT_ONE SLOT_LEN) → AreFiles p.files (range c DATA p.room) → Snapshot (spare_at (head_at Zero c) (head_at One c)) p c
found_in c p None is small none slots held =
    let zero_shut : head_at Zero c ≡ None = head_closed Zero c (λ opened. slots.0 (gate_of Zero c ∙ opened)) in
    let one_shut : head_at One c ≡ None = head_closed One c (λ opened. slots.1 (gate_of One c ∙ opened)) in
    let spare : spare_at (head_at Zero c) (head_at One c) ≡ Zero = ap (λ (h : Option Head). spare_at h (head_at One c)) zero_shut in
    let current : head_at (opposite (spare_at (head_at Zero c) (head_at One c))) c ≡ None = ap (λ (s : Slot). head_at (opposite s) c) spare ∙ one_shut in
    record {
      number = ap head_number current ∙ sym none.0;
      text = ap head_text current ∙ sym (ap text_length is);
      files = ap (λ (h : Option Head). files_of (opposite (spare_at (head_at Zero c) (head_at One c))) h c) current ∙ sym (ap (map placed_of) none.1);
      slot = subst (λ (t : Option (List ℕ)). MatchOption t (Unit {0}) (λ text. IsCurrent p.room p.number text p.files (slot_of (opposite (spare_at (head_at Zero c) (head_at One c))) c) (slot_of (spare_at (head_at Zero c) (head_at One c)) c))) (sym is) tt;
    }
found_in c p (Some t) is small snapshot slots held =
    let spare : Slot = spare_at (head_at Zero c) (head_at One c) in
    let current = spare_found c p.room p.number t p.files snapshot.numbered.1 (omega (arith, snapshot.long.1)) (omega (arith, snapshot.listed.few)) slots in
    let both = slot_stands (opposite spare) c p.room p.number t p.files small snapshot current.gate current.fields in
    record {
      number = ap head_number both.0;
      text = ap head_text both.0 ∙ sym (ap text_length is);
      files = both.1;
      slot = subst (λ (o : Option (List ℕ)). MatchOption o (Unit {0}) (λ text. IsCurrent p.room p.number text p.files (slot_of (opposite spare) c) (slot_of spare c))) (sym is) current;
    }

-- the files of lawful contents
extents_in : (room number : ℕ) (text : Option (List ℕ)) (files : List StoredFile) → MatchOption text ((number ≡ 0) × (files ≡ [])) (λ t. IsSnapshot room number t files) → All IsExtent files
extents_in room number None files none k d lt = absurd (omega (arith, lt, ap length none.1))
extents_in room number (Some t) files snapshot k d lt = snapshot.extents k d lt

pub extents_of : (p : Contents) → IsLawful p → All IsExtent p.files
extents_of p lawful = extents_in p.room p.number p.text p.files lawful.snapshot

apart_in : (room number : ℕ) (text : Option (List ℕ)) (files : List StoredFile) → MatchOption text ((number ≡ 0) × (files ≡ [])) (λ t. IsSnapshot room number t files) → AllPairs (λ s t. IsClear t.place t.size s) (all_taken files)
apart_in room number None files none = subst (λ (l : List StoredFile). AllPairs (λ s t. IsClear t.place t.size s) (all_taken l)) (sym none.1) (λ i j d lt below. absurd (omega (arith, below)))
apart_in room number (Some t) files snapshot = snapshot.apart

pub apart_of : (p : Contents) → IsLawful p → AllPairs (λ s t. IsClear t.place t.size s) (all_taken p.files)
apart_of p lawful = apart_in p.room p.number p.text p.files lawful.snapshot

pub whole_all : (files : List StoredFile) (room : ℕ) (c : List ℕ) → All IsExtent files → All (λ f. All (IsInside room) (taken f)) files → AreFiles files (range c DATA room) → All (IsWhole c) (map placed_of files)
whole_all files room c extents inside held k d lt =
    let near : k < length files = omega (arith, lt, length-map files placed_of) in
    let nothing : StoredFile = record { listed = record { media = record { 0 = 0 }; length = 0; md5 = [] }; stand = Extent 0; bytes = [] } in
    subst (IsWhole c) (sym (get_or-map placed_of files k nothing d near)) (whole_held room c (get_or files k nothing) (extents k nothing near) (inside k nothing near) (held k nothing near))

-- the files of contents are whole and apart
pub staged_none : (s : Store) (p : Contents) (c : List ℕ) → s.current ≡ map placed_of p.files → s.staged ≡ [] → s.half ≡ None → IsLawful p → AreFiles p.files (range c DATA p.room) → HasStaged s c
staged_none s p c files staged half lawful held =
    let all : whole_files s ≡ map placed_of p.files = ap (λ (l : List Placed). s.current ++ l) staged ∙ append-nil s.current ∙ files in
    let taken : taken_files s ≡ map placed_of p.files = ap (λ (h : Option Half). whole_files s ++ half_files h) half ∙ append-nil (whole_files s) ∙ all in
    record {
      whole = subst (All (IsWhole c)) (sym all) (whole_all p.files p.room c (extents_of p lawful) (lawful_inside p lawful) held);
      begun = subst (λ (h : Option Half). IfSome h (IsBegun c)) (sym half) tt;
      apart = subst AreApart (sym taken) (apart_placed p.files (extents_of p lawful) (apart_of p lawful));
    }

-- an opening that has read a disk which stands for contents
pub opened : (v w : View) (s : Store) (r : Contents) → w.told → Only v.bytes w → w.bytes ≡ v.bytes → Found s v.bytes → StandsFor r v.bytes → IsReady w s r
opened v w s r told only bytes found stands =
    let c : List ℕ = v.bytes in
    let snapshot : Snapshot s.spare r c = subst (λ (x : Slot). Snapshot x r c) (sym found.spare) (found_in c r r.text refl stands.lawful.room.high stands.lawful.snapshot stands.slots stands.files) in
    let files : s.current ≡ map placed_of r.files = found.files ∙ snapshot.files in
    record {
      settled = settled_by w c r told only stands;
      front = one_stable 0 JOURNAL w (subst (λ (b : List ℕ). Only b w) (sym bytes) only);
      knows = subst (Knows s r) (sym bytes) (record {
        display = found.display ∙ header_number c 16 r.display (omega arith) stands.lawful.display.1 stands.header.display_is;
        epoch = found.epoch ∙ header_number c 20 r.epoch (omega arith) stands.lawful.epoch.1 stands.header.epoch_is;
        room = found.room ∙ header_long_number c 24 r.room (omega arith) (omega (arith, stands.lawful.room.high)) stands.header.room_is;
        number = found.number ∙ snapshot.number;
        text = found.text ∙ snapshot.text;
        files = files;
        slot = snapshot.slot;
        gate = gate_found s.spare c s.spare_open found.gate;
      });
      staged = subst (HasStaged s) (sym bytes) (staged_none s r c files found.staged found.half stands.lawful stands.files);
    }

-- refusals that a disk which stands for contents doesn't meet
pub not_unformatted : (v : View) (p : Contents) (size : ℕ) → v.told → StandsFor p v.bytes → size ≡ v.size → (size < DATA) ⊎ (v.told → get_or v.bytes 0 0 ≡ 1 → ⊥) → ⊥
not_unformatted v p size told stands same (inl short) = absurd (omega (arith, short, same, v.sized told, stands.size))
not_unformatted v p size told stands same (inr closed) = closed told (header_open v.bytes stands.header.gate)

pub header_not_damaged : (v : View) (p : Contents) (size : ℕ) (damage : Damage) → v.told → StandsFor p v.bytes → size ≡ v.size → header_damage size v.bytes ≡ Some damage → ⊥
header_not_damaged v p size damage told stands same is =
    let none : header_damage size v.bytes ≡ None = ap (λ (n : ℕ). header_damage n v.bytes) (same ∙ sym (v.sized told)) ∙ header_undamaged p v.bytes stands in
    let wrong : None ≡ Some damage = sym none ∙ is in
    cc

pub slots_not_damaged : (p : Contents) (c d : List ℕ) (room : ℕ) (damage : Damage) → StandsFor p c → d ≡ c → room ≡ u64_at c 24 → slots_damage room d ≡ Some damage → ⊥
slots_not_damaged p c d room damage stands same at is =
    let none : slots_damage room d ≡ None = ap (λ (n : ℕ). slots_damage n d) at ∙ ap (λ (b : List ℕ). slots_damage (u64_at c 24) b) same ∙ slots_undamaged p c stands in
    let wrong : None ≡ Some damage = sym none ∙ is in
    cc
