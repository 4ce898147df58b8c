-- What the snapshot reads back as.
use Rattle.std.proofs.Common.{◌≡◌, ℕ, ◌+◌, ◌*◌, ◌%◌, ◌<◌, ◌≤◌, suc, List, [], ◌∷◌, length, All, Option, Some, MatchOption, sym, ◌∙◌, ap, subst, arith}
use Rattle.sg_base.specs.declared.limits.TheConstants.{MANIFEST_TEXT}
use Rattle.sg_disk.specs.View.{View, range}
use Rattle.sg_disk.specs.Runs.{Quiet}
use Rattle.sg_disk.specs.Contents.{Segment, StoredFile, Contents, taken, parts, IsInside}
use Rattle.sg_disk.specs.Contents.{Pages}
use Rattle.sg_disk.specs.StandsFor.{IsHeld}
use Rattle.sg_disk.specs.declared.places.TheConstants.{DATA, HEADER_LEN, JOURNAL, PAGE, SLOT_LEN, TEXT}
use Rattle.sg_disk.proofs.Ranges.{range-range}
use Rattle.sg_disk.proofs.Extents.{inside_parts}
use Rattle.sg_disk.proofs.Writes.{one_quiet}
use Rattle.sg_pages.specs.Shelves.{byte_place}
use Rattle.sg_pages.specs.declared.maps.TheConstants.{MAP_LEN}
use Rattle.sg_pages.proofs.PartLemmas.{AreWithin, range_of_file}
use Rattle.sg_slots.specs.Slots.{slot_place, slot_of, opposite}
use Rattle.sg_contents.specs.Lawful.{IsSnapshot, IsStored}
use Rattle.sg_contents.specs.StandsFor.{IsNew, IsCurrent}
use Rattle.sg_contents.proofs.Standing.{settled_read, settled_quiet}
use Rattle.sg_switching.specs.Switching.{map_of}
use Rattle.sg_store_state.specs.State.{State}
use Rattle.sg_store_state.specs.Ready.{text_length, Knows, HasStaged, IsReady}
use Rattle.sg_store_state.proofs.OpenLemmas.{held_here}

-- the manifest of the snapshot
text_in : (s : State) (p : Contents) (c text : List ℕ) (o : Option (List ℕ)) → o ≡ Some text → length text ≤ MANIFEST_TEXT → MatchOption o (Unit {0}) (λ t. IsCurrent p.room p.number t p.files (slot_of (opposite s.spare) c) (map_of p.room (opposite s.spare) c) (slot_of s.spare c) (map_of p.room s.spare c)) → range c (slot_place (opposite s.spare) + TEXT) (length text) ≡ text
text_in s p c text o is long slot =
    let current : IsCurrent p.room p.number text p.files (slot_of (opposite s.spare) c) (map_of p.room (opposite s.spare) c) (slot_of s.spare c) (map_of p.room s.spare c) = subst (λ (x : Option (List ℕ)). MatchOption x (Unit {0}) (λ t. IsCurrent p.room p.number t p.files (slot_of (opposite s.spare) c) (map_of p.room (opposite s.spare) c) (slot_of s.spare c) (map_of p.room s.spare c))) is slot in
    sym (range-range c (slot_place (opposite s.spare)) SLOT_LEN TEXT (length text) (omega (arith, long))) ∙ current.slot.fields.text_is

pub text_at : (s : State) (p : Contents) (c text : List ℕ) → length text ≤ MANIFEST_TEXT → Knows s p c → p.text ≡ Some text → range c (slot_place (opposite s.spare) + TEXT) (length text) ≡ text
text_at s p c text long knows is = text_in s p c text p.text is long knows.slot

-- calls that change nothing leave a store ready
pub ready_quiet : (n : ℕ) (v w : View) (s : State) (p : Contents) → Quiet n v w → IsReady v s p → IsReady w s p
ready_quiet n v w s p quiet ready =
    let told : v.told = ready.settled.told in
    let same : w.bytes ≡ v.bytes = quiet.bytes told in
    record {
      settled = settled_quiet n v w p quiet ready.settled;
      front = one_quiet n 0 JOURNAL v w told quiet ready.front;
      maps = one_quiet n (DATA + p.room) (2 * MAP_LEN) v w told quiet ready.maps;
      format = subst (λ (b : List ℕ). IsNew (range b 0 HEADER_LEN)) (sym same) ready.format;
      knows = subst (Knows s p) (sym same) ready.knows;
      staged = subst (HasStaged s) (sym same) ready.staged;
    }

-- the parts of a file that lie in the data area of a disk that has it
pub parts_within : (room n : ℕ) (segments : List Segment) → DATA + room ≤ n → All (IsInside room) segments → AreWithin n segments
parts_within room n [] long inside = tt
parts_within room n (s ∷ segments) long inside =
    let here : IsInside room s = inside 0 s (omega arith) in
    (omega (arith, here.1, long), parts_within room n segments long (λ k d lt. inside (suc k) d (omega (arith, lt))))

-- bytes of a file that the disk holds, from an offset on and inside one of its pages
pub file_bytes : (room : ℕ) (c : List ℕ) (f : StoredFile) (offset n : ℕ) → DATA + room ≤ length c → IsStored f → All (IsInside room) (taken f) → IsHeld (range c DATA room) f → 0 < n → offset + n ≤ f.listed.length → ((pages : List ℕ) → f.stand ≡ Pages pages → offset % PAGE + n ≤ PAGE) → range c (byte_place f.stand offset) n ≡ range f.bytes offset n
file_bytes room c f offset n long stored inside held some fits row =
    sym (range_of_file c f.listed.length f.stand offset n stored (parts_within room (length c) (parts f) long (inside_parts room f inside)) some fits row)
    ∙ ap (λ (b : List ℕ). range b offset n) (held_here room c f inside held)

-- the manifest that was read is that of the contents
long_in : (room number : ℕ) (o : Option (List ℕ)) (files : List StoredFile) (text : List ℕ) → o ≡ Some text → MatchOption o ((number ≡ 0) × (files ≡ [])) (λ t. IsSnapshot room number t files) → length text ≤ MANIFEST_TEXT
long_in room number o files text is snapshot =
    let here : IsSnapshot room number text files = subst (λ (x : Option (List ℕ)). MatchOption x ((number ≡ 0) × (files ≡ [])) (λ t. IsSnapshot room number t files)) is snapshot in
    here.long.1

pub manifest_read : (v : View) (s : State) (p : Contents) (text into : List ℕ) (place n : ℕ) → IsReady v s p → p.text ≡ Some text → n ≡ s.text → place ≡ slot_place (opposite s.spare) + TEXT → into ≡ range v.bytes place n → into ≡ text
manifest_read v s p text into place n ready is count at read =
    let standing = settled_read v p ready.settled in
    let long = long_in p.room p.number p.text p.files text is standing.lawful.snapshot in
    let whole : n ≡ length text = count ∙ ready.knows.text ∙ ap text_length is in
    read ∙ ap (λ (k : ℕ). range v.bytes k n) at ∙ ap (λ (k : ℕ). range v.bytes (slot_place (opposite s.spare) + TEXT) k) whole ∙ text_at s p v.bytes text long ready.knows is
