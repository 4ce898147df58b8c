-- The files of the contents, and those that a switch chooses, as placed files with the bytes that stand there.
use Rattle.std.proofs.Common.{◌≡◌, inl, inr, ℕ, zero, suc, ◌+◌, ◌-◌, Bool, true, cond, List, [], ◌∷◌, ◌++◌, length, get_or, map, find, Option, Some, is_some, option_map, unwrap_or, All, refl, sym, ◌∙◌, ap, subst, arith}
use Rattle.std.proofs.lemmas.Bool.{cases_Bool}
use Rattle.std.proofs.lemmas.List.{map-append}
use Rattle.sg_base.specs.declared.file.Listed.{Listed}
use Rattle.sg_disk.specs.View.{range}
use Rattle.sg_disk.specs.Contents.{Segment, Stand, StoredFile, Contents, IsInside, IsExtent, taken}
use Rattle.sg_disk.specs.Contents.{Extent}
use Rattle.sg_disk.specs.StandsFor.{place_of, bytes_at, IsHeld, AreFiles, StandsFor}
use Rattle.sg_disk.specs.declared.places.TheConstants.{DATA}
use Rattle.sg_disk.proofs.Ranges.{range-range}
use Rattle.sg_disk.proofs.Standing.{lawful_inside}
use Rattle.sg_disk.proofs.Extents.{extent_of, taken_extent, parts_extent}
use Rattle.sg_placing.specs.Placing.{segments_of_placed, placed_of, same_file}
use Rattle.sg_placing.specs.declared.placed.Placed.{Placed}
use Rattle.sg_store.specs.Ready.{whole_files, bytes_in, file_at, sealed_files, placed_as, stored_file, Knows}
use Rattle.sg_store.specs.declared.store.Store.{Store}
use Rattle.sg_store.proofs.OpenLemmas.{extents_of}
use Rattle.sg_store.proofs.ChoiceLemmas.{Member, member, stored_as, stored_is}

-- a file of the contents stands at its place
pub file_stands : (room : ℕ) (c : List ℕ) (f : StoredFile) → IsExtent f → All (IsInside room) (taken f) → IsHeld (range c DATA room) f → file_at c (placed_of f) ≡ f
file_stands room c f is inside held =
    let extent : taken f ≡ extent_of f ∷ [] = taken_extent f is in
    let one : IsInside room (extent_of f) = subst (λ (l : List Segment). IsInside room (get_or l 0 (extent_of f))) extent (inside 0 (extent_of f) (omega (arith, ap length extent))) in
    let place : DATA + (place_of f.stand - DATA) ≡ place_of f.stand = omega (arith, one.0) in
    let there : range (range c DATA room) (place_of f.stand - DATA) f.listed.length ≡ range c (place_of f.stand) f.listed.length = range-range c DATA room (place_of f.stand - DATA) f.listed.length (omega (arith, one.0, one.1)) ∙ ap (λ (k : ℕ). range c k f.listed.length) place in
    let bytes : bytes_in c (extent_of f ∷ []) ≡ f.bytes = ap (λ (l : List ℕ). l ++ []) (sym there) ∙ ap (bytes_at (range c DATA room)) (sym (parts_extent f is)) ∙ held.there in
    let stand : Extent (place_of f.stand) ≡ f.stand = ap (λ (s : Stand). Extent (place_of s)) is.1 ∙ sym is.1 in
    ap (λ (l : List ℕ). with_bytes (Extent (place_of f.stand)) l) bytes ∙ ap (λ (s : Stand). with_bytes s f.bytes) stand
  where
    with_bytes : Stand → List ℕ → StoredFile
    with_bytes stand bytes = record { listed = f.listed; stand = stand; bytes = bytes }

all_stand : (room : ℕ) (c : List ℕ) (files : List StoredFile) → All IsExtent files → All (λ f. All (IsInside room) (taken f)) files → AreFiles files (range c DATA room) → map (file_at c) (map placed_of files) ≡ files
all_stand room c [] are inside held = refl
all_stand room c (f ∷ files) are inside held =
    ap (λ (g : StoredFile). g ∷ map (file_at c) (map placed_of files)) (file_stands room c f (are zero f (omega arith)) (inside zero f (omega arith)) (held zero f (omega arith))) ∙ ap (λ (l : List StoredFile). f ∷ l) (all_stand room c files (λ k d lt. are (suc k) d (omega (arith, lt))) (λ k d lt. inside (suc k) d (omega (arith, lt))) (λ k d lt. held (suc k) d (omega (arith, lt))))

-- the files that are whole are those of the contents and the sealed ones
pub whole_stand : (s : Store) (p : Contents) (c : List ℕ) → StandsFor p c → Knows s p c → map (file_at c) (whole_files s) ≡ p.files ++ sealed_files s c
whole_stand s p c stands knows =
    map-append (file_at c) s.current s.staged ∙ ap (λ (l : List StoredFile). l ++ sealed_files s c) (ap (λ (l : List Placed). map (file_at c) l) knows.files ∙ all_stand p.room c p.files (extents_of p stands.lawful) (lawful_inside p stands.lawful) stands.files)

-- what is found among placed files
find-file_at : (c : List ℕ) (files : List Placed) (listed : Listed) → find (λ f. same_file f.listed listed) (map (file_at c) files) ≡ option_map (file_at c) (placed_as files listed)
find-file_at c [] listed = refl
find-file_at c (p ∷ files) listed = elim (cases_Bool (same_file p.file listed)) [
  | inl here ↦ ap (λ (b : Bool). cond b (Some (file_at c p)) (find (λ f. same_file f.listed listed) (map (file_at c) files))) here ∙ sym (ap (λ (b : Bool). option_map (file_at c) (cond b (Some p) (placed_as files listed))) here)
  | inr other ↦ ap (λ (b : Bool). cond b (Some (file_at c p)) (find (λ f. same_file f.listed listed) (map (file_at c) files))) other ∙ find-file_at c files listed ∙ sym (ap (λ (b : Bool). option_map (file_at c) (cond b (Some p) (placed_as files listed))) other)
]

-- the stored file of a member is the member with its bytes
stored_at : (files : List Placed) (c : List ℕ) (listed : Listed) (m : Member files listed) → stored_file files c listed ≡ file_at c m.q
stored_at files c listed m = stored_is files c listed m ∙ ap (λ (l : Listed). stored_as c l m.q) (sym m.same)

-- the files of a new snapshot are found among the whole ones
pub stored_found : (files : List Placed) (c : List ℕ) (listed : List Listed) → All (λ f. is_some (placed_as files f) ≡ true) listed → map (λ l. find (λ f. same_file f.listed l) (map (file_at c) files)) listed ≡ map Some (map (stored_file files c) listed)
stored_found files c [] held = refl
stored_found files c (l ∷ listed) held =
    let m : Member files l = member files l (held zero l (omega arith)) in
    let found : find (λ f. same_file f.listed l) (map (file_at c) files) ≡ Some (stored_file files c l) = find-file_at c files l ∙ ap (option_map (file_at c)) m.found ∙ ap (λ (f : StoredFile). Some f) (sym (stored_at files c l m)) in
    ap (λ (o : Option StoredFile). o ∷ map (λ l. find (λ f. same_file f.listed l) (map (file_at c) files)) listed) found ∙ ap (λ (os : List (Option StoredFile)). Some (stored_file files c l) ∷ os) (stored_found files c listed (λ k d lt. held (suc k) d (omega (arith, lt))))
