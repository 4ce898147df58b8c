-- Files of one range each, and the parts of a file inside what it takes.
use Rattle.std.proofs.Common.{◌≡◌, inl, inr, ℕ, zero, suc, ◌+◌, ◌-◌, ◌*◌, ◌<◌, ◌≤◌, min, List, [], ◌∷◌, ◌++◌, length, get_or, map, All, AllPairs, refl, sym, ◌∙◌, ap, subst, arith}
use Rattle.std.proofs.lemmas.List.{length-map}
use Rattle.sg_disk.specs.Contents.{Segment, Stand, StoredFile, IsClear, IsInside, AreClear, IsExtent, page_at, taken_at, taken, parts_of, parts_at, parts, all_taken}
use Rattle.sg_disk.specs.Contents.{Extent, Pages}
use Rattle.sg_disk.specs.StandsFor.{place_of}
use Rattle.sg_disk.specs.declared.places.TheConstants.{DATA, PAGE}

-- where a file of one range stands
abbrev pub extent_of : StoredFile → Segment
extent_of f = record { place = place_of f.stand; size = f.listed.length }

one_extent : (f : StoredFile) (place : ℕ) → f.stand ≡ Extent place → record { place = place; size = f.listed.length } ∷ [] ≡ extent_of f ∷ []
one_extent f place is = ap (λ (p : ℕ). record { place = p; size = f.listed.length } ∷ []) (sym (ap place_of is))

pub taken_extent : (f : StoredFile) → IsExtent f → taken f ≡ extent_of f ∷ []
taken_extent f is = ap (taken_at f.listed.length) is.1 ∙ one_extent f is.0 is.1

pub parts_extent : (f : StoredFile) → IsExtent f → parts f ≡ extent_of f ∷ []
parts_extent f is = ap (parts_at f.listed.length) is.1 ∙ one_extent f is.0 is.1

pub taken-extents : (files : List StoredFile) → All IsExtent files → all_taken files ≡ map extent_of files
taken-extents [] are = refl
taken-extents (f ∷ files) are =
    ap (λ (s : List Segment). s ++ all_taken files) (taken_extent f (are zero f (omega arith))) ∙ ap (λ (s : List Segment). extent_of f ∷ s) (taken-extents files (λ k d lt. are (suc k) d (omega (arith, lt))))

-- what holds of each page holds of the part of it that a file has, if it holds of each front of a segment
in_pages : (P : Segment → Type 0) → ((place n m : ℕ) → m ≤ n → P (record { place = place; size = n }) → P (record { place = place; size = m })) → (n : ℕ) (pages : List ℕ) → All P (map page_at pages) → All P (parts_of n pages)
in_pages P front n [] all k d lt = absurd (omega (arith, lt))
in_pages P front n (page ∷ pages) all zero d lt = front (DATA + PAGE * page) PAGE (min n PAGE) (omega arith) (all zero d (omega arith))
in_pages P front n (page ∷ pages) all (suc k) d lt = in_pages P front (n - PAGE) pages (λ j e below. all (suc j) e (omega (arith, below))) k d (omega (arith, lt))

in_stand : (P : Segment → Type 0) → ((place n m : ℕ) → m ≤ n → P (record { place = place; size = n }) → P (record { place = place; size = m })) → (n : ℕ) (stand : Stand) → All P (taken_at n stand) → All P (parts_at n stand)
in_stand P front n (Extent place) all = all
in_stand P front n (Pages pages) all = in_pages P front n pages all

clear_front : (at k place n m : ℕ) → m ≤ n → IsClear at k (record { place = place; size = n }) → IsClear at k (record { place = place; size = m })
clear_front at k place n m le (inl below) = inl (omega (arith, below, le))
clear_front at k place n m le (inr above) = inr above

-- what is clear of all that a file takes is clear of its parts
pub clear_parts : (at k : ℕ) (f : StoredFile) → All (IsClear at k) (taken f) → All (IsClear at k) (parts f)
clear_parts at k f all = in_stand (IsClear at k) (clear_front at k) f.listed.length f.stand all

pub inside_parts : (room : ℕ) (f : StoredFile) → All (IsInside room) (taken f) → All (IsInside room) (parts f)
inside_parts room f all = in_stand (IsInside room) (λ place n m le inside. (inside.0, omega (arith, inside.1, le))) f.listed.length f.stand all

get_or-map_extents : (files : List StoredFile) (k : ℕ) (d : Segment) (e : StoredFile) → k < length files → get_or (map extent_of files) k d ≡ extent_of (get_or files k e)
get_or-map_extents [] k d e lt = absurd (omega (arith, lt))
get_or-map_extents (f ∷ files) zero d e lt = refl
get_or-map_extents (f ∷ files) (suc k) d e lt = get_or-map_extents files k d e (omega (arith, lt))

-- files that stand apart take segments that do
pub apart_extents : (files : List StoredFile) → All IsExtent files → AllPairs (λ f g. IsClear (place_of g.stand) g.listed.length (extent_of f)) files → AllPairs (λ s t. IsClear t.place t.size s) (all_taken files)
apart_extents files are apart =
    let Apart : List Segment → Type 0 = λ l. AllPairs (λ s t. IsClear t.place t.size s) l in
    subst Apart (sym (taken-extents files are)) (pairs files apart)
  where
    pairs : (files : List StoredFile) → AllPairs (λ f g. IsClear (place_of g.stand) g.listed.length (extent_of f)) files → AllPairs (λ s t. IsClear t.place t.size s) (map extent_of files)
    pairs [] apart i j d lt below = absurd (omega (arith, below))
    pairs (f ∷ files) apart i j d lt below =
        let far : j < length (f ∷ files) = omega (arith, below, length-map (f ∷ files) extent_of) in
        let near : i < length (f ∷ files) = omega (arith, lt, far) in
        let first : get_or (map extent_of (f ∷ files)) i d ≡ extent_of (get_or (f ∷ files) i f) = get_or-map_extents (f ∷ files) i d f near in
        let second : get_or (map extent_of (f ∷ files)) j d ≡ extent_of (get_or (f ∷ files) j f) = get_or-map_extents (f ∷ files) j d f far in
        subst (λ (s : Segment). IsClear (get_or (map extent_of (f ∷ files)) j d).place (get_or (map extent_of (f ∷ files)) j d).size s) (sym first) (subst (λ (t : Segment). IsClear t.place t.size (extent_of (get_or (f ∷ files) i f))) (sym second) (apart i j f lt far))

-- a range that is clear of each extent is clear of the files
pub clear_extents : (place n : ℕ) (files : List StoredFile) → All IsExtent files → All (λ f. IsClear place n (extent_of f)) files → AreClear place n files
clear_extents place n files are clear k f lt =
    let file = get_or files k f in
    subst (λ (l : List Segment). All (IsClear place n) l) (sym (taken_extent file (are k f lt))) (one (extent_of file) (clear k f lt))
  where
    one : (s : Segment) → IsClear place n s → All (IsClear place n) (s ∷ [])
    one s is zero d below = is
    one s is (suc j) d below = absurd (omega (arith, below))
