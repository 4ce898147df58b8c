-- Pairs of a list that is made of two, and what each segment that files take says of their pages and of their ranges.
use Rattle.std.proofs.Common.{◌≢◌, ℕ, zero, suc, ◌<◌, List, [], ◌∷◌, ◌++◌, length, get_or, map, All, AllPairs, refl, subst, arith}
use Rattle.std.proofs.lemmas.List.{length-map, get_or-map}
use Rattle.std.proofs.lemmas.List.Elements.{All-append, All-cons}
use Rattle.std.proofs.lemmas.List.Kept.{AllPairs-cons}
use Rattle.sg_disk.specs.Contents.{Segment, Stand, StoredFile, page_at, taken_at, taken, all_taken}
use Rattle.sg_disk.specs.Contents.{Extent, Pages}
use Rattle.sg_disk.specs.StandsFor.{place_of}
use Rattle.sg_placing.proofs.GapLemmas.{All-front, All-back}
use Rattle.sg_placing.specs.Placing.{segment_of, placed_of}
use Rattle.sg_contents.specs.Lawful.{pages_at, all_pages}

pub pairs_tail : {X : Type 0} (R : X → X → Type 0) (x : X) (xs : List X) → AllPairs R (x ∷ xs) → AllPairs R xs
pairs_tail R x xs all i j d lt below = all (suc i) (suc j) d (omega (arith, lt)) (omega (arith, below))

pub pairs_head : {X : Type 0} (R : X → X → Type 0) (x : X) (xs : List X) → AllPairs R (x ∷ xs) → All (R x) xs
pairs_head R x xs all k d lt = all zero (suc k) d (omega arith) (omega (arith, lt))

pub pairs_front : {X : Type 0} (R : X → X → Type 0) (xs ys : List X) → AllPairs R (xs ++ ys) → AllPairs R xs
pairs_front R [] ys all = λ i j d lt below. absurd (omega (arith, below))
pairs_front R (x ∷ xs) ys all = AllPairs-cons R x xs (All-front (R x) xs ys (pairs_head R x (xs ++ ys) all)) (pairs_front R xs ys (pairs_tail R x (xs ++ ys) all))

pub pairs_back : {X : Type 0} (R : X → X → Type 0) (xs ys : List X) → AllPairs R (xs ++ ys) → AllPairs R ys
pairs_back R [] ys all = all
pairs_back R (x ∷ xs) ys all = pairs_back R xs ys (pairs_tail R x (xs ++ ys) all)

pub pairs_cross : {X : Type 0} (R : X → X → Type 0) (xs ys : List X) → AllPairs R (xs ++ ys) → All (λ x. All (R x) ys) xs
pairs_cross R [] ys all = λ k d lt. absurd (omega (arith, lt))
pairs_cross R (x ∷ xs) ys all = All-cons (λ z. All (R z) ys) x xs (All-back (R x) xs ys (pairs_head R x (xs ++ ys) all)) (pairs_cross R xs ys (pairs_tail R x (xs ++ ys) all))

pub pairs_append : {X : Type 0} (R : X → X → Type 0) (xs ys : List X) → AllPairs R xs → AllPairs R ys → All (λ x. All (R x) ys) xs → AllPairs R (xs ++ ys)
pairs_append R [] ys one two cross = two
pairs_append R (x ∷ xs) ys one two cross = AllPairs-cons R x (xs ++ ys) (All-append (R x) xs ys (pairs_head R x xs one) (cross zero x (omega arith))) (pairs_append R xs ys (pairs_tail R x xs one) two (λ k d lt. cross (suc k) d (omega (arith, lt))))

-- pairs of what a list is mapped to
pub pairs_map : {X Y : Type 0} (R : Y → Y → Type 0) (f : X → Y) (xs : List X) → AllPairs R (map f xs) → AllPairs (λ x y. R (f x) (f y)) xs
pairs_map R f xs all i j d lt below =
    let near : i < length xs = omega (arith, lt, below) in
    let first = get_or-map f xs i d (f d) near in
    let second = get_or-map f xs j d (f d) below in
    subst (λ y. R (f (get_or xs i d)) y) second (subst (λ x. R x (get_or (map f xs) j (f d))) first (all i j (f d) lt (omega (arith, below, length-map xs f))))

pub all_map : {X Y : Type 0} (P : Y → Type 0) (f : X → Y) (xs : List X) → All P (map f xs) → All (λ x. P (f x)) xs
all_map P f xs all k d lt = subst P (get_or-map f xs k d (f d) lt) (all k (f d) (omega (arith, lt, length-map xs f)))

pub map_all : {X Y : Type 0} (P : Y → Type 0) (f : X → Y) (xs : List X) → All (λ x. P (f x)) xs → All P (map f xs)
map_all P f [] all = λ k d lt. absurd (omega (arith, lt))
map_all P f (x ∷ xs) all = All-cons P (f x) (map f xs) (all zero x (omega arith)) (map_all P f xs (λ k d lt. all (suc k) d (omega (arith, lt))))

-- of one file
pub one_pages : (P : Segment → Type 0) (n : ℕ) (stand : Stand) → All P (taken_at n stand) → All (λ q. P (page_at q)) (pages_at stand)
one_pages P n (Extent place) all k d lt = absurd (omega (arith, lt))
one_pages P n (Pages pages) all k d lt = all_map P page_at pages all k d lt

pub one_range : (P : Segment → Type 0) (n : ℕ) (stand : Stand) → All P (taken_at n stand) → place_of stand ≢ 0 → P (record { place = place_of stand; size = n })
one_range P n (Extent place) all some = all 0 (record { place = place; size = n }) (omega arith)
one_range P n (Pages pages) all some = absurd (some refl)

-- of all files
pub taken_pages : (P : Segment → Type 0) (files : List StoredFile) → All P (all_taken files) → All (λ q. P (page_at q)) (all_pages files)
taken_pages P [] all = λ k d lt. absurd (omega (arith, lt))
taken_pages P (f ∷ files) all = All-append (λ q. P (page_at q)) (pages_at f.stand) (all_pages files) (one_pages P f.listed.length f.stand (All-front P (taken f) (all_taken files) all)) (taken_pages P files (All-back P (taken f) (all_taken files) all))

pub taken_ranges : (P : Segment → Type 0) (files : List StoredFile) → All P (all_taken files) → All (λ p. p.place ≢ 0 → P (segment_of p)) (map placed_of files)
taken_ranges P [] all = λ k d lt. absurd (omega (arith, lt))
taken_ranges P (f ∷ files) all = All-cons (λ p. p.place ≢ 0 → P (segment_of p)) (placed_of f) (map placed_of files) (one_range P f.listed.length f.stand (All-front P (taken f) (all_taken files) all)) (taken_ranges P files (All-back P (taken f) (all_taken files) all))

-- what holds of each file's segments holds of all
pub all_taken_of : (P : Segment → Type 0) (files : List StoredFile) → All (λ f. All P (taken f)) files → All P (all_taken files)
all_taken_of P [] each = λ k d lt. absurd (omega (arith, lt))
all_taken_of P (f ∷ files) each = All-append P (taken f) (all_taken files) (each zero f (omega arith)) (all_taken_of P files (λ k d lt. each (suc k) d (omega (arith, lt))))
