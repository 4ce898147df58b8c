-- The files of a shelf, as they stand, and the pages of all of them.
use Rattle.std.proofs.Common.{◌≡◌, inl, inr, ℕ, zero, suc, ◌/◌, ◌<◌, ◌≤◌, ◌==◌, eqb, ◌||◌, Bool, true, false, List, [], ◌∷◌, ◌++◌, length, get_or, take, drop, sum_by, All, AllPairs, if◌then◌else◌, refl, sym, ◌∙◌, ap, subst, arith, length-drop}
use Rattle.std.specs.List.{list_any}
use Rattle.std.proofs.lemmas.Bool.{cases_Bool, ne_eqb, eqb-true, true≢false}
use Rattle.std.proofs.lemmas.Bool.Decides.{Decides-eqb}
use Rattle.std.proofs.lemmas.List.{take-append-drop, take_all, nil_from_length}
use Rattle.std.proofs.lemmas.List.Elements.{All-append, All-cons}
use Rattle.std.proofs.lemmas.List.Sums.{sum_by-cons}
use Rattle.std.proofs.lemmas.Map.Steps.{length-le_from_distinct_below}
use Rattle.std.proofs.lemmas.Map.Made.{IsDistinct-from_AllPairs}
use Rattle.sg_base.specs.declared.file.Listed.{Listed}
use Rattle.sg_disk.specs.Contents.{Stand, IsInside, page_at, taken_at}
use Rattle.sg_disk.specs.Contents.{Extent, Pages}
use Rattle.sg_disk.specs.declared.places.TheConstants.{PAGE}
use Rattle.sg_placing.specs.declared.placed.Placed.{Placed}
use Rattle.sg_pages.specs.Pages.{needed}
use Rattle.sg_pages.specs.Shelves.{FileAt, Shelved, IsFilled, IsPlacedIn, IsShelfIn, pages_for, stand_in, stands_in, stands}
use Rattle.sg_contents.specs.Lawful.{AreBeside, pages_at}
use Rattle.sg_contents.proofs.Pairs.{pairs_head, pairs_tail, pairs_append, pairs_map, one_pages}
use Rattle.sg_staging.specs.Staged.{IsStanding, AreOthers, pages_of_files}

-- the pages of one file, of those that stand in front
own_pages : (b : Bool) (place n : ℕ) (pages : List ℕ) → pages_at (if b then Pages (take n pages) else Extent place) ≡ take (if b then n else 0) pages
own_pages true place n pages = refl
own_pages false place n pages = refl

pub stands_pages : (pages : List ℕ) (files : List Placed) → length pages ≡ sum_by pages_for files → pages_of_files (stands_in pages files) ≡ pages
stands_pages pages [] long = sym (nil_from_length pages long)
stands_pages pages (p ∷ files) long =
    let k : ℕ = pages_for p in
    let one : pages_at (stand_in pages p) ≡ take k pages = own_pages (p.place == 0) p.place (needed p.file.length) pages in
    let rest : length (drop k pages) ≡ sum_by pages_for files = omega (arith, length-drop k pages, long, sum_by-cons pages_for p files) in
    ap (λ (l : List ℕ). l ++ pages_of_files (stands_in (drop k pages) files)) one ∙ ap (λ (l : List ℕ). take k pages ++ l) (stands_pages (drop k pages) files rest) ∙ take-append-drop k pages

pub stands_count : (pages : List ℕ) (files : List Placed) → length (stands_in pages files) ≡ length files
stands_count pages [] = refl
stands_count pages (p ∷ files) = omega (arith, stands_count (drop (pages_for p) pages) files)

-- a sealed file stands in the pages that it was given
pub stand_whole : (file : Listed) (pages : List ℕ) → length pages ≡ needed file.length → stand_in pages (record { file = file; place = 0 }) ≡ Pages pages
stand_whole file pages long = ap Pages (take_all (needed file.length) pages (omega (arith, long)))

-- what a file in a range takes of the data area
one_inside : (room n place : ℕ) (pages : List ℕ) (b : Bool) → b ≡ false → All (IsInside room) (taken_at n (if b then Pages pages else Extent place)) → IsInside room (record { place = place; size = n })
one_inside room n place pages true is inside = absurd (true≢false is)
one_inside room n place pages false is inside = inside 0 (record { place = place; size = n }) (omega arith)

standing_placed : (room : ℕ) (pages : List ℕ) (files : List Placed) → All (IsStanding room) (stands_in pages files) → All (IsPlacedIn room) files
standing_placed room pages [] all = λ k d lt. absurd (omega (arith, lt))
standing_placed room pages (p ∷ files) all =
    let first : FileAt = record { file = p.file; stand = stand_in pages p } in
    All-cons (IsPlacedIn room) p files (λ some. one_inside room p.file.length p.place (take (needed p.file.length) pages) (p.place == 0) (ne_eqb p.place 0 some) (all zero first (omega arith)).inside) (standing_placed room (drop (pages_for p) pages) files (λ k d lt. all (suc k) d (omega (arith, lt))))

-- a page of the data area
pub page_below : (room page : ℕ) → IsInside room (page_at page) → page < room / PAGE
page_below room page here = grind (arith, here.1)

pub pages_below : (room : ℕ) (files : List FileAt) → All (IsStanding room) files → All (λ page. page < room / PAGE) (pages_of_files files)
pages_below room [] all = λ k d lt. absurd (omega (arith, lt))
pages_below room (f ∷ files) all =
    let inside = one_pages (IsInside room) f.file.length f.stand (all zero f (omega arith)).inside in
    All-append (λ page. page < room / PAGE) (pages_at f.stand) (pages_of_files files) (λ k d lt. page_below room (get_or (pages_at f.stand) k d) (inside k d lt)) (pages_below room files (λ k d lt. all (suc k) d (omega (arith, lt))))

-- a shelf of files that stand in a data area
pub shelf_in : (room : ℕ) (s : Shelved) → IsFilled s → All (IsStanding room) (stands s) → IsShelfIn room s
shelf_in room s filled all = record {
  filled = filled;
  files = standing_placed room s.pages s.files all;
  pages = subst (All (λ page. page < room / PAGE)) (stands_pages s.pages s.files filled) (pages_below room (stands s) all);
}

-- pages of which no byte is taken twice
abbrev pub PagesBeside : ℕ → ℕ → Type 0
PagesBeside p q = AreBeside (page_at p) (page_at q)

pub pages_own : (n : ℕ) (stand : Stand) → AllPairs AreBeside (taken_at n stand) → AllPairs PagesBeside (pages_at stand)
pages_own n (Extent place) apart = λ i j d lt below. absurd (omega (arith, below))
pages_own n (Pages pages) apart = pairs_map AreBeside page_at pages apart

pages_cross : (f : FileAt) (files : List FileAt) → All (AreOthers f) files → All (λ p. All (PagesBeside p) (pages_of_files files)) (pages_at f.stand)
pages_cross f [] others k d lt = λ i e below. absurd (omega (arith, below))
pages_cross f (g ∷ files) others k d lt =
    let p : ℕ = get_or (pages_at f.stand) k d in
    let here : All (AreBeside (page_at p)) (taken_at g.file.length g.stand) = one_pages (λ s. All (AreBeside s) (taken_at g.file.length g.stand)) f.file.length f.stand (others zero g (omega arith)).apart k d lt in
    All-append (PagesBeside p) (pages_at g.stand) (pages_of_files files) (one_pages (AreBeside (page_at p)) g.file.length g.stand here) (pages_cross f files (λ i e below. others (suc i) e (omega (arith, below))) k d lt)

pub pages_beside : (room : ℕ) (files : List FileAt) → All (IsStanding room) files → AllPairs AreOthers files → AllPairs PagesBeside (pages_of_files files)
pages_beside room [] all others = λ i j d lt below. absurd (omega (arith, below))
pages_beside room (f ∷ files) all others =
    pairs_append PagesBeside (pages_at f.stand) (pages_of_files files) (pages_own f.file.length f.stand (all zero f (omega arith)).apart) (pages_beside room files (λ k d lt. all (suc k) d (omega (arith, lt))) (pairs_tail AreOthers f files others)) (pages_cross f files (pairs_head AreOthers f files others))

pub beside_differ : (p q : ℕ) → PagesBeside p q → p ≡ q → ⊥
beside_differ p q (inl below) same = omega (arith, below, same)
beside_differ p q (inr above) same = omega (arith, above, same)

member_below : (n : ℕ) (xs : List ℕ) (q : ℕ) → All (λ x. x < n) xs → list_any (eqb q) xs ≡ true → q < n
member_below n [] q all is = absurd (true≢false (sym is))
member_below n (x ∷ xs) q all is = elim (cases_Bool (eqb q x)) [
  | inl here ↦ omega (arith, all zero x (omega arith), eqb-true q x here)
  | inr other ↦ member_below n xs q (λ k d lt. all (suc k) d (omega (arith, lt))) (sym (ap (λ (b : Bool). b || list_any (eqb q) xs) other) ∙ is)
]

-- files that take no byte twice have no more pages than the data area
pub pages_fit : (room : ℕ) (files : List FileAt) → All (IsStanding room) files → AllPairs AreOthers files → length (pages_of_files files) ≤ room / PAGE
pages_fit room files all others =
    let pages : List ℕ = pages_of_files files in
    let beside = pages_beside room files all others in
    length-le_from_distinct_below pages (room / PAGE) (IsDistinct-from_AllPairs Decides-eqb pages (λ i j d lt below same. beside_differ (get_or pages i d) (get_or pages j d) (beside i j d lt below) same)) (λ q is. member_below (room / PAGE) pages q (pages_below room files all) is)
