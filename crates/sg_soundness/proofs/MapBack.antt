-- The map that a switch writes reads back as the pages of its files, and a shelf of files has them where they stand.
use Rattle.std.proofs.Common.{◌≡◌, ℕ, zero, suc, ◌+◌, ◌*◌, ◌^◌, ◌<◌, ◌≤◌, ◌==◌, Bool, List, [], ◌∷◌, ◌++◌, length, get_or, take, drop, map, All, if◌then◌else◌, refl, sym, ◌∙◌, ap, arith, length-drop}
use Rattle.std.specs.List.{flat_map}
use Rattle.std.specs.Int.{w16, from_le_bytes}
use Rattle.std.proofs.lemmas.Bool.{ne_eqb}
use Rattle.std.proofs.lemmas.Nat.{from_le_bytes-to_le_bytes_2}
use Rattle.std.proofs.lemmas.List.{same_lists, take_at, drop_at, take-append-le, drop-append-le, drop-drop}
use Rattle.sg_disk.specs.View.{range}
use Rattle.sg_disk.specs.Contents.{Stand, StoredFile, IsInside, taken_at, taken}
use Rattle.sg_disk.specs.Contents.{Extent, Pages}
use Rattle.sg_disk.specs.StandsFor.{place_of}
use Rattle.sg_placing.specs.Placing.{placed_of}
use Rattle.sg_pages.specs.Pages.{needed}
use Rattle.sg_pages.specs.Maps.{le16, u16_at, pages_of}
use Rattle.sg_pages.specs.Shelves.{FileAt, pages_for, stand_in, stands_in, stands}
use Rattle.sg_pages.proofs.MapLemmas.{length-pages, get_or-pages}
use Rattle.sg_contents.specs.Lawful.{IsStored, pages_at, all_pages}
use Rattle.sg_soundness.specs.Shelved.{file_at_of, shelf_of}

-- a range of the front of a list, and one behind it
range_left : (xs ys : List ℕ) (p n : ℕ) → p + n ≤ length xs → range (xs ++ ys) p n ≡ range xs p n
unfolding range
range_left xs ys p n le =
    let near : p ≤ length xs = omega (arith, le) in
    let far : n ≤ length (drop p xs) = omega (arith, le, length-drop p xs) in
    ap (λ (l : List ℕ). take n l) (drop-append-le p xs ys near) ∙ take-append-le n (drop p xs) ys far

range_right : (xs ys : List ℕ) (a p n : ℕ) → length xs ≡ a → range (xs ++ ys) (a + p) n ≡ range ys p n
unfolding range
range_right xs ys a p n is = ap (λ (l : List ℕ). take n l) (sym (drop-drop p a (xs ++ ys)) ∙ ap (λ (l : List ℕ). drop p l) (drop_at xs ys a is))

le16_long : (page : ℕ) → length (le16 page) ≡ 2
unfolding le16
le16_long page = refl

le16_whole : (page : ℕ) → range (le16 page) 0 2 ≡ le16 page
unfolding le16 range
le16_whole page = refl

-- an entry of a map
page_in : (pages : List ℕ) (i d : ℕ) → i < length pages → range (flat_map le16 pages) (2 * i) 2 ≡ le16 (get_or pages i d)
page_in [] i d lt = absurd (omega (arith, lt))
page_in (page ∷ pages) zero d lt = range_left (le16 page) (flat_map le16 pages) 0 2 (omega (arith, le16_long page)) ∙ le16_whole page
page_in (page ∷ pages) (suc i) d lt =
    let at : 2 * suc i ≡ 2 + 2 * i = omega arith in
    ap (λ (k : ℕ). range (le16 page ++ flat_map le16 pages) k 2) at ∙ range_right (le16 page) (flat_map le16 pages) 2 (2 * i) 2 (le16_long page) ∙ page_in pages i d (omega (arith, lt))

number_back : (map : List ℕ) (place page : ℕ) → page < 2 ^ 16 → range map place 2 ≡ le16 page → u16_at map place ≡ page
unfolding u16_at le16
number_back map place page lt is = ap (λ (l : List ℕ). from_le_bytes w16 l) is ∙ from_le_bytes-to_le_bytes_2 page lt

-- the pages of a map
pub pages_back : (pages : List ℕ) → All (λ page. page < 2 ^ 16) pages → pages_of (flat_map le16 pages) (length pages) ≡ pages
pages_back pages fit = same_lists (pages_of (flat_map le16 pages) (length pages)) pages (length-pages (flat_map le16 pages) (length pages)) (λ k d lt.
    let near : k < length pages = omega (arith, lt, length-pages (flat_map le16 pages) (length pages)) in
    get_or-pages (flat_map le16 pages) (length pages) k d near ∙ number_back (flat_map le16 pages) (2 * k) (get_or pages k d) (fit k d near) (page_in pages k d near))

-- a file whose pages come first
stand_back : (room : ℕ) (f : StoredFile) (rest : List ℕ) → IsStored f → All (IsInside room) (taken f) → stand_in (pages_at f.stand ++ rest) (placed_of f) ≡ f.stand
stand_back room f rest stored inside = by_stand f.listed.length f.stand stored inside
  where
    by_stand : (n : ℕ) (stand : Stand) → ((pages : List ℕ) → stand ≡ Pages pages → length pages ≡ needed n) → All (IsInside room) (taken_at n stand) → (if place_of stand == 0 then Pages (take (needed n) (pages_at stand ++ rest)) else Extent (place_of stand)) ≡ stand
    by_stand n (Pages pages) enough inside = ap (λ (l : List ℕ). Pages l) (take_at pages rest (needed n) (enough pages refl))
    by_stand n (Extent place) enough inside =
        let here : IsInside room (record { place = place; size = n }) = inside 0 (record { place = place; size = n }) (omega arith) in
        ap (λ (b : Bool). if b then Pages (take (needed n) rest) else Extent place) (ne_eqb place 0 (λ none. omega (arith, here.0, none)))

pages_first : (room : ℕ) (f : StoredFile) (rest : List ℕ) → IsStored f → All (IsInside room) (taken f) → drop (pages_for (placed_of f)) (pages_at f.stand ++ rest) ≡ rest
pages_first room f rest stored inside = by_stand f.listed.length f.stand stored inside
  where
    by_stand : (n : ℕ) (stand : Stand) → ((pages : List ℕ) → stand ≡ Pages pages → length pages ≡ needed n) → All (IsInside room) (taken_at n stand) → drop (if place_of stand == 0 then needed n else 0) (pages_at stand ++ rest) ≡ rest
    by_stand n (Pages pages) enough inside = drop_at pages rest (needed n) (enough pages refl)
    by_stand n (Extent place) enough inside =
        let here : IsInside room (record { place = place; size = n }) = inside 0 (record { place = place; size = n }) (omega arith) in
        ap (λ (b : Bool). drop (if b then needed n else 0) rest) (ne_eqb place 0 (λ none. omega (arith, here.0, none)))

-- where the files of a shelf stand
pub stands_back : (room : ℕ) (files : List StoredFile) → All IsStored files → All (λ f. All (IsInside room) (taken f)) files → stands (shelf_of files) ≡ map file_at_of files
stands_back room [] stored inside = refl
stands_back room (f ∷ files) stored inside =
    let one = stored zero f (omega arith) in
    let here = inside zero f (omega arith) in
    ap (λ (s : Stand). record { file = f.listed; stand = s } ∷ stands_in (drop (pages_for (placed_of f)) (pages_at f.stand ++ all_pages files)) (map placed_of files)) (stand_back room f (all_pages files) one here)
    ∙ ap (λ (l : List ℕ). file_at_of f ∷ stands_in l (map placed_of files)) (pages_first room f (all_pages files) one here)
    ∙ ap (λ (l : List FileAt). file_at_of f ∷ l) (stands_back room files (λ k d lt. stored (suc k) d (omega (arith, lt))) (λ k d lt. inside (suc k) d (omega (arith, lt))))
