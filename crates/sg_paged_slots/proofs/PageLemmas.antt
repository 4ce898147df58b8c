-- The first bad entry of a map, by other names for the same numbers.
use Rattle.std.proofs.Common.{◌≡◌, inl, inr, ℕ, ◌+◌, ◌<◌, nat_lt, ◌&&◌, not, Bool, List, [], ◌∷◌, ◌++◌, Option, None, Some, All, if◌then◌else◌, sym, ◌∙◌, ap, arith}
use Rattle.std.proofs.lemmas.Bool.{cases_Bool, ltb-true, and_parts}
use Rattle.std.proofs.lemmas.List.Elements.{All-cons}
use Rattle.std.specs.List.{flat_map}
use Rattle.sg_placing.specs.declared.placed.Placed.{Placed}
use Rattle.sg_disk.specs.Contents.{Segment, page_at}
use Rattle.sg_pages.specs.Pages.{is_taken}
use Rattle.sg_pages.specs.Maps.{pages_of, bad_entry}
use Rattle.sg_pages.specs.Shelves.{extent_of}
use Rattle.sg_pages.specs.declared.maps.BadEntry.{BadEntry}

pub bad_as : (n m : ℕ) (files same : List Placed) (bytes : List ℕ) (count k : ℕ) (answer : Option BadEntry) → n ≡ m → files ≡ same → count ≡ k → bad_entry n (flat_map extent_of files) 0 (pages_of bytes count) ≡ answer → bad_entry m (flat_map extent_of same) 0 (pages_of bytes k) ≡ answer
bad_as n m files same bytes count k answer is_n is_files is_count bad =
    ap (λ (i : ℕ). bad_entry i (flat_map extent_of same) 0 (pages_of bytes k)) (sym is_n)
    ∙ ap (λ (l : List Placed). bad_entry n (flat_map extent_of l) 0 (pages_of bytes k)) (sym is_files)
    ∙ ap (λ (i : ℕ). bad_entry n (flat_map extent_of files) 0 (pages_of bytes i)) (sym is_count)
    ∙ bad

not_none : (entry : BadEntry) → Some entry ≡ None → ⊥
not_none entry is = cc

-- where no entry is bad, each names a page of the data area
pub pages_below : (n index : ℕ) (taken : List Segment) (pages : List ℕ) → bad_entry n taken index pages ≡ None → All (λ page. page < n) pages
pages_below n index taken [] none = λ k d lt. absurd (omega (arith, lt))
pages_below n index taken (page ∷ pages) none =
    let rest : Option BadEntry = bad_entry n (taken ++ page_at page ∷ []) (index + 1) pages in
    let bad : BadEntry = record { index = index; page = page } in
    elim (cases_Bool (nat_lt page n && not (is_taken taken page))) [
      | inr fails ↦ absurd (not_none bad (sym (ap (λ (b : Bool). if b then rest else Some bad) fails) ∙ none))
      | inl passes ↦ All-cons (λ q. q < n) page pages (ltb-true page n (and_parts (nat_lt page n) (not (is_taken taken page)) passes).0) (pages_below n (index + 1) (taken ++ page_at page ∷ []) pages (sym (ap (λ (b : Bool). if b then rest else Some bad) passes) ∙ none))
    ]
