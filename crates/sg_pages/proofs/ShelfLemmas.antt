-- Where the files of a shelf stand.
use Rattle.std.proofs.Common.{◌≡◌, ◌*◌, ◌/◌, ℕ, ◌+◌, ◌<◌, ◌≤◌, ◌==◌, Bool, true, false, cond, List, [], ◌∷◌, ◌++◌, length, get_or, take, drop, map, ◌||◌, sum_by, find, filter, None, Some, if◌then◌else◌, refl, sym, ◌∙◌, ap, subst, arith, length-append, length-drop, append_assoc}
use Rattle.std.proofs.lemmas.List.{drop_more, at_drop_all, drop-drop, take-append-le, drop-append-le, take-append-drop, map-append, take_more, take-take, take_all, append-nil}
use Rattle.std.proofs.lemmas.List.Sums.{sum_by-append, sum_by-cons, sum_by_more}
use Rattle.std.proofs.lemmas.List.Folds.{list_any-append}
use Rattle.std.proofs.lemmas.Grind.{flat_map-append}
use Rattle.std.proofs.lemmas.List.Elements.{filter-append}
use Rattle.std.proofs.Math.Bool.{or-true}
use Rattle.std.specs.List.{flat_map}
use Rattle.sg_base.specs.declared.file.Listed.{Listed}
use Rattle.sg_disk.specs.Contents.{Segment, Stand, IsRoom, page_at, taken_at}
use Rattle.sg_disk.specs.declared.places.TheConstants.{PAGE}
use Rattle.sg_disk.specs.Contents.{Extent, Pages}
use Rattle.sg_placing.specs.Placing.{same_file, is_listed}
use Rattle.sg_placing.specs.declared.placed.Placed.{Placed}
use Rattle.sg_pages.specs.Pages.{needed, touches, is_taken, Marks}
use Rattle.sg_pages.specs.Shelves.{FileAt, Shelved, IsFilled, all_taken_at, extent_of, pages_for, stand_in, stands_in, stands}

-- how far the search for a file has come
pub record Finds (file : Listed) (pages : List ℕ) (files : List Placed) (i first : ℕ) : Type 0 where
  pub rest : find (λ f. same_file f.file file) (stands_in pages files) ≡ find (λ f. same_file f.file file) (stands_in (drop first pages) (drop i files))

pub finds_none : (file : Listed) (pages : List ℕ) (files : List Placed) → Finds file pages files 0 0
finds_none file pages files = record { rest = refl }

-- what the next file says of the whole
finds_step : (file : Listed) (pages : List ℕ) (files : List Placed) (i first : ℕ) (p : Placed) → i < length files → p ≡ get_or files i p → Finds file pages files i first
    → find (λ f. same_file f.file file) (stands_in pages files) ≡ cond (same_file p.file file) (Some (record { file = p.file; stand = stand_in (drop first pages) p })) (find (λ f. same_file f.file file) (stands_in (drop (first + pages_for p) pages) (drop (i + 1) files)))
finds_step file pages files i first p lt is so_far =
    let here : drop i files ≡ p ∷ drop (i + 1) files = drop_more files i p lt ∙ ap (λ (q : Placed). q ∷ drop (i + 1) files) (sym is) in
    let further : drop (pages_for p) (drop first pages) ≡ drop (first + pages_for p) pages = drop-drop (pages_for p) first pages in
    so_far.rest ∙ ap (λ (l : List Placed). find (λ f. same_file f.file file) (stands_in (drop first pages) l)) here ∙ ap (λ (l : List ℕ). cond (same_file p.file file) (Some (record { file = p.file; stand = stand_in (drop first pages) p })) (find (λ f. same_file f.file file) (stands_in l (drop (i + 1) files)))) further

pub finds_more : (file : Listed) (pages : List ℕ) (files : List Placed) (i first next : ℕ) (p : Placed) → i < length files → p ≡ get_or files i p → same_file p.file file ≡ false → next ≡ first + pages_for p → Finds file pages files i first → Finds file pages files (i + 1) next
finds_more file pages files i first next p lt is other at so_far = record {
  rest = finds_step file pages files i first p lt is so_far ∙ ap (λ (b : Bool). cond b (Some (record { file = p.file; stand = stand_in (drop first pages) p })) (find (λ f. same_file f.file file) (stands_in (drop (first + pages_for p) pages) (drop (i + 1) files)))) other ∙ ap (λ (k : ℕ). find (λ f. same_file f.file file) (stands_in (drop k pages) (drop (i + 1) files))) (sym at);
}

pub finds_it : (file : Listed) (pages : List ℕ) (files : List Placed) (i first : ℕ) (p : Placed) → i < length files → p ≡ get_or files i p → same_file p.file file ≡ true → Finds file pages files i first → Some (record { file = p.file; stand = stand_in (drop first pages) p }) ≡ find (λ f. same_file f.file file) (stands_in pages files)
finds_it file pages files i first p lt is same so_far =
    sym (finds_step file pages files i first p lt is so_far ∙ ap (λ (b : Bool). cond b (Some (record { file = p.file; stand = stand_in (drop first pages) p })) (find (λ f. same_file f.file file) (stands_in (drop (first + pages_for p) pages) (drop (i + 1) files)))) same)

pub finds_no : (file : Listed) (pages : List ℕ) (files : List Placed) (i first : ℕ) → length files ≤ i → Finds file pages files i first → None ≡ find (λ f. same_file f.file file) (stands_in pages files)
finds_no file pages files i first le so_far = sym (so_far.rest ∙ at_drop_all (λ (l : List Placed). find (λ f. same_file f.file file) (stands_in (drop first pages) l)) files i le)

-- a file whose pages are in front of others
stand_front : (pages more : List ℕ) (p : Placed) → pages_for p ≤ length pages → stand_in (pages ++ more) p ≡ stand_in pages p
stand_front pages more p le = by_place (p.place == 0) refl
  where
    by_place : (b : Bool) → p.place == 0 ≡ b → (if p.place == 0 then Pages (take (needed p.file.length) (pages ++ more)) else Extent p.place) ≡ (if p.place == 0 then Pages (take (needed p.file.length) pages) else Extent p.place)
    by_place true is =
        let enough : needed p.file.length ≤ length pages = omega (arith, le, ap (λ (b : Bool). if b then needed p.file.length else 0) is) in
        ap (λ (l : List ℕ). if p.place == 0 then Pages l else Extent p.place) (take-append-le (needed p.file.length) pages more enough)
    by_place false is = ap (λ (b : Bool). if b then Pages (take (needed p.file.length) (pages ++ more)) else Extent p.place) is ∙ ap (λ (b : Bool). if b then Pages (take (needed p.file.length) pages) else Extent p.place) (sym is)

-- a file more, with its pages
pub stands_more : (pages more : List ℕ) (files : List Placed) (p : Placed) → length pages ≡ sum_by pages_for files → stands_in (pages ++ more) (files ++ p ∷ []) ≡ stands_in pages files ++ record { file = p.file; stand = stand_in more p } ∷ []
stands_more pages more [] p long =
    let none : pages ≡ [] = empty pages long in
    ap (λ (l : List ℕ). record { file = p.file; stand = stand_in (l ++ more) p } ∷ []) none
  where
    empty : (xs : List ℕ) → length xs ≡ 0 → xs ≡ []
    empty [] is = refl
    empty (x ∷ xs) is = absurd (omega (arith, is))
stands_more pages more (f ∷ files) p long =
    let here : pages_for f ≤ length pages = omega (arith, long, sum_by-cons pages_for f files) in
    let rest : length (drop (pages_for f) pages) ≡ sum_by pages_for files = omega (arith, long, sum_by-cons pages_for f files, length-drop (pages_for f) pages) in
    ap (λ (s : Stand). record { file = f.file; stand = s } ∷ stands_in (drop (pages_for f) (pages ++ more)) (files ++ p ∷ [])) (stand_front pages more f here)
    ∙ ap (λ (l : List ℕ). record { file = f.file; stand = stand_in pages f } ∷ stands_in l (files ++ p ∷ [])) (drop-append-le (pages_for f) pages more here)
    ∙ ap (λ (l : List FileAt). record { file = f.file; stand = stand_in pages f } ∷ l) (stands_more (drop (pages_for f) pages) more files p rest)

pub filled_more : (pages more : List ℕ) (files : List Placed) (p : Placed) → length pages ≡ sum_by pages_for files → length more ≡ pages_for p → length (pages ++ more) ≡ sum_by pages_for (files ++ p ∷ [])
filled_more pages more files p long is = omega (arith, long, is, length-append pages more, sum_by-append pages_for files (p ∷ []), sum_by-cons pages_for p [])

or_swap : (t e d : Bool) → (t || (e || d)) ≡ (e || (t || d))
or_swap true e d = sym (or-true e)
or_swap false e d = refl

or_regroup : (t e d : Bool) → (t || (e || d)) ≡ ((t || e) || d)
or_regroup true e d = refl
or_regroup false e d = refl

-- what files take: their ranges, and their pages
pub taken_shelf : (page : ℕ) (pages : List ℕ) (files : List Placed) → length pages ≡ sum_by pages_for files → is_taken (all_taken_at (stands_in pages files)) page ≡ (is_taken (flat_map extent_of files) page || is_taken (map page_at pages) page)
taken_shelf page [] [] long = refl
taken_shelf page (q ∷ pages) [] long = absurd (omega (arith, long))
taken_shelf page pages (f ∷ files) long =
    let E : Bool = is_taken (flat_map extent_of files) page in
    let rest_long : length (drop (pages_for f) pages) ≡ sum_by pages_for files = omega (arith, long, sum_by-cons pages_for f files, length-drop (pages_for f) pages) in
    let rest : is_taken (all_taken_at (stands_in (drop (pages_for f) pages) files)) page ≡ (E || is_taken (map page_at (drop (pages_for f) pages)) page) = taken_shelf page (drop (pages_for f) pages) files rest_long in
    list_any-append (touches page) (taken_at f.file.length (stand_in pages f)) (all_taken_at (stands_in (drop (pages_for f) pages) files))
    ∙ ap (λ (b : Bool). is_taken (taken_at f.file.length (stand_in pages f)) page || b) rest
    ∙ by_place (f.place == 0) E
    ∙ ap (λ (b : Bool). b || is_taken (map page_at pages) page) (sym (list_any-append (touches page) (extent_of f) (flat_map extent_of files)))
  where
    whole : (k : ℕ) → is_taken (map page_at pages) page ≡ (is_taken (map page_at (take k pages)) page || is_taken (map page_at (drop k pages)) page)
    whole k = ap (λ (l : List ℕ). is_taken (map page_at l) page) (sym (take-append-drop k pages)) ∙ ap (λ (l : List Segment). is_taken l page) (map-append page_at (take k pages) (drop k pages)) ∙ list_any-append (touches page) (map page_at (take k pages)) (map page_at (drop k pages))

    by_place : (b : Bool) (e : Bool) → (is_taken (taken_at f.file.length (if b then Pages (take (needed f.file.length) pages) else Extent f.place)) page || (e || is_taken (map page_at (drop (if b then needed f.file.length else 0) pages)) page)) ≡ ((is_taken (if b then [] else record { place = f.place; size = f.file.length } ∷ []) page || e) || is_taken (map page_at pages) page)
    by_place true e =
        let k : ℕ = needed f.file.length in
        or_swap (is_taken (map page_at (take k pages)) page) e (is_taken (map page_at (drop k pages)) page) ∙ ap (λ (b : Bool). e || b) (sym (whole k))
    by_place false e = or_regroup (is_taken (record { place = f.place; size = f.file.length } ∷ []) page) e (is_taken (map page_at pages) page)

-- one more of a list of files is marked
pub ranges_more : (taken : List Segment) (files : List Placed) (i : ℕ) (d : Placed) (marks : List Bool) → i < length files → Marks ((taken ++ flat_map extent_of (take i files)) ++ extent_of (get_or files i d)) marks → Marks (taken ++ flat_map extent_of (take (i + 1) files)) marks
ranges_more taken files i d marks lt are =
    let more : flat_map extent_of (take (i + 1) files) ≡ flat_map extent_of (take i files) ++ extent_of (get_or files i d) = ap (flat_map extent_of) (take_more files i d lt) ∙ flat_map-append extent_of (take i files) (get_or files i d ∷ []) ∙ ap (λ (l : List Segment). flat_map extent_of (take i files) ++ l) (append-nil (extent_of (get_or files i d))) in
    let same : (taken ++ flat_map extent_of (take i files)) ++ extent_of (get_or files i d) ≡ taken ++ flat_map extent_of (take (i + 1) files) = append_assoc taken (flat_map extent_of (take i files)) (extent_of (get_or files i d)) ∙ ap (λ (l : List Segment). taken ++ l) (sym more) in
    subst (λ (l : List Segment). Marks l marks) same are

-- all that a shelf's files take is marked
pub marks_shelf : (taken : List Segment) (pages : List ℕ) (files : List Placed) (marks : List Bool) → length pages ≡ sum_by pages_for files → Marks ((taken ++ flat_map extent_of files) ++ map page_at pages) marks → Marks (taken ++ all_taken_at (stands_in pages files)) marks
marks_shelf taken pages files marks long are page lt =
    let E : Bool = is_taken (flat_map extent_of files) page in
    let P : Bool = is_taken (map page_at pages) page in
    are page lt
    ∙ list_any-append (touches page) (taken ++ flat_map extent_of files) (map page_at pages)
    ∙ ap (λ (b : Bool). b || P) (list_any-append (touches page) taken (flat_map extent_of files))
    ∙ sym (or_regroup (is_taken taken page) E P)
    ∙ ap (λ (b : Bool). is_taken taken page || b) (sym (taken_shelf page pages files long))
    ∙ sym (list_any-append (touches page) taken (all_taken_at (stands_in pages files)))

-- a file needs no more of the pages behind its first than its own
pub stand_own : (pages : List ℕ) (p : Placed) → stand_in (take (pages_for p) pages) p ≡ stand_in pages p
stand_own pages p = by_place (p.place == 0)
  where
    by_place : (b : Bool) → (if b then Pages (take (needed p.file.length) (take (if b then needed p.file.length else 0) pages)) else Extent p.place) ≡ (if b then Pages (take (needed p.file.length) pages) else Extent p.place)
    by_place true = ap (λ (l : List ℕ). Pages l) (take-take (needed p.file.length) (needed p.file.length) pages (omega arith))
    by_place false = refl

-- a file more, behind those whose pages come first
stands_push : (pages : List ℕ) (files : List Placed) (p : Placed) → stands_in pages (files ++ p ∷ []) ≡ stands_in pages files ++ record { file = p.file; stand = stand_in (drop (sum_by pages_for files) pages) p } ∷ []
stands_push pages [] p = refl
stands_push pages (f ∷ files) p =
    let further : drop (sum_by pages_for files) (drop (pages_for f) pages) ≡ drop (sum_by pages_for (f ∷ files)) pages = drop-drop (sum_by pages_for files) (pages_for f) pages ∙ ap (λ (k : ℕ). drop k pages) (sym (sum_by-cons pages_for f files)) in
    ap (λ (l : List FileAt). record { file = f.file; stand = stand_in pages f } ∷ l) (stands_push (drop (pages_for f) pages) files p)
    ∙ ap (λ (l : List ℕ). record { file = f.file; stand = stand_in pages f } ∷ stands_in (drop (pages_for f) pages) files ++ record { file = p.file; stand = stand_in l p } ∷ []) further

-- where the first files of a shelf stand, with one more
pub stands_take_more : (pages : List ℕ) (files : List Placed) (i : ℕ) (d : Placed) → i < length files → stands_in pages (take (i + 1) files) ≡ stands_in pages (take i files) ++ record { file = (get_or files i d).file; stand = stand_in (drop (sum_by pages_for (take i files)) pages) (get_or files i d) } ∷ []
stands_take_more pages files i d lt = ap (stands_in pages) (take_more files i d lt) ∙ stands_push pages (take i files) (get_or files i d)

-- How far the choice of files has come: of the first i files those are kept that are listed
pub record Keeps (files : List Listed) (from kept : Shelved) (i first : ℕ) : Type 0 where
  pub first_is : first ≡ sum_by pages_for (take i from.files)
  pub stands_are : stands kept ≡ filter (λ f. is_listed files f.file) (stands_in from.pages (take i from.files))
  pub filled : IsFilled kept
  pub few : length kept.files ≤ i
  pub pages : length kept.pages ≤ first

pub keeps_none : (files : List Listed) (from kept : Shelved) → kept ≡ record { files = []; pages = [] } → Keeps files from kept 0 0
keeps_none files from kept is =
    let Start : Shelved → Type 0 = λ k. Keeps files from k 0 0 in
    subst Start (sym is) (record { first_is = refl; stands_are = refl; filled = refl; few = omega arith; pages = omega arith })

pub keeps_more : (files : List Listed) (from kept new : Shelved) (i first next : ℕ) (p d : Placed) → i < length from.files → p ≡ get_or from.files i d → next ≡ first + pages_for p → stands new ≡ stands kept ++ filter (λ f. is_listed files f.file) (record { file = p.file; stand = stand_in (drop first from.pages) p } ∷ []) → IsFilled new → length new.files ≤ length kept.files + 1 → length new.pages ≤ length kept.pages + pages_for p → Keeps files from kept i first → Keeps files from new (i + 1) next
keeps_more files from kept new i first next p d lt is at stood filled few pages so_far =
    let one : FileAt = record { file = p.file; stand = stand_in (drop first from.pages) p } in
    let same : record { file = p.file; stand = stand_in (drop (sum_by pages_for (take i from.files)) from.pages) p } ≡ one = ap (λ (k : ℕ). record { file = p.file; stand = stand_in (drop k from.pages) p }) (sym so_far.first_is) in
    let more : stands_in from.pages (take (i + 1) from.files) ≡ stands_in from.pages (take i from.files) ++ one ∷ [] = stands_take_more from.pages from.files i d lt ∙ ap (λ (q : Placed). stands_in from.pages (take i from.files) ++ record { file = q.file; stand = stand_in (drop (sum_by pages_for (take i from.files)) from.pages) q } ∷ []) (sym is) ∙ ap (λ (f : FileAt). stands_in from.pages (take i from.files) ++ f ∷ []) same in
    record {
      first_is = at ∙ ap (λ (k : ℕ). k + pages_for p) so_far.first_is ∙ ap (λ (q : Placed). sum_by pages_for (take i from.files) + pages_for q) is ∙ sym (sum_by_more pages_for from.files i d lt);
      stands_are = stood ∙ ap (λ (l : List FileAt). l ++ filter (λ f. is_listed files f.file) (one ∷ [])) so_far.stands_are ∙ sym (filter-append (λ f. is_listed files f.file) (stands_in from.pages (take i from.files)) (one ∷ [])) ∙ ap (λ (l : List FileAt). filter (λ f. is_listed files f.file) l) (sym more);
      filled = filled;
      few = omega (arith, few, so_far.few);
      pages = omega (arith, pages, so_far.pages, at);
    }

pub keeps_all : (files : List Listed) (from kept : Shelved) (i first : ℕ) → length from.files ≤ i → Keeps files from kept i first → stands kept ≡ filter (λ f. is_listed files f.file) (stands from)
keeps_all files from kept i first le so_far = so_far.stands_are ∙ ap (λ (l : List Placed). filter (λ f. is_listed files f.file) (stands_in from.pages l)) (take_all i from.files le)

-- what the files of two shelves take is marked, one shelf behind the other
pub marks_both : (current staged : Shelved) (marks : List Bool) → Marks (([] ++ all_taken_at (stands current)) ++ all_taken_at (stands staged)) marks → Marks (all_taken_at (stands current ++ stands staged)) marks
marks_both current staged marks are = subst (λ (l : List Segment). Marks l marks) (sym (flat_map-append (λ (f : FileAt). taken_at f.file.length f.stand) (stands current) (stands staged))) are

-- a data area has whole pages
pub whole_pages : (room n : ℕ) → IsRoom room → n ≡ room / PAGE → room ≡ PAGE * n
whole_pages room n is at = let whole = is.whole in omega arith
