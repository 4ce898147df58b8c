-- Pages, segments and marks.
use Rattle.std.proofs.Common.{◌≡◌, inl, inr, ℕ, ◌+◌, ◌-◌, ◌/◌, ◌<◌, ◌≤◌, ◌||◌, Bool, true, false, List, [], ◌∷◌, ◌++◌, length, get_or, take, map, replicate, if◌then◌else◌, refl, sym, ◌∙◌, ap, subst, arith, add-one, append_assoc}
use Rattle.std.specs.List.{list_any}
use Rattle.std.specs.Int.{div_ceil}
use Rattle.std.proofs.Math.Bool.{or-false, or-true}
use Rattle.std.proofs.Math.ListN.{set}
use Rattle.std.proofs.lemmas.Bool.{cases_lt}
use Rattle.std.proofs.lemmas.Bool.Decides.{nat_tests}
use Rattle.std.proofs.lemmas.List.{length_push, length-set, length-replicate, get_or-replicate, get_or-set_same, get_or-set_other, take-append-le, take_all, append-nil}
use Rattle.std.proofs.lemmas.List.Folds.{list_any-append}
use Rattle.sg_disk.specs.Contents.{Segment, page_at}
use Rattle.sg_disk.specs.declared.places.TheConstants.{DATA, PAGE}
use Rattle.sg_pages.specs.Pages.{touches, is_taken, free_pages, Marks}

-- a segment more
pub taken_push : (taken : List Segment) (s : Segment) (page : ℕ) → is_taken (taken ++ s ∷ []) page ≡ (is_taken taken page || touches page s)
taken_push taken s page = list_any-append (touches page) taken (s ∷ []) ∙ ap (λ (b : Bool). list_any (touches page) taken || b) (or-false (touches page s))

-- a page takes bytes of itself and of no other
touches_itself : (page other : ℕ) → page ≡ other → touches page (page_at other) ≡ true
touches_itself page other same = grind (arith, nat_tests)

touches_below : (page other : ℕ) → page < other → touches page (page_at other) ≡ false
touches_below page other lt = grind (arith, nat_tests)

touches_above : (page other : ℕ) → other < page → touches page (page_at other) ≡ false
touches_above page other lt = grind (arith, nat_tests)

-- a segment more that takes no byte of a page, and one that does
untouched : (taken : List Segment) (s : Segment) (page : ℕ) → touches page s ≡ false → is_taken (taken ++ s ∷ []) page ≡ is_taken taken page
untouched taken s page free = taken_push taken s page ∙ ap (λ (b : Bool). is_taken taken page || b) free ∙ or-false (is_taken taken page)

touched : (taken : List Segment) (s : Segment) (page : ℕ) → touches page s ≡ true → is_taken (taken ++ s ∷ []) page ≡ true
touched taken s page taking = taken_push taken s page ∙ ap (λ (b : Bool). is_taken taken page || b) taking ∙ or-true (is_taken taken page)

-- no page is marked
pub marks_none : (marks : List Bool) (n : ℕ) → marks ≡ replicate n false → Marks [] marks
marks_none marks n is page lt = ap (λ (l : List Bool). get_or l page false) is ∙ get_or-replicate n page false false (omega (arith, lt, ap length is, length-replicate n false))

-- one page more is marked
pub marks_page : (taken : List Segment) (marks : List Bool) (page : ℕ) → page < length marks → Marks taken marks → Marks (taken ++ page_at page ∷ []) (set marks page true)
marks_page taken marks page inside are other lt = elim (cases_lt other page) [
  | inl below ↦ get_or-set_other marks page other true false (λ same. omega (arith, below, same)) ∙ are other (omega (arith, lt, length-set marks page true)) ∙ sym (untouched taken (page_at page) other (touches_below other page below))
  | inr from ↦ elim (cases_lt page other) [
    | inl above ↦ get_or-set_other marks page other true false (λ same. omega (arith, above, same)) ∙ are other (omega (arith, lt, length-set marks page true)) ∙ sym (untouched taken (page_at page) other (touches_above other page above))
    | inr upto ↦
        let same : other ≡ page = omega arith in
        ap (λ (k : ℕ). get_or (set marks page true) k false) same ∙ get_or-set_same marks page true false inside ∙ sym (touched taken (page_at page) other (touches_itself other page same))
  ]
]

-- one more of a list of pages
pub marks_more : (taken : List Segment) (pages : List ℕ) (i page : ℕ) (marks : List Bool) → map page_at (take (i + 1) pages) ≡ map page_at (take i pages) ++ page_at page ∷ [] → Marks ((taken ++ map page_at (take i pages)) ++ page_at page ∷ []) marks → Marks (taken ++ map page_at (take (i + 1) pages)) marks
marks_more taken pages i page marks more are =
    let same : taken ++ map page_at (take (i + 1) pages) ≡ (taken ++ map page_at (take i pages)) ++ page_at page ∷ [] = ap (λ (l : List Segment). taken ++ l) more ∙ sym (append_assoc taken (map page_at (take i pages)) (page_at page ∷ [])) in
    subst (λ (l : List Segment). Marks l marks) (sym same) are

-- how far the marking of a range has come: of its pages those below one are marked
pub record Marked (first next : ℕ) (old new : List Bool) : Type 0 where
  pub long : length new ≡ length old
  pub below : (page : ℕ) → page < first → get_or new page false ≡ get_or old page false
  pub within : (page : ℕ) → first ≤ page → page < next → get_or new page false ≡ true
  pub above : (page : ℕ) → next ≤ page → get_or new page false ≡ get_or old page false

pub marked_none : (first : ℕ) (old : List Bool) → Marked first first old old
marked_none first old = record {
  long = refl;
  below = λ page lt. refl;
  within = λ page le lt. absurd (omega (arith, le, lt));
  above = λ page le. refl;
}

pub marked_more : (first next : ℕ) (old new : List Bool) → first ≤ next → next < length new → Marked first next old new → Marked first (next + 1) old (set new next true)
marked_more first next old new up inside so_far = record {
  long = length-set new next true ∙ so_far.long;
  below = λ page lt. get_or-set_other new next page true false (λ same. omega (arith, lt, up, same)) ∙ so_far.below page lt;
  within = λ page le lt. elim (cases_lt page next) [
    | inl before ↦ get_or-set_other new next page true false (λ same. omega (arith, before, same)) ∙ so_far.within page le before
    | inr from ↦
        let same : page ≡ next = omega (arith, from, lt) in
        ap (λ (k : ℕ). get_or (set new next true) k false) same ∙ get_or-set_same new next true false inside
  ];
  above = λ page le. get_or-set_other new next page true false (λ same. omega (arith, le, same)) ∙ so_far.above page (omega (arith, le));
}

-- the pages of a range of bytes
touches_from : (page place n first : ℕ) → DATA ≤ place → first ≡ (place - DATA) / PAGE → page < first → touches page (record { place = place; size = n }) ≡ false
touches_from page place n first low is lt = grind (arith, nat_tests)

touches_upto : (page place n end : ℕ) → DATA ≤ place → end ≡ div_ceil (place - DATA + n) PAGE → end ≤ page → touches page (record { place = place; size = n }) ≡ false
touches_upto page place n end low is le = grind (arith, nat_tests)

touches_within : (page place n first end : ℕ) → DATA ≤ place → first ≡ (place - DATA) / PAGE → end ≡ div_ceil (place - DATA + n) PAGE → first ≤ page → page < end → touches page (record { place = place; size = n }) ≡ true
touches_within page place n first end low is_first is_end le lt = grind (arith, nat_tests)

pub marks_extent : (taken : List Segment) (place n first end : ℕ) (old new : List Bool) → DATA ≤ place → first ≡ (place - DATA) / PAGE → end ≡ div_ceil (place - DATA + n) PAGE → Marked first end old new → Marks taken old → Marks (taken ++ record { place = place; size = n } ∷ []) new
marks_extent taken place n first end old new low is_first is_end marked are page lt =
    let s : Segment = record { place = place; size = n } in
    let inside : page < length old = omega (arith, lt, marked.long) in
    elim (cases_lt page first) [
      | inl below ↦ marked.below page below ∙ are page inside ∙ sym (untouched taken s page (touches_from page place n first low is_first below))
      | inr from ↦ elim (cases_lt page end) [
        | inl within ↦ marked.within page from within ∙ sym (touched taken s page (touches_within page place n first end low is_first is_end from within))
        | inr above ↦ marked.above page above ∙ are page inside ∙ sym (untouched taken s page (touches_upto page place n end low is_end above))
      ]
    ]

-- the next page
pub free_taken : (taken : List Segment) (page : ℕ) → is_taken taken page ≡ true → free_pages taken (page + 1) ≡ free_pages taken page
free_taken taken page taking = ap (λ (k : ℕ). free_pages taken k) (add-one page) ∙ ap (λ (b : Bool). if b then free_pages taken page else free_pages taken page ++ page ∷ []) taking

pub free_more : (taken : List Segment) (page : ℕ) → is_taken taken page ≡ false → free_pages taken (page + 1) ≡ free_pages taken page ++ page ∷ []
free_more taken page free = ap (λ (k : ℕ). free_pages taken k) (add-one page) ∙ ap (λ (b : Bool). if b then free_pages taken page else free_pages taken page ++ page ∷ []) free

pub length-free_more : (taken : List Segment) (page : ℕ) → is_taken taken page ≡ false → length (free_pages taken (page + 1)) ≡ length (free_pages taken page) + 1
length-free_more taken page free = ap length (free_more taken page free) ∙ length_push (free_pages taken page) page

-- How far the search for the lowest free pages has come: those below a page were looked at, and so many are still wanted
pub record Lowest (taken : List Segment) (need page left : ℕ) (before pages : List ℕ) : Type 0 where
  pub found : pages ≡ before ++ take need (free_pages taken page)
  pub still : left ≡ need - length (free_pages taken page)

pub lowest_none : (taken : List Segment) (need : ℕ) (before : List ℕ) → Lowest taken need 0 need before before
lowest_none taken need before = record { found = sym (ap (λ (l : List ℕ). before ++ l) (take_all need [] (omega arith)) ∙ append-nil before); still = omega arith }

-- the next page is taken
pub lowest_taken : (taken : List Segment) (need page left : ℕ) (before pages : List ℕ) → is_taken taken page ≡ true → Lowest taken need page left before pages → Lowest taken need (page + 1) left before pages
lowest_taken taken need page left before pages taking so_far =
    let same : free_pages taken (page + 1) ≡ free_pages taken page = free_taken taken page taking in
    record {
      found = so_far.found ∙ ap (λ (l : List ℕ). before ++ take need l) (sym same);
      still = so_far.still ∙ ap (λ (l : List ℕ). need - length l) (sym same);
    }

-- it is free, and enough were found
pub lowest_enough : (taken : List Segment) (need page : ℕ) (before pages : List ℕ) → is_taken taken page ≡ false → Lowest taken need page 0 before pages → Lowest taken need (page + 1) 0 before pages
lowest_enough taken need page before pages free so_far =
    let enough : need ≤ length (free_pages taken page) = omega (arith, so_far.still) in
    let more : free_pages taken (page + 1) ≡ free_pages taken page ++ page ∷ [] = free_more taken page free in
    record {
      found = so_far.found ∙ ap (λ (l : List ℕ). before ++ l) (sym (take-append-le need (free_pages taken page) (page ∷ []) enough) ∙ ap (λ (l : List ℕ). take need l) (sym more));
      still = omega (arith, so_far.still, length-free_more taken page free);
    }

-- it is free, and one more is wanted
pub lowest_more : (taken : List Segment) (need page left : ℕ) (before pages new : List ℕ) → is_taken taken page ≡ false → 0 < left → new ≡ pages ++ page ∷ [] → Lowest taken need page left before pages → Lowest taken need (page + 1) (left - 1) before new
lowest_more taken need page left before pages new free some pushed so_far =
    let wanted : length (free_pages taken page) < need = omega (arith, some, so_far.still) in
    let more : free_pages taken (page + 1) ≡ free_pages taken page ++ page ∷ [] = free_more taken page free in
    let before_it : take need (free_pages taken page) ≡ free_pages taken page = take_all need (free_pages taken page) (omega (arith, wanted)) in
    let with_it : take need (free_pages taken (page + 1)) ≡ free_pages taken page ++ page ∷ [] = take_all need (free_pages taken (page + 1)) (omega (arith, wanted, length-free_more taken page free)) ∙ more in
    record {
      found = pushed ∙ ap (λ (l : List ℕ). l ++ page ∷ []) (so_far.found ∙ ap (λ (l : List ℕ). before ++ l) before_it) ∙ append_assoc before (free_pages taken page) (page ∷ []) ∙ ap (λ (l : List ℕ). before ++ l) (sym with_it);
      still = omega (arith, so_far.still, some, length-free_more taken page free);
    }

-- enough were found, whatever the next page is
pub lowest_over : (taken : List Segment) (need page left : ℕ) (before pages : List ℕ) → left ≡ 0 → Lowest taken need page left before pages → Lowest taken need (page + 1) left before pages
lowest_over taken need page left before pages none so_far = by_mark (is_taken taken page) refl
  where
    by_mark : (b : Bool) → is_taken taken page ≡ b → Lowest taken need (page + 1) left before pages
    by_mark true is = lowest_taken taken need page left before pages is so_far
    by_mark false is =
        let At : ℕ → ℕ → Type 0 = λ p k. Lowest taken need p k before pages in
        subst (At (page + 1)) (sym none) (lowest_enough taken need page before pages is (subst (At page) none so_far))
