-- A table and a map that stand for the files of a snapshot have no fault.
use Rattle.std.proofs.Common.{◌≡◌, ◌≢◌, ◌⊎◌, inl, inr, ℕ, zero, suc, ◌+◌, ◌*◌, ◌/◌, ◌<◌, ◌≤◌, ◌==◌, nat_lt, nat_le, ◌&&◌, ◌||◌, not, Bool, true, false, List, [], ◌∷◌, ◌++◌, length, get_or, map, sum_by, None, Some, if◌then◌else◌, All, AllPairs, refl, sym, ◌∙◌, ap, subst, arith, append_assoc, length-append}
use Rattle.std.specs.List.{flat_map}
use Rattle.std.proofs.lemmas.Bool.{cases_eq, cases_Bool, and_from, lt-ltb, le-leb, eq-eqb, ne_eqb, le-ltb}
use Rattle.std.proofs.lemmas.List.Elements.{All-append, All-cons}
use Rattle.std.proofs.lemmas.List.Folds.{list_any_none}
use Rattle.std.proofs.lemmas.List.Kept.{AllPairs-cons}
use Rattle.std.proofs.lemmas.List.Sums.{list_all-from_AllPass, sum_by-append, sum_by-cons}
use Rattle.sg_base.specs.declared.limits.TheConstants.{MAX_FILE_LEN}
use Rattle.sg_disk.specs.Contents.{Segment, Stand, StoredFile, IsInside, page_at, taken_at, taken, all_taken}
use Rattle.sg_disk.specs.Contents.{Extent, Pages}
use Rattle.sg_disk.specs.StandsFor.{place_of}
use Rattle.sg_disk.specs.declared.places.TheConstants.{DATA, PAGE, ENTRY_LEN}
use Rattle.sg_placing.specs.Placing.{segment_of, placed_of, end_of}
use Rattle.sg_placing.specs.declared.placed.Placed.{Placed}
use Rattle.sg_pages.specs.Pages.{needed, touches, is_taken}
use Rattle.sg_pages.specs.Maps.{bad_entry}
use Rattle.sg_pages.specs.Shelves.{pages_for, extent_of}
use Rattle.sg_pages.specs.declared.maps.BadEntry.{BadEntry}
use Rattle.sg_slots.proofs.SlotLemmas.{damage_at}
use Rattle.sg_contents.specs.Lawful.{AreBeside, IsStored, pages_at, all_pages}
use Rattle.sg_contents.proofs.Pairs.{pairs_tail, pairs_front, pairs_back, pairs_cross, pairs_append, pairs_map, one_range, one_pages, taken_pages, taken_ranges, all_taken_of}
use Rattle.sg_paged_slots.specs.PagedDamage.{is_beside, has_room, is_file_entry, files_damage}

beside_swapped : (s t : Segment) → AreBeside s t → AreBeside t s
beside_swapped s t (inl below) = inr below
beside_swapped s t (inr above) = inl above

-- two ranges of placed files do
abbrev pub RangesBeside : Placed → Placed → Type 0
RangesBeside p q = p.place ≢ 0 → q.place ≢ 0 → AreBeside (segment_of p) (segment_of q)

-- a file of the contents, as a shelf counts its pages
pub pages_counted : (room : ℕ) (f : StoredFile) → IsStored f → All (IsInside room) (taken f) → pages_for (placed_of f) ≡ length (pages_at f.stand)
pages_counted room f stored inside = by_stand f.listed.length f.stand stored inside
  where
    by_stand : (n : ℕ) (stand : Stand) → ((pages : List ℕ) → stand ≡ Pages pages → length pages ≡ needed n) → All (IsInside room) (taken_at n stand) → (if place_of stand == 0 then needed n else 0) ≡ length (pages_at stand)
    by_stand n (Pages pages) enough inside = sym (enough pages refl)
    by_stand n (Extent place) enough inside =
        let here : IsInside room (record { place = place; size = n }) = inside 0 (record { place = place; size = n }) (omega arith) in
        ap (λ (b : Bool). if b then needed n else 0) (ne_eqb place 0 (λ none. omega (arith, here.0, none)))

pub all_counted : (room : ℕ) (files : List StoredFile) → All IsStored files → All (λ f. All (IsInside room) (taken f)) files → sum_by pages_for (map placed_of files) ≡ length (all_pages files)
all_counted room [] stored inside = refl
all_counted room (f ∷ files) stored inside =
    let first : pages_for (placed_of f) ≡ length (pages_at f.stand) = pages_counted room f (stored zero f (omega arith)) (inside zero f (omega arith)) in
    let rest : sum_by pages_for (map placed_of files) ≡ length (all_pages files) = all_counted room files (λ k d lt. stored (suc k) d (omega (arith, lt))) (λ k d lt. inside (suc k) d (omega (arith, lt))) in
    omega (arith, first, rest, sum_by-cons pages_for (placed_of f) (map placed_of files), length-append (pages_at f.stand) (all_pages files))

-- ranges of files that take no byte twice
pub ranges_apart : (files : List StoredFile) → AllPairs AreBeside (all_taken files) → AllPairs RangesBeside (map placed_of files)
ranges_apart [] apart = λ i j d lt below. absurd (omega (arith, below))
ranges_apart (f ∷ files) apart =
    let cross : All (λ s. All (AreBeside s) (all_taken files)) (taken f) = pairs_cross AreBeside (taken f) (all_taken files) apart in
    AllPairs-cons RangesBeside (placed_of f) (map placed_of files) (λ k d lt some other. taken_ranges (AreBeside (segment_of (placed_of f))) files (one_range (λ s. All (AreBeside s) (all_taken files)) f.listed.length f.stand cross some) k d lt other) (ranges_apart files (pairs_back AreBeside (taken f) (all_taken files) apart))

-- an entry that is beside the earlier ones
either_true : (a b c : Bool) → (a ≡ true) ⊎ ((b ≡ true) ⊎ (c ≡ true)) → (a || (b || c)) ≡ true
either_true a b c (inl one) = ap (λ (x : Bool). x || (b || c)) one
either_true a b c (inr (inl two)) = elim (cases_Bool a) [
  | inl holds ↦ ap (λ (x : Bool). x || (b || c)) holds
  | inr fails ↦ ap (λ (x : Bool). x || (b || c)) fails ∙ ap (λ (x : Bool). x || c) two
]
either_true a b c (inr (inr three)) = elim (cases_Bool a) [
  | inl holds ↦ ap (λ (x : Bool). x || (b || c)) holds
  | inr fails ↦ ap (λ (x : Bool). x || (b || c)) fails ∙ elim (cases_Bool b) [
    | inl holds ↦ ap (λ (x : Bool). x || c) holds
    | inr fails ↦ ap (λ (x : Bool). x || c) fails ∙ three
  ]
]

clear_either : (e p : Placed) → AreBeside (segment_of e) (segment_of p) → (nat_le (end_of e) p.place ≡ true) ⊎ (nat_le (end_of p) e.place ≡ true)
clear_either e p (inl below) = inl (le-leb (end_of e) p.place below)
clear_either e p (inr above) = inr (le-leb (end_of p) e.place above)

beside_pass : (earlier : List Placed) (p : Placed) → p.place ≢ 0 → All (λ e. RangesBeside e p) earlier → is_beside earlier p ≡ true
beside_pass earlier p some clear = list_all-from_AllPass (λ (e : Placed). e.place == 0 || (nat_le (end_of e) p.place || nat_le (end_of p) e.place)) earlier (λ k d lt.
    let e : Placed = get_or earlier k d in
    elim (cases_eq e.place 0) [
      | inl none ↦ either_true (e.place == 0) (nat_le (end_of e) p.place) (nat_le (end_of p) e.place) (inl (eq-eqb e.place 0 none))
      | inr other ↦ either_true (e.place == 0) (nat_le (end_of e) p.place) (nat_le (end_of p) e.place) (inr (clear_either e p (clear k d lt other some)))
    ])

-- an entry has room
room_passes : (room : ℕ) (earlier : List Placed) (f : StoredFile) → All (IsInside room) (taken f) → sum_by pages_for earlier + pages_for (placed_of f) ≤ room / PAGE → All (λ e. RangesBeside e (placed_of f)) earlier → has_room room earlier (placed_of f) ≡ true
room_passes room earlier f inside few clear =
    let p : Placed = placed_of f in
    let rest : Bool = nat_le DATA p.place && (nat_le (end_of p) (DATA + room) && is_beside earlier p) in
    and_from (nat_le (sum_by pages_for earlier + pages_for p) (room / PAGE)) (p.place == 0 || rest) (le-leb (sum_by pages_for earlier + pages_for p) (room / PAGE) few) (elim (cases_eq p.place 0) [
      | inl none ↦ ap (λ (b : Bool). b || rest) (eq-eqb p.place 0 none)
      | inr some ↦
          let here : IsInside room (segment_of p) = one_range (IsInside room) f.listed.length f.stand inside some in
          ap (λ (b : Bool). b || rest) (ne_eqb p.place 0 some) ∙ and_from (nat_le DATA p.place) (nat_le (end_of p) (DATA + room) && is_beside earlier p) (le-leb DATA p.place here.0) (and_from (nat_le (end_of p) (DATA + room)) (is_beside earlier p) (le-leb (end_of p) (DATA + room) here.1) (beside_pass earlier p some clear))
    ])

-- what a table's entries keep, behind earlier ones
pub record FitFiles (room before : ℕ) (earlier : List Placed) (files : List StoredFile) : Type 0 where
  pub above : All (λ f. before < f.listed.media.0) files
  pub ascending : AllPairs (λ f g. f.listed.media.0 < g.listed.media.0) files
  pub lengths : All (λ f. (1 ≤ f.listed.length) × (f.listed.length ≤ MAX_FILE_LEN)) files
  pub inside : All (λ f. All (IsInside room) (taken f)) files
  pub few : sum_by pages_for earlier + sum_by pages_for (map placed_of files) ≤ room / PAGE
  pub apart : AllPairs RangesBeside (earlier ++ map placed_of files)

fit_rest : (room before : ℕ) (earlier : List Placed) (f : StoredFile) (files : List StoredFile) → FitFiles room before earlier (f ∷ files) → FitFiles room f.listed.media.0 (earlier ++ placed_of f ∷ []) files
fit_rest room before earlier f files fit = record {
  above = λ k d lt. fit.ascending zero (suc k) d (omega arith) (omega (arith, lt));
  ascending = pairs_tail (λ (f g : StoredFile). f.listed.media.0 < g.listed.media.0) f files fit.ascending;
  lengths = λ k d lt. fit.lengths (suc k) d (omega (arith, lt));
  inside = λ k d lt. fit.inside (suc k) d (omega (arith, lt));
  few = omega (arith, fit.few, sum_by-append pages_for earlier (placed_of f ∷ []), sum_by-cons pages_for (placed_of f) [], sum_by-cons pages_for (placed_of f) (map placed_of files));
  apart = subst (AllPairs RangesBeside) (sym (append_assoc earlier (placed_of f ∷ []) (map placed_of files))) fit.apart;
}

pub files_pass : (room place before : ℕ) (earlier : List Placed) (files : List StoredFile) → FitFiles room before earlier files → files_damage room place before earlier (map placed_of files) ≡ None
files_pass room place before earlier [] fit = refl
files_pass room place before earlier (f ∷ files) fit =
    let p : Placed = placed_of f in
    let long = fit.lengths zero f (omega arith) in
    let cross = pairs_cross RangesBeside earlier (map placed_of (f ∷ files)) fit.apart in
    let room_is : has_room room earlier p ≡ true = room_passes room earlier f (fit.inside zero f (omega arith)) (omega (arith, fit.few, sum_by-cons pages_for p (map placed_of files))) (λ k d lt. cross k d lt zero p (omega arith)) in
    let passes : is_file_entry room before earlier p ≡ true =
    and_from (nat_lt before p.file.media.0) (nat_le 1 p.file.length && (nat_le p.file.length MAX_FILE_LEN && has_room room earlier p)) (lt-ltb before p.file.media.0 (fit.above zero f (omega arith)))
    (and_from (nat_le 1 p.file.length) (nat_le p.file.length MAX_FILE_LEN && has_room room earlier p) (le-leb 1 p.file.length long.0)
    (and_from (nat_le p.file.length MAX_FILE_LEN) (has_room room earlier p) (le-leb p.file.length MAX_FILE_LEN long.1) room_is)) in
    ap (λ (b : Bool). if b then files_damage room (place + ENTRY_LEN) p.file.media.0 (earlier ++ p ∷ []) (map placed_of files) else Some (damage_at place p.file.media.0)) passes
    ∙ files_pass room (place + ENTRY_LEN) p.file.media.0 (earlier ++ p ∷ []) files (fit_rest room before earlier f files fit)

-- a page that a segment is clear of isn't touched by it
untouched : (q : ℕ) (s : Segment) → AreBeside s (page_at q) → touches q s ≡ false
untouched q s (inl below) = and_false (nat_lt s.place (DATA + PAGE * q + PAGE)) (nat_lt (DATA + PAGE * q) (s.place + s.size)) (inr (le-ltb (DATA + PAGE * q) (s.place + s.size) below))
  where
    and_false : (a b : Bool) → (a ≡ false) ⊎ (b ≡ false) → (a && b) ≡ false
    and_false a b (inl first) = ap (λ (x : Bool). x && b) first
    and_false a b (inr second) = elim (cases_Bool a) [
      | inl holds ↦ ap (λ (x : Bool). x && b) holds ∙ second
      | inr other ↦ ap (λ (x : Bool). x && b) other
    ]
untouched q s (inr above) = ap (λ (x : Bool). x && nat_lt (DATA + PAGE * q) (s.place + s.size)) (le-ltb s.place (DATA + PAGE * q + PAGE) above)

-- pages that no segment touches, and none twice, are a map without a fault
pub pages_pass : (n index : ℕ) (segments : List Segment) (pages : List ℕ) → All (λ q. q < n) pages → All (λ q. All (λ s. AreBeside s (page_at q)) segments) pages → AllPairs (λ p q. AreBeside (page_at p) (page_at q)) pages → bad_entry n segments index pages ≡ None
pages_pass n index segments [] below clear apart = refl
pages_pass n index segments (q ∷ pages) below clear apart =
    let free : is_taken segments q ≡ false = list_any_none (touches q) segments (λ k d lt. untouched q (get_or segments k d) (clear zero q (omega arith) k d lt)) in
    let passes : (nat_lt q n && not (is_taken segments q)) ≡ true = and_from (nat_lt q n) (not (is_taken segments q)) (lt-ltb q n (below zero q (omega arith))) (ap not free) in
    let bad : BadEntry = record { index = index; page = q } in
    ap (λ (b : Bool). if b then bad_entry n (segments ++ page_at q ∷ []) (index + 1) pages else Some bad) passes
    ∙ pages_pass n (index + 1) (segments ++ page_at q ∷ []) pages (λ k d lt. below (suc k) d (omega (arith, lt)))
    (λ k d lt. All-append (λ s. AreBeside s (page_at (get_or pages k d))) segments (page_at q ∷ []) (clear (suc k) d (omega (arith, lt))) (one_all (λ s. AreBeside s (page_at (get_or pages k d))) (page_at q) (apart zero (suc k) d (omega arith) (omega (arith, lt)))))
    (pairs_tail (λ (p r : ℕ). AreBeside (page_at p) (page_at r)) q pages apart)
  where
    one_all : (P : Segment → Type 0) (s : Segment) → P s → All P (s ∷ [])
    one_all P s p = All-cons P s [] p (λ k d lt. absurd (omega (arith, lt)))

-- the pages of files that take no byte twice
pub pages_apart : (files : List StoredFile) → AllPairs AreBeside (all_taken files) → AllPairs (λ p q. AreBeside (page_at p) (page_at q)) (all_pages files)
pages_apart [] apart = λ i j d lt below. absurd (omega (arith, below))
pages_apart (f ∷ files) apart =
    let cross : All (λ s. All (AreBeside s) (all_taken files)) (taken f) = pairs_cross AreBeside (taken f) (all_taken files) apart in
    pairs_append (λ (p q : ℕ). AreBeside (page_at p) (page_at q)) (pages_at f.stand) (all_pages files) (own f.listed.length f.stand (pairs_front AreBeside (taken f) (all_taken files) apart)) (pages_apart files (pairs_back AreBeside (taken f) (all_taken files) apart))
    (λ k d lt. taken_pages (AreBeside (page_at (get_or (pages_at f.stand) k d))) files (one_pages (λ s. All (AreBeside s) (all_taken files)) f.listed.length f.stand cross k d lt))
  where
    own : (n : ℕ) (stand : Stand) → AllPairs AreBeside (taken_at n stand) → AllPairs (λ p q. AreBeside (page_at p) (page_at q)) (pages_at stand)
    own n (Extent place) apart = λ i j d lt below. absurd (omega (arith, below))
    own n (Pages pages) apart = pairs_map AreBeside page_at pages apart

-- what holds of the range of each file that has one holds of all ranges
ranges_all : (P : Segment → Type 0) (files : List Placed) → All (λ p. p.place ≢ 0 → P (segment_of p)) files → All P (flat_map extent_of files)
ranges_all P [] each = λ k d lt. absurd (omega (arith, lt))
ranges_all P (p ∷ files) each = All-append P (extent_of p) (flat_map extent_of files) (elim (cases_eq p.place 0) [
  | inl none ↦ subst (All P) (sym (ap (λ (b : Bool). if b then [] else segment_of p ∷ []) (eq-eqb p.place 0 none))) (λ k d lt. absurd (omega (arith, lt)))
  | inr some ↦ subst (All P) (sym (ap (λ (b : Bool). if b then [] else segment_of p ∷ []) (ne_eqb p.place 0 some))) (All-cons P (segment_of p) [] (each zero p (omega arith) some) (λ k d lt. absurd (omega (arith, lt))))
]) (ranges_all P files (λ k d lt. each (suc k) d (omega (arith, lt))))

-- are clear of their ranges
pub pages_clear : (files : List StoredFile) → AllPairs AreBeside (all_taken files) → All (λ q. All (λ s. AreBeside s (page_at q)) (flat_map extent_of (map placed_of files))) (all_pages files)
pages_clear files apart k d lt = ranges_all (λ s. AreBeside s (page_at (get_or (all_pages files) k d))) (map placed_of files) (each files apart k d lt)
  where
    not_both : (stand : Stand) → place_of stand ≢ 0 → (k : ℕ) → k < length (pages_at stand) → ⊥
    not_both (Extent place) some k lt = omega (arith, lt)
    not_both (Pages pages) some k lt = some refl

    each : (files : List StoredFile) → AllPairs AreBeside (all_taken files) → All (λ q. All (λ p. p.place ≢ 0 → AreBeside (segment_of p) (page_at q)) (map placed_of files)) (all_pages files)
    each [] apart = λ k d lt. absurd (omega (arith, lt))
    each (f ∷ files) apart =
        let cross : All (λ s. All (AreBeside s) (all_taken files)) (taken f) = pairs_cross AreBeside (taken f) (all_taken files) apart in
        let Q : ℕ → Type 0 = λ q. All (λ p. p.place ≢ 0 → AreBeside (segment_of p) (page_at q)) (map placed_of (f ∷ files)) in
        let rest = each files (pairs_back AreBeside (taken f) (all_taken files) apart) in
        All-append Q (pages_at f.stand) (all_pages files)
        (λ k d lt.
        let q : ℕ = get_or (pages_at f.stand) k d in
        let later : All (AreBeside (page_at q)) (all_taken files) = one_pages (λ s. All (AreBeside s) (all_taken files)) f.listed.length f.stand cross k d lt in
        All-cons (λ p. p.place ≢ 0 → AreBeside (segment_of p) (page_at q)) (placed_of f) (map placed_of files) (λ some. absurd (not_both f.stand some k lt)) (taken_ranges (λ s. AreBeside s (page_at q)) files (λ j e below. beside_swapped (page_at q) (get_or (all_taken files) j e) (later j e below))))
        (λ k d lt.
        let q : ℕ = get_or (all_pages files) k d in
        All-cons (λ p. p.place ≢ 0 → AreBeside (segment_of p) (page_at q)) (placed_of f) (map placed_of files) (λ some. taken_pages (AreBeside (segment_of (placed_of f))) files (one_range (λ s. All (AreBeside s) (all_taken files)) f.listed.length f.stand cross some) k d lt) (rest k d lt))

-- the pages of files that lie in the data area
pub pages_inside : (room : ℕ) (files : List StoredFile) → All (λ f. All (IsInside room) (taken f)) files → All (λ q. q < room / PAGE) (all_pages files)
pages_inside room files inside k d lt =
    let here : IsInside room (page_at (get_or (all_pages files) k d)) = taken_pages (IsInside room) files (all_taken_of (IsInside room) files inside) k d lt in
    grind (arith, here.1)
