-- The files of a table and of a map without a fault stand in the data area, and take no byte twice.
use Rattle.std.proofs.Common.{◌≡◌, ◌≢◌, ◌⊎◌, inl, inr, ℕ, zero, suc, ◌+◌, ◌-◌, ◌*◌, ◌/◌, ◌<◌, ◌≤◌, ◌==◌, nat_lt, nat_le, ◌&&◌, ◌||◌, not, Bool, true, false, List, [], ◌∷◌, ◌++◌, length, get_or, take, drop, map, sum_by, Option, None, Some, option_map, if◌then◌else◌, All, AllPairs, refl, sym, ◌∙◌, ap, subst, arith, append_assoc, length-drop}
use Rattle.std.specs.List.{flat_map, list_all}
use Rattle.std.proofs.lemmas.Bool.{cases_eq, cases_Bool, and_parts, ltb-true, leb-true, ne_eqb, true≢false}
use Rattle.std.proofs.lemmas.List.{append-nil, take-append-drop, length-take-le}
use Rattle.std.proofs.lemmas.List.Elements.{All-append, All-cons}
use Rattle.std.proofs.lemmas.List.Kept.{AllPairs-cons}
use Rattle.std.proofs.lemmas.List.Quantifiers.{all_pairs_push}
use Rattle.std.proofs.lemmas.List.Sums.{AllPass-from_list_all, sum_by-cons}
use Rattle.sg_base.specs.declared.limits.TheConstants.{MAX_FILE_LEN}
use Rattle.sg_disk.specs.Contents.{Segment, Stand, IsRoom, IsInside, page_at, taken_at}
use Rattle.sg_disk.specs.Contents.{Extent, Pages}
use Rattle.sg_disk.specs.declared.places.TheConstants.{DATA, PAGE, ENTRY_LEN, TABLE}
use Rattle.sg_placing.specs.Placing.{segment_of, end_of, AreAscending}
use Rattle.sg_placing.specs.declared.placed.Placed.{Placed}
use Rattle.sg_placing.proofs.GapLemmas.{All-front, All-back}
use Rattle.sg_pages.specs.Pages.{needed, is_taken}
use Rattle.sg_pages.specs.Maps.{bad_entry}
use Rattle.sg_pages.specs.Shelves.{FileAt, Shelved, IsPlacedIn, IsShelfIn, pages_for, extent_of, stand_in, stands_in, stands}
use Rattle.sg_pages.specs.declared.maps.BadEntry.{BadEntry}
use Rattle.sg_pages.proofs.FreeLemmas.{clear_of_all, page_inside}
use Rattle.sg_slots.specs.Damage.{Damage}
use Rattle.sg_slots.specs.declared.slots.Slot.{Slot}
use Rattle.sg_slots.proofs.SlotLemmas.{damage_at}
use Rattle.sg_paged_slots.specs.PagedDamage.{is_beside, has_room, is_file_entry, files_damage, map_damage, map_place, entry_damage}
use Rattle.sg_contents.specs.Lawful.{AreBeside, pages_at}
use Rattle.sg_contents.proofs.Pairs.{pairs_head, pairs_tail, pairs_front, pairs_back, pairs_cross, map_all}
use Rattle.sg_soundness.proofs.SoundFiles.{RangesBeside}
use Rattle.sg_staging.specs.Staged.{nothing_staged, IsStanding, AreApart, AreOthers, IsStagedIn}
use Rattle.sg_staging.proofs.ShelfLemmas.{PagesBeside}
use Rattle.sg_staging.proofs.PageLemmas.{map_pairs, whole_less, inside_less}
use Rattle.sg_staging.proofs.StageLemmas.{idle_in}
use Rattle.sg_staging.proofs.ChoiceLemmas.{other_file, beside_swapped}

-- a damage is none only if the test passes, and there is none later
passed : (b : Bool) (later : Option Damage) (d : Damage) → (if b then later else Some d) ≡ None → (b ≡ true) × (later ≡ None)
passed true later d none = (refl, none)
passed false later d none = cc

or_second : (a b : Bool) → (a || b) ≡ true → a ≡ false → b ≡ true
or_second true b is not = absurd (true≢false not)
or_second false b is not = is

or_either : (a b : Bool) → (a || b) ≡ true → (a ≡ true) ⊎ (b ≡ true)
or_either true b is = inl refl
or_either false b is = inr is

-- what an entry that passes says
pub record Passes (earlier : List Placed) (p : Placed) : Type 0 where
  pub media : 1 ≤ p.file.media.0
  pub long : (1 ≤ p.file.length) × (p.file.length ≤ MAX_FILE_LEN)
  pub beside : All (λ e. RangesBeside e p) earlier

beside_each : (earlier : List Placed) (p : Placed) → is_beside earlier p ≡ true → All (λ e. RangesBeside e p) earlier
beside_each earlier p is k d lt some other =
    let e : Placed = get_or earlier k d in
    let one = AllPass-from_list_all (λ (x : Placed). x.place == 0 || (nat_le (end_of x) p.place || nat_le (end_of p) x.place)) earlier is k d lt in
    elim (or_either (nat_le (end_of e) p.place) (nat_le (end_of p) e.place) (or_second (e.place == 0) (nat_le (end_of e) p.place || nat_le (end_of p) e.place) one (ne_eqb e.place 0 some))) [
      | inl before ↦ inl (leb-true (end_of e) p.place before)
      | inr after ↦ inr (leb-true (end_of p) e.place after)
    ]

entry_passes : (room before : ℕ) (earlier : List Placed) (p : Placed) → is_file_entry room before earlier p ≡ true → Passes earlier p
entry_passes room before earlier p is =
    let one = and_parts (nat_lt before p.file.media.0) (nat_le 1 p.file.length && (nat_le p.file.length MAX_FILE_LEN && has_room room earlier p)) is in
    let two = and_parts (nat_le 1 p.file.length) (nat_le p.file.length MAX_FILE_LEN && has_room room earlier p) one.1 in
    let three = and_parts (nat_le p.file.length MAX_FILE_LEN) (has_room room earlier p) two.1 in
    let inner : Bool = nat_le DATA p.place && (nat_le (end_of p) (DATA + room) && is_beside earlier p) in
    let four = and_parts (nat_le (sum_by pages_for earlier + pages_for p) (room / PAGE)) (p.place == 0 || inner) three.1 in
    record {
      media = omega (arith, ltb-true before p.file.media.0 one.0);
      long = (leb-true 1 p.file.length two.0, leb-true p.file.length MAX_FILE_LEN three.0);
      beside = λ k d lt some other.
          let five = and_parts (nat_le DATA p.place) (nat_le (end_of p) (DATA + room) && is_beside earlier p) (or_second (p.place == 0) inner four.1 (ne_eqb p.place 0 other)) in
          let six = and_parts (nat_le (end_of p) (DATA + room)) (is_beside earlier p) five.1 in
          beside_each earlier p six.1 k d lt some other;
    }

-- the entries of a table without a fault
pub record Faultless (earlier files : List Placed) : Type 0 where
  pub media : All (λ p. 1 ≤ p.file.media.0) files
  pub long : All (λ p. (1 ≤ p.file.length) × (p.file.length ≤ MAX_FILE_LEN)) files
  pub beside : AllPairs RangesBeside (earlier ++ files)

faultless_files : (room place before : ℕ) (earlier files : List Placed) → AllPairs RangesBeside earlier → files_damage room place before earlier files ≡ None → Faultless earlier files
faultless_files room place before earlier [] apart none = record {
  media = λ k d lt. absurd (omega (arith, lt));
  long = λ k d lt. absurd (omega (arith, lt));
  beside = subst (AllPairs RangesBeside) (sym (append-nil earlier)) apart;
}
faultless_files room place before earlier (p ∷ files) apart none =
    let both = passed (is_file_entry room before earlier p) (files_damage room (place + ENTRY_LEN) p.file.media.0 (earlier ++ p ∷ []) files) (damage_at place p.file.media.0) none in
    let here = entry_passes room before earlier p both.0 in
    let rest = faultless_files room (place + ENTRY_LEN) p.file.media.0 (earlier ++ p ∷ []) files (all_pairs_push RangesBeside earlier p apart here.beside) both.1 in
    record {
      media = All-cons (λ x. 1 ≤ x.file.media.0) p files here.media rest.media;
      long = All-cons (λ x. (1 ≤ x.file.length) × (x.file.length ≤ MAX_FILE_LEN)) p files here.long rest.long;
      beside = subst (AllPairs RangesBeside) (append_assoc earlier (p ∷ []) files) rest.beside;
    }

-- the entries of a map without a fault
pub record Unshared (taken : List Segment) (pages : List ℕ) : Type 0 where
  pub clear : All (λ q. All (λ s. AreBeside s (page_at q)) taken) pages
  pub apart : AllPairs PagesBeside pages

page_passed : (b : Bool) (later : Option BadEntry) (e : BadEntry) → (if b then later else Some e) ≡ None → (b ≡ true) × (later ≡ None)
page_passed true later e none = (refl, none)
page_passed false later e none = cc

not_taken : (b : Bool) → not b ≡ true → b ≡ false
not_taken true is = absurd (true≢false (sym is))
not_taken false is = refl

unshared : (n index : ℕ) (taken : List Segment) (pages : List ℕ) → bad_entry n taken index pages ≡ None → Unshared taken pages
unshared n index taken [] none = record {
  clear = λ k d lt. absurd (omega (arith, lt));
  apart = λ i j d lt below. absurd (omega (arith, below));
}
unshared n index taken (q ∷ pages) none =
    let both = page_passed (nat_lt q n && not (is_taken taken q)) (bad_entry n (taken ++ page_at q ∷ []) (index + 1) pages) (record { index = index; page = q }) none in
    let free : is_taken taken q ≡ false = not_taken (is_taken taken q) (and_parts (nat_lt q n) (not (is_taken taken q)) both.0).1 in
    let rest = unshared n (index + 1) (taken ++ page_at q ∷ []) pages both.1 in
    record {
      clear = All-cons (λ r. All (λ s. AreBeside s (page_at r)) taken) q pages (clear_of_all taken q free) (λ k d lt. All-front (λ s. AreBeside s (page_at (get_or pages k d))) taken (page_at q ∷ []) (rest.clear k d lt));
      apart = AllPairs-cons PagesBeside q pages (λ k d lt. All-back (λ s. AreBeside s (page_at (get_or pages k d))) taken (page_at q ∷ []) (rest.clear k d lt) 0 (page_at q) (omega arith)) rest.apart;
    }

no_damage : (place : ℕ) (o : Option BadEntry) → option_map (entry_damage place) o ≡ None → o ≡ None
no_damage place None none = refl
no_damage place (Some e) none = cc

-- what a file of a shelf takes
one_taken : (Q : Segment → Type 0) (pages : List ℕ) (p : Placed) → All (λ q. Q (page_at q)) (take (pages_for p) pages) → (p.place ≢ 0 → Q (segment_of p)) → All Q (taken_at p.file.length (stand_in pages p))
one_taken Q pages p each range = by_place (p.place == 0) (ne_place p.place) each
  where
    ne_place : (n : ℕ) → (n == 0) ≡ false → n ≢ 0
    ne_place n is same = absurd (true≢false (sym (ap (λ (m : ℕ). m == 0) same) ∙ is))

    by_place : (b : Bool) → (b ≡ false → p.place ≢ 0) → All (λ q. Q (page_at q)) (take (if b then needed p.file.length else 0) pages) → All Q (taken_at p.file.length (if b then Pages (take (needed p.file.length) pages) else Extent p.place))
    by_place true some all = map_all Q page_at (take (needed p.file.length) pages) all
    by_place false some all = All-cons Q (segment_of p) [] (range (some refl)) (λ k d lt. absurd (omega (arith, lt)))

rest_long : (pages : List ℕ) (p : Placed) (files : List Placed) → length pages ≡ sum_by pages_for (p ∷ files) → length (drop (pages_for p) pages) ≡ sum_by pages_for files
rest_long pages p files long = omega (arith, length-drop (pages_for p) pages, long, sum_by-cons pages_for p files)

-- what all files of a shelf take
shelf_taken : (Q : Segment → Type 0) (pages : List ℕ) (files : List Placed) → All (λ q. Q (page_at q)) pages → All (λ p. p.place ≢ 0 → Q (segment_of p)) files → All (λ g. All Q (taken_at g.file.length g.stand)) (stands_in pages files)
shelf_taken Q pages [] each ranges = λ k d lt. absurd (omega (arith, lt))
shelf_taken Q pages (p ∷ files) each ranges =
    let k : ℕ = pages_for p in
    let both : All (λ q. Q (page_at q)) (take k pages ++ drop k pages) = subst (All (λ q. Q (page_at q))) (sym (take-append-drop k pages)) each in
    All-cons (λ (g : FileAt). All Q (taken_at g.file.length g.stand)) (record { file = p.file; stand = stand_in pages p }) (stands_in (drop k pages) files) (one_taken Q pages p (All-front (λ q. Q (page_at q)) (take k pages) (drop k pages) both) (ranges zero p (omega arith))) (shelf_taken Q (drop k pages) files (All-back (λ q. Q (page_at q)) (take k pages) (drop k pages) both) (λ i d lt. ranges (suc i) d (omega (arith, lt))))

-- what holds of all ranges holds of that of each file that has one
each_range : (P : Segment → Type 0) (files : List Placed) → All P (flat_map extent_of files) → All (λ p. p.place ≢ 0 → P (segment_of p)) files
each_range P [] all = λ k d lt. absurd (omega (arith, lt))
each_range P (p ∷ files) all =
    All-cons (λ x. x.place ≢ 0 → P (segment_of x)) p files (λ some. first (p.place == 0) (ne_eqb p.place 0 some) (All-front P (extent_of p) (flat_map extent_of files) all)) (each_range P files (All-back P (extent_of p) (flat_map extent_of files) all))
  where
    first : (b : Bool) → b ≡ false → All P (if b then [] else segment_of p ∷ []) → P (segment_of p)
    first true is one = absurd (true≢false is)
    first false is one = one zero (segment_of p) (omega arith)

-- a shelf without a fault, from one file on
record Sound (room : ℕ) (pages : List ℕ) (files : List Placed) : Type 0 where
  long : length pages ≡ sum_by pages_for files
  media : All (λ p. 1 ≤ p.file.media.0) files
  lengths : All (λ p. (1 ≤ p.file.length) × (p.file.length ≤ MAX_FILE_LEN)) files
  ascending : AreAscending files
  placed : All (IsPlacedIn room) files
  inside : All (λ q. IsInside room (page_at q)) pages
  beside : AllPairs RangesBeside files
  clear : All (λ q. All (λ p. p.place ≢ 0 → AreBeside (segment_of p) (page_at q)) files) pages
  apart : AllPairs PagesBeside pages

pages_of_one : (pages : List ℕ) (p : Placed) → pages_for p ≤ length pages → (l : List ℕ) → stand_in pages p ≡ Pages l → length l ≡ needed p.file.length
pages_of_one pages p enough l is = by_place (p.place == 0) enough is
  where
    by_place : (b : Bool) → (if b then needed p.file.length else 0) ≤ length pages → (if b then Pages (take (needed p.file.length) pages) else Extent p.place) ≡ Pages l → length l ≡ needed p.file.length
    by_place true le same = sym (ap (λ (x : Stand). length (pages_at x)) same) ∙ length-take-le (needed p.file.length) pages le
    by_place false le same = cc

first_apart : (pages : List ℕ) (p : Placed) → AllPairs PagesBeside (take (pages_for p) pages) → AllPairs AreBeside (taken_at p.file.length (stand_in pages p))
first_apart pages p apart = by_place (p.place == 0) apart
  where
    by_place : (b : Bool) → AllPairs PagesBeside (take (if b then needed p.file.length else 0) pages) → AllPairs AreBeside (taken_at p.file.length (if b then Pages (take (needed p.file.length) pages) else Extent p.place))
    by_place true all = map_pairs AreBeside page_at (take (needed p.file.length) pages) all
    by_place false all = λ i j d lt below. absurd (omega (arith, lt, below))

sound_rest : (room : ℕ) (pages : List ℕ) (p : Placed) (files : List Placed) → Sound room pages (p ∷ files) → Sound room (drop (pages_for p) pages) files
sound_rest room pages p files s =
    let k : ℕ = pages_for p in
    let split : pages ≡ take k pages ++ drop k pages = sym (take-append-drop k pages) in
    record {
      long = rest_long pages p files s.long;
      media = λ i d lt. s.media (suc i) d (omega (arith, lt));
      lengths = λ i d lt. s.lengths (suc i) d (omega (arith, lt));
      ascending = pairs_tail (λ (a b : Placed). a.file.media.0 < b.file.media.0) p files s.ascending;
      placed = λ i d lt. s.placed (suc i) d (omega (arith, lt));
      inside = All-back (λ q. IsInside room (page_at q)) (take k pages) (drop k pages) (subst (All (λ q. IsInside room (page_at q))) split s.inside);
      beside = pairs_tail RangesBeside p files s.beside;
      clear = λ i d lt j e below. All-back (λ q. All (λ (x : Placed). x.place ≢ 0 → AreBeside (segment_of x) (page_at q)) (p ∷ files)) (take k pages) (drop k pages) (subst (All (λ q. All (λ (x : Placed). x.place ≢ 0 → AreBeside (segment_of x) (page_at q)) (p ∷ files))) split s.clear) i d lt (suc j) e (omega (arith, below));
      apart = pairs_back PagesBeside (take k pages) (drop k pages) (subst (AllPairs PagesBeside) split s.apart);
    }

-- the first file beside the later ones
first_others : (room : ℕ) (pages : List ℕ) (p : Placed) (files : List Placed) → Sound room pages (p ∷ files) → All (AreApart (record { file = p.file; stand = stand_in pages p })) (stands_in (drop (pages_for p) pages) files)
first_others room pages p files s =
    let k : ℕ = pages_for p in
    let split : pages ≡ take k pages ++ drop k pages = sym (take-append-drop k pages) in
    let own : List Segment = taken_at p.file.length (stand_in pages p) in
    let clear : All (λ q. All (λ (x : Placed). x.place ≢ 0 → AreBeside (segment_of x) (page_at q)) (p ∷ files)) (take k pages ++ drop k pages) = subst (All (λ q. All (λ (x : Placed). x.place ≢ 0 → AreBeside (segment_of x) (page_at q)) (p ∷ files))) split s.clear in
    let cross : All (λ q. All (PagesBeside q) (drop k pages)) (take k pages) = pairs_cross PagesBeside (take k pages) (drop k pages) (subst (AllPairs PagesBeside) split s.apart) in
    let first = All-front (λ q. All (λ (x : Placed). x.place ≢ 0 → AreBeside (segment_of x) (page_at q)) (p ∷ files)) (take k pages) (drop k pages) clear in
    let last = All-back (λ q. All (λ (x : Placed). x.place ≢ 0 → AreBeside (segment_of x) (page_at q)) (p ∷ files)) (take k pages) (drop k pages) clear in
    let all = shelf_taken (λ t. All (λ x. AreBeside x t) own) (drop k pages) files
    (λ i d lt. one_taken (λ x. AreBeside x (page_at (get_or (drop k pages) i d))) pages p (λ j e below. cross j e below i d lt) (last i d lt zero p (omega arith)))
    (λ i d lt some. one_taken (λ x. AreBeside x (segment_of (get_or files i d))) pages p (λ j e below. beside_swapped (segment_of (get_or files i d)) (page_at (get_or (take k pages) j e)) (first j e below (suc i) d (omega (arith, lt)) some)) (λ other. pairs_head RangesBeside p files s.beside i d lt other some)) in
    λ i d lt j e below m x less. all i d lt m x less j e below

sound_files : (room : ℕ) (pages : List ℕ) (files : List Placed) → Sound room pages files → All (IsStanding room) (stands_in pages files) × AllPairs AreOthers (stands_in pages files)
sound_files room pages [] s = (λ k d lt. absurd (omega (arith, lt)), λ i j d lt below. absurd (omega (arith, below)))
sound_files room pages (p ∷ files) s =
    let k : ℕ = pages_for p in
    let rest : List FileAt = stands_in (drop k pages) files in
    let f : FileAt = record { file = p.file; stand = stand_in pages p } in
    let split : pages ≡ take k pages ++ drop k pages = sym (take-append-drop k pages) in
    let later = sound_files room (drop k pages) files (sound_rest room pages p files s) in
    let standing : IsStanding room f = record {
      media = s.media zero p (omega arith);
      long = s.lengths zero p (omega arith);
      stored = pages_of_one pages p (omega (arith, s.long, sum_by-cons pages_for p files));
      inside = one_taken (IsInside room) pages p (All-front (λ q. IsInside room (page_at q)) (take k pages) (drop k pages) (subst (All (λ q. IsInside room (page_at q))) split s.inside)) (s.placed zero p (omega arith));
      apart = first_apart pages p (pairs_front PagesBeside (take k pages) (drop k pages) (subst (AllPairs PagesBeside) split s.apart));
    } in
    let apart = first_others room pages p files s in
    let ids = ids_above p.file.media.0 (drop k pages) files (pairs_head (λ (a b : Placed). a.file.media.0 < b.file.media.0) p files s.ascending) in
    (All-cons (IsStanding room) f rest standing later.0, AllPairs-cons AreOthers f rest (λ i d lt. record { other = other_file p.file (get_or rest i d).file (ids i d lt); apart = apart i d lt }) later.1)
  where
    ids_above : (m : ℕ) (pages : List ℕ) (files : List Placed) → All (λ q. m < q.file.media.0) files → All (λ (g : FileAt). m < g.file.media.0) (stands_in pages files)
    ids_above m pages [] above = λ i d lt. absurd (omega (arith, lt))
    ids_above m pages (q ∷ files) above = All-cons (λ (g : FileAt). m < g.file.media.0) (record { file = q.file; stand = stand_in pages q }) (stands_in (drop (pages_for q) pages) files) (above zero q (omega arith)) (ids_above m (drop (pages_for q) pages) files (λ i d lt. above (suc i) d (omega (arith, lt))))

-- a shelf whose table and map have no fault
pub faultless : (room place : ℕ) (slot : Slot) (s : Shelved) → IsShelfIn room s → AreAscending s.files → files_damage room place 0 [] s.files ≡ None → map_damage room slot s.files s.pages ≡ None → All (IsStanding room) (stands s) × AllPairs AreOthers (stands s)
faultless room place slot s shelf up table map =
    let files = faultless_files room place 0 [] s.files (λ i j d lt below. absurd (omega (arith, below))) table in
    let pages = unshared (room / PAGE) 0 (flat_map extent_of s.files) s.pages (no_damage (map_place room slot) (bad_entry (room / PAGE) (flat_map extent_of s.files) 0 s.pages) map) in
    sound_files room s.pages s.files (record {
      long = shelf.filled;
      media = files.media;
      lengths = files.long;
      ascending = up;
      placed = shelf.files;
      inside = λ k d lt. inside_less room (room / PAGE) (page_at (get_or s.pages k d)) (whole_less room) (page_inside (room / PAGE) (get_or s.pages k d) (shelf.pages k d lt));
      beside = files.beside;
      clear = λ k d lt. each_range (λ x. AreBeside x (page_at (get_or s.pages k d))) s.files (pages.clear k d lt);
      apart = pages.apart;
    })

-- nothing is staged beside it
pub faultless_alone : (room place : ℕ) (slot : Slot) (s : Shelved) → IsShelfIn room s → AreAscending s.files → files_damage room place 0 [] s.files ≡ None → map_damage room slot s.files s.pages ≡ None → IsStagedIn room s nothing_staged
faultless_alone room place slot s shelf up table map =
    let sound = faultless room place slot s shelf up table map in
    idle_in room s shelf.filled sound.0 sound.1
