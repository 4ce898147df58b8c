-- What is staged beside a snapshot, after each call.
use Rattle.std.proofs.Common.{◌≡◌, ◌⊎◌, inl, inr, ℕ, zero, ◌+◌, ◌/◌, ◌<◌, ◌≤◌, Bool, true, false, cond, List, [], ◌∷◌, ◌++◌, length, take, filter, map, Option, None, Some, IfSome, All, AllPairs, refl, sym, ◌∙◌, ap, subst, arith, append_assoc, length-append}
use Rattle.std.proofs.lemmas.Bool.{cases_Bool}
use Rattle.std.proofs.lemmas.List.{append-nil, length-take-le}
use Rattle.std.proofs.lemmas.List.Elements.{All-append, All-push, All-filter}
use Rattle.std.proofs.lemmas.Grind.{flat_map-append}
use Rattle.std.proofs.lemmas.List.Kept.{AllPairs-cons}
use Rattle.std.proofs.lemmas.List.Quantifiers.{all_pairs_push}
use Rattle.std.proofs.lemmas.List.Sums.{length-filter, count_by-le-length}
use Rattle.sg_base.specs.declared.file.Listed.{Listed}
use Rattle.sg_base.specs.declared.limits.TheConstants.{MANIFEST_FILES, MAX_FILE_LEN, MAX_ROOM}
use Rattle.sg_disk.specs.Contents.{Stand, IsInside, page_at, taken_at}
use Rattle.sg_disk.specs.Contents.{Pages}
use Rattle.sg_disk.specs.declared.places.TheConstants.{PAGE}
use Rattle.sg_placing.proofs.GapLemmas.{All-front, All-back}
use Rattle.sg_pages.specs.Pages.{needed}
use Rattle.sg_pages.specs.Shelves.{FileAt, Shelved, IsFilled, IsShelfIn, all_taken_at, stands}
use Rattle.sg_pages.specs.declared.page_set.TheConstants.{MAX_PAGES}
use Rattle.sg_contents.specs.Lawful.{AreBeside, pages_at}
use Rattle.sg_contents.proofs.Pairs.{pairs_front, pairs_back, pairs_head, pairs_tail}
use Rattle.sg_staging.specs.Staged.{HalfStaged, Staged, nothing_staged, half_at, half_stands, whole_files, taken_files, free_beside, is_among, chosen, pages_of_files, IsStanding, AreOthers, IsStagedIn, HasPlace}
use Rattle.sg_staging.proofs.ShelfLemmas.{stands_pages, stands_count, shelf_in, pages_fit}
use Rattle.sg_staging.proofs.PageLemmas.{free_inside, free_apart, free_beside_all}
use Rattle.sg_staging.proofs.ChoiceLemmas.{none_same, chosen_each, chosen_others}

-- with some of the middle left out
all_fewer : {X : Type 0} (P : X → Type 0) (test : X → Bool) (xs ys zs : List X) → All P (xs ++ (ys ++ zs)) → All P (xs ++ (filter test ys ++ zs))
all_fewer P test xs ys zs all =
    let rest : All P (ys ++ zs) = All-back P xs (ys ++ zs) all in
    All-append P xs (filter test ys ++ zs) (All-front P xs (ys ++ zs) all) (All-append P (filter test ys) zs (All-filter test P ys (All-front P ys zs rest)) (All-back P ys zs rest))

pairs_fewer_front : {X : Type 0} (R : X → X → Type 0) (test : X → Bool) (ys zs : List X) → AllPairs R (ys ++ zs) → AllPairs R (filter test ys ++ zs)
pairs_fewer_front R test [] zs all = all
pairs_fewer_front {X} R test (y ∷ ys) zs all =
    let rest : AllPairs R (filter test ys ++ zs) = pairs_fewer_front R test ys zs (pairs_tail R y (ys ++ zs) all) in
    let one : All (R y) (filter test ys ++ zs) = all_fewer (R y) test [] ys zs (pairs_head R y (ys ++ zs) all) in
    elim (cases_Bool (test y)) [
      | inl passes ↦ subst (λ (b : Bool). AllPairs R (cond b (y ∷ filter test ys) (filter test ys) ++ zs)) (sym passes) (AllPairs-cons R y (filter test ys ++ zs) one rest)
      | inr fails ↦ subst (λ (b : Bool). AllPairs R (cond b (y ∷ filter test ys) (filter test ys) ++ zs)) (sym fails) rest
    ]

pairs_fewer : {X : Type 0} (R : X → X → Type 0) (test : X → Bool) (xs ys zs : List X) → AllPairs R (xs ++ (ys ++ zs)) → AllPairs R (xs ++ (filter test ys ++ zs))
pairs_fewer R test [] ys zs all = pairs_fewer_front R test ys zs all
pairs_fewer R test (x ∷ xs) ys zs all =
    AllPairs-cons R x (xs ++ (filter test ys ++ zs)) (all_fewer (R x) test xs ys zs (pairs_head R x (xs ++ (ys ++ zs)) all)) (pairs_fewer R test xs ys zs (pairs_tail R x (xs ++ (ys ++ zs)) all))

-- the shelves of a snapshot and of sealed files
pub current_in : (room : ℕ) (current : Shelved) (s : Staged) → IsStagedIn room current s → IsShelfIn room current
current_in room current s is =
    shelf_in room current is.filled (All-front (IsStanding room) (stands current) (stands s.sealed) (All-front (IsStanding room) (whole_files current s) (half_stands s.half) is.standing))

pub sealed_in : (room : ℕ) (current : Shelved) (s : Staged) → IsStagedIn room current s → IsShelfIn room s.sealed
sealed_in room current s is =
    shelf_in room s.sealed is.sealed (All-back (IsStanding room) (stands current) (stands s.sealed) (All-front (IsStanding room) (whole_files current s) (half_stands s.half) is.standing))

-- where nothing is half staged
pub taken_idle : (current : Shelved) (s : Staged) → s.half ≡ None → taken_files current s ≡ whole_files current s
taken_idle current s idle = ap (λ (h : Option HalfStaged). whole_files current s ++ half_stands h) idle ∙ append-nil (whole_files current s)

whole_same : (current : Shelved) (s t : Staged) → t.sealed ≡ s.sealed → whole_files current t ≡ whole_files current s
whole_same current s t same = ap (λ (k : Shelved). stands current ++ stands k) same

-- a file is begun that isn't held
pub begun_in : (room : ℕ) (current : Shelved) (s t : Staged) (half : HalfStaged) → IsStagedIn room current s → s.half ≡ None → is_among current s half.file ≡ false → 1 ≤ half.file.media.0 → (1 ≤ half.file.length) × (half.file.length ≤ MAX_FILE_LEN) → length s.sealed.files < MANIFEST_FILES → t.sealed ≡ s.sealed → t.half ≡ Some half → half.pages ≡ take (needed half.file.length) (free_beside room current s) → needed half.file.length ≤ length (free_beside room current s) → half.count ≡ 0 → IsStagedIn room current t
begun_in room current s t half is idle new media long few sealed now pages enough none =
    let whole : List FileAt = whole_files current s in
    let n : ℕ = needed half.file.length in
    let all : taken_files current t ≡ whole ++ half_at half ∷ [] = ap (λ (h : Option HalfStaged). whole_files current t ++ half_stands h) now ∙ ap (λ (l : List FileAt). l ++ half_at half ∷ []) (whole_same current s t sealed) in
    let before : taken_files current s ≡ whole = taken_idle current s idle in
    let count : length half.pages ≡ n = ap (λ (l : List ℕ). length l) pages ∙ length-take-le n (free_beside room current s) enough in
    let standing : IsStanding room (half_at half) = record {
      media = media;
      long = long;
      stored = λ l same. sym (ap (λ (x : Stand). length (pages_at x)) same) ∙ count;
      inside = subst (λ (l : List ℕ). All (IsInside room) (map page_at l)) (sym pages) (free_inside room n (all_taken_at whole));
      apart = subst (λ (l : List ℕ). AllPairs AreBeside (map page_at l)) (sym pages) (free_apart n (room / PAGE) (all_taken_at whole));
    } in
    let beside = subst (λ (l : List ℕ). All (λ f. All (λ x. All (AreBeside x) (map page_at l)) (taken_at f.file.length f.stand)) whole) (sym pages) (free_beside_all n (room / PAGE) whole) in
    record {
      filled = is.filled;
      sealed = subst IsFilled (sym sealed) is.sealed;
      few = subst (λ (k : Shelved). length k.files ≤ MANIFEST_FILES) (sym sealed) is.few;
      standing = subst (All (IsStanding room)) (sym all) (All-push (IsStanding room) whole (half_at half) (subst (All (IsStanding room)) before is.standing) standing);
      others = subst (AllPairs AreOthers) (sym all) (all_pairs_push AreOthers whole (half_at half) (subst (AllPairs AreOthers) before is.others) (λ k d lt. record { other = none_same whole half.file new k d lt; apart = beside k d lt }));
      half = subst (λ (h : Option HalfStaged). IfSome h (λ x. (x.count ≤ x.file.length) × (length t.sealed.files < MANIFEST_FILES))) (sym now) (omega (arith, none), subst (λ (k : Shelved). length k.files < MANIFEST_FILES) (sym sealed) few);
    }

-- more bytes have come of the half staged file
pub taken_in : (room : ℕ) (current : Shelved) (s t : Staged) (half more : HalfStaged) → IsStagedIn room current s → s.half ≡ Some half → t.sealed ≡ s.sealed → t.half ≡ Some more → more.file ≡ half.file → more.pages ≡ half.pages → more.count ≤ more.file.length → IsStagedIn room current t
taken_in room current s t half more is was sealed now file pages fits =
    let stand : half_stands t.half ≡ half_stands s.half = ap half_stands now ∙ ap (λ (f : Listed). record { file = f; stand = Pages more.pages } ∷ []) file ∙ ap (λ (l : List ℕ). record { file = half.file; stand = Pages l } ∷ []) pages ∙ sym (ap half_stands was) in
    let all : taken_files current t ≡ taken_files current s = ap (λ (l : List FileAt). whole_files current t ++ l) stand ∙ ap (λ (l : List FileAt). l ++ half_stands s.half) (whole_same current s t sealed) in
    let before = subst (λ (h : Option HalfStaged). IfSome h (λ x. (x.count ≤ x.file.length) × (length s.sealed.files < MANIFEST_FILES))) was is.half in
    record {
      filled = is.filled;
      sealed = subst IsFilled (sym sealed) is.sealed;
      few = subst (λ (k : Shelved). length k.files ≤ MANIFEST_FILES) (sym sealed) is.few;
      standing = subst (All (IsStanding room)) (sym all) is.standing;
      others = subst (AllPairs AreOthers) (sym all) is.others;
      half = subst (λ (h : Option HalfStaged). IfSome h (λ x. (x.count ≤ x.file.length) × (length t.sealed.files < MANIFEST_FILES))) (sym now) (fits, subst (λ (k : Shelved). length k.files < MANIFEST_FILES) (sym sealed) before.1);
    }

-- the half staged file is given up
pub dropped_in : (room : ℕ) (current : Shelved) (s t : Staged) → IsStagedIn room current s → t.sealed ≡ s.sealed → t.half ≡ None → IsStagedIn room current t
dropped_in room current s t is sealed idle =
    let all : taken_files current t ≡ whole_files current s = taken_idle current t idle ∙ whole_same current s t sealed in
    record {
      filled = is.filled;
      sealed = subst IsFilled (sym sealed) is.sealed;
      few = subst (λ (k : Shelved). length k.files ≤ MANIFEST_FILES) (sym sealed) is.few;
      standing = subst (All (IsStanding room)) (sym all) (All-front (IsStanding room) (whole_files current s) (half_stands s.half) is.standing);
      others = subst (AllPairs AreOthers) (sym all) (pairs_front AreOthers (whole_files current s) (half_stands s.half) is.others);
      half = subst (λ (h : Option HalfStaged). IfSome h (λ x. (x.count ≤ x.file.length) × (length t.sealed.files < MANIFEST_FILES))) (sym idle) tt;
    }

-- it goes behind the sealed ones
pub moved_in : (room : ℕ) (current : Shelved) (s t : Staged) (half : HalfStaged) → IsStagedIn room current s → s.half ≡ Some half → stands t.sealed ≡ stands s.sealed ++ half_at half ∷ [] → IsFilled t.sealed → length t.sealed.files ≤ MANIFEST_FILES → t.half ≡ None → IsStagedIn room current t
moved_in room current s t half is was stand filled few idle =
    let all : taken_files current t ≡ taken_files current s =
    taken_idle current t idle ∙ ap (λ (l : List FileAt). stands current ++ l) stand ∙ sym (append_assoc (stands current) (stands s.sealed) (half_at half ∷ [])) ∙ ap (λ (h : Option HalfStaged). whole_files current s ++ half_stands h) (sym was) in
    record {
      filled = is.filled;
      sealed = filled;
      few = few;
      standing = subst (All (IsStanding room)) (sym all) is.standing;
      others = subst (AllPairs AreOthers) (sym all) is.others;
      half = subst (λ (h : Option HalfStaged). IfSome h (λ x. (x.count ≤ x.file.length) × (length t.sealed.files < MANIFEST_FILES))) (sym idle) tt;
    }

-- some of the sealed files are given up
pub fewer_in : (room : ℕ) (current : Shelved) (s t : Staged) (test : FileAt → Bool) → IsStagedIn room current s → stands t.sealed ≡ filter test (stands s.sealed) → IsFilled t.sealed → t.half ≡ s.half → IsStagedIn room current t
fewer_in room current s t test is stand filled same =
    let a : List FileAt = stands current in
    let b : List FileAt = stands s.sealed in
    let z : List FileAt = half_stands s.half in
    let before : taken_files current s ≡ a ++ (b ++ z) = append_assoc a b z in
    let all : taken_files current t ≡ a ++ (filter test b ++ z) = ap (λ (h : Option HalfStaged). stands current ++ stands t.sealed ++ half_stands h) same ∙ ap (λ (l : List FileAt). a ++ l ++ z) stand ∙ append_assoc a (filter test b) z in
    let fewer : length t.sealed.files ≤ length s.sealed.files =
    omega (arith, stands_count t.sealed.pages t.sealed.files, stands_count s.sealed.pages s.sealed.files, ap (λ (l : List FileAt). length l) stand, length-filter test b, count_by-le-length test b) in
    record {
      filled = is.filled;
      sealed = filled;
      few = omega (arith, fewer, is.few);
      standing = subst (All (IsStanding room)) (sym all) (all_fewer (IsStanding room) test a b z (subst (All (IsStanding room)) before is.standing));
      others = subst (AllPairs AreOthers) (sym all) (pairs_fewer AreOthers test a b z (subst (AllPairs AreOthers) before is.others));
      half = subst (λ (h : Option HalfStaged). IfSome h (λ x. (x.count ≤ x.file.length) × (length t.sealed.files < MANIFEST_FILES))) (sym same) (by_half s.half is.half fewer);
    }
  where
    by_half : (h : Option HalfStaged) → IfSome h (λ x. (x.count ≤ x.file.length) × (length s.sealed.files < MANIFEST_FILES)) → length t.sealed.files ≤ length s.sealed.files → IfSome h (λ x. (x.count ≤ x.file.length) × (length t.sealed.files < MANIFEST_FILES))
    by_half None none fewer = tt
    by_half (Some x) both fewer = (both.0, omega (arith, both.1, fewer))

pub kept_in : (room : ℕ) (current : Shelved) (s mid t : Staged) (test : FileAt → Bool) → IsStagedIn room current s → stands mid.sealed ≡ filter test (stands s.sealed) → IsFilled mid.sealed → mid.half ≡ s.half → t.sealed ≡ mid.sealed → (t.half ≡ mid.half) ⊎ (t.half ≡ None) → IsStagedIn room current t
kept_in room current s mid t test is stand filled same sealed (inl kept) = fewer_in room current s t test is (ap stands sealed ∙ stand) (subst IsFilled (sym sealed) filled) (kept ∙ same)
kept_in room current s mid t test is stand filled same sealed (inr none) = dropped_in room current mid t (fewer_in room current s mid test is stand filled same) sealed none

-- the room of the sealed files, and that for the half staged one
pub sealed_fits : (room : ℕ) (current : Shelved) (s : Staged) → room ≤ MAX_ROOM → IsStagedIn room current s → length s.sealed.pages ≤ MAX_PAGES
sealed_fits room current s small is =
    let a : List FileAt = stands current in
    let b : List FileAt = stands s.sealed in
    let z : List FileAt = half_stands s.half in
    let all : All (IsStanding room) b = All-back (IsStanding room) a b (All-front (IsStanding room) (a ++ b) z is.standing) in
    let others : AllPairs AreOthers b = pairs_back AreOthers a b (pairs_front AreOthers (a ++ b) z is.others) in
    grind (arith, pages_fit room b all others, stands_pages s.sealed.pages s.sealed.files is.sealed)

-- all files but the snapshot's
staged_all : (room : ℕ) (current : Shelved) (s : Staged) → IsStagedIn room current s → All (IsStanding room) (stands s.sealed ++ half_stands s.half)
staged_all room current s is = All-back (IsStanding room) (stands current) (stands s.sealed ++ half_stands s.half) (subst (All (IsStanding room)) (append_assoc (stands current) (stands s.sealed) (half_stands s.half)) is.standing)

staged_others : (room : ℕ) (current : Shelved) (s : Staged) → IsStagedIn room current s → AllPairs AreOthers (stands s.sealed ++ half_stands s.half)
staged_others room current s is = pairs_back AreOthers (stands current) (stands s.sealed ++ half_stands s.half) (subst (AllPairs AreOthers) (append_assoc (stands current) (stands s.sealed) (half_stands s.half)) is.others)

pub has_place : (room : ℕ) (current : Shelved) (s : Staged) (half : HalfStaged) → room ≤ MAX_ROOM → IsStagedIn room current s → s.half ≡ Some half → HasPlace s
has_place room current s half small is now =
    let b : List FileAt = stands s.sealed in
    let list : half_stands s.half ≡ half_at half ∷ [] = ap half_stands now in
    let all : All (IsStanding room) (b ++ half_at half ∷ []) = subst (λ (l : List FileAt). All (IsStanding room) (b ++ l)) list (staged_all room current s is) in
    let others : AllPairs AreOthers (b ++ half_at half ∷ []) = subst (λ (l : List FileAt). AllPairs AreOthers (b ++ l)) list (staged_others room current s is) in
    let fit = pages_fit room (b ++ half_at half ∷ []) all others in
    let sealed : length (pages_of_files b) ≡ length s.sealed.pages = ap (λ (l : List ℕ). length l) (stands_pages s.sealed.pages s.sealed.files is.sealed) in
    let sum : length (pages_of_files (b ++ half_at half ∷ [])) ≡ length (pages_of_files b) + length half.pages =
    ap (λ (l : List ℕ). length l) (flat_map-append (λ (f : FileAt). pages_at f.stand) b (half_at half ∷ [])) ∙ length-append (pages_of_files b) (half.pages ++ []) ∙ ap (λ (l : List ℕ). length (pages_of_files b) + length l) (append-nil half.pages) in
    let last : IsStanding room (half_at half) = All-back (IsStanding room) b (half_at half ∷ []) all zero (half_at half) (omega arith) in
    let counts = subst (λ (h : Option HalfStaged). IfSome h (λ x. (x.count ≤ x.file.length) × (length s.sealed.files < MANIFEST_FILES))) now is.half in
    record {
      filled = is.sealed;
      few = counts.1;
      pages = subst (λ (h : Option HalfStaged). IfSome h (λ x. length s.sealed.pages + length x.pages ≤ MAX_PAGES)) (sym now) (grind (arith, fit, sealed, sum));
      long = subst (λ (h : Option HalfStaged). IfSome h (λ x. length x.pages ≡ needed x.file.length)) (sym now) (last.stored half.pages refl);
    }

-- a new snapshot, of files by id that are whole
pub chosen_fit : (room : ℕ) (current : Shelved) (s : Staged) (listed : List Listed) → room ≤ MAX_ROOM → IsStagedIn room current s → AllPairs (λ f g. f.media.0 < g.media.0) listed → All (λ f. is_among current s f ≡ true) listed → length (pages_of_files (map (chosen (whole_files current s)) listed)) ≤ MAX_PAGES
chosen_fit room current s listed small is up held =
    let whole : List FileAt = whole_files current s in
    grind (arith, pages_fit room (map (chosen whole) listed) (chosen_each (IsStanding room) whole listed (All-front (IsStanding room) whole (half_stands s.half) is.standing) held) (chosen_others whole listed (pairs_front AreOthers whole (half_stands s.half) is.others) up held))

-- a snapshot with nothing staged beside it
pub idle_in : (room : ℕ) (current : Shelved) → IsFilled current → All (IsStanding room) (stands current) → AllPairs AreOthers (stands current) → IsStagedIn room current nothing_staged
idle_in room current filled standing others =
    let all : taken_files current nothing_staged ≡ stands current = append-nil (stands current ++ []) ∙ append-nil (stands current) in
    record {
      filled = filled;
      sealed = refl;
      few = omega arith;
      standing = subst (All (IsStanding room)) (sym all) standing;
      others = subst (AllPairs AreOthers) (sym all) others;
      half = tt;
    }

pub switched_in : (room : ℕ) (current next : Shelved) (s : Staged) (listed : List Listed) → IsStagedIn room current s → AllPairs (λ f g. f.media.0 < g.media.0) listed → All (λ f. is_among current s f ≡ true) listed → IsFilled next → stands next ≡ map (chosen (whole_files current s)) listed → IsStagedIn room next nothing_staged
switched_in room current next s listed is up held filled stand =
    let whole : List FileAt = whole_files current s in
    idle_in room next filled (subst (All (IsStanding room)) (sym stand) (chosen_each (IsStanding room) whole listed (All-front (IsStanding room) whole (half_stands s.half) is.standing) held)) (subst (AllPairs AreOthers) (sym stand) (chosen_others whole listed (pairs_front AreOthers whole (half_stands s.half) is.others) up held))
