-- Files chosen among those that are whole.
use Rattle.std.proofs.Common.{◌≡◌, inl, inr, ℕ, zero, suc, ◌+◌, ◌<◌, ◌≤◌, eqb, ◌==◌, ◌&&◌, ◌||◌, if◌then◌else◌, take, drop, Bool, true, false, cond, List, [], ◌∷◌, ◌++◌, length, get_or, map, Option, None, Some, is_some, option_map, unwrap_or, All, AllPairs, refl, sym, ◌∙◌, ap, subst, arith, length-drop, length-append}
use Rattle.std.specs.Cmp.Lexicographic.{pointwise}
use Rattle.std.specs.Option.{option_or}
use Rattle.std.proofs.lemmas.Bool.{cases_Bool, cases_lt, cases_eq, true≢false, and_parts, eqb-true, ne_eqb}
use Rattle.std.proofs.lemmas.Slice.Eq.{bytes_eq-Decides}
use Rattle.std.proofs.lemmas.Grind.{flat_map-append}
use Rattle.std.proofs.lemmas.List.{length-take-le, map-append, take_more, take-map, take-append-drop}
use Rattle.std.proofs.lemmas.List.Folds.{find-append}
use Rattle.std.proofs.lemmas.List.Elements.{All-cons}
use Rattle.std.proofs.lemmas.List.Kept.{AllPairs-cons}
use Rattle.sg_base.specs.declared.file.Listed.{Listed}
use Rattle.sg_disk.specs.Contents.{Segment, taken_at}
use Rattle.sg_disk.specs.Contents.{Extent, Pages}
use Rattle.sg_placing.specs.Placing.{same_file}
use Rattle.sg_pages.specs.Pages.{needed}
use Rattle.sg_pages.specs.Shelves.{FileAt, found_at, pages_for}
use Rattle.sg_pages.specs.declared.shelf.Found.{Found}
use Rattle.sg_contents.specs.Lawful.{AreBeside, pages_at}
use Rattle.sg_contents.proofs.Pairs.{pairs_head, pairs_tail}
use Rattle.sg_staging.specs.Staged.{stands_as, chosen, pages_of_files, AreApart, AreOthers}

-- a listed file among these: its place in the list
pub record Member (files : List FileAt) (f : Listed) : Type 0 where
  pub q : FileAt
  pub found : stands_as files f ≡ Some q
  pub same : q.file ≡ f
  pub k : ℕ
  pub lt : k < length files
  pub at : (d : FileAt) → get_or files k d ≡ q

pub same_by : (a b : Listed) → same_file a b ≡ true → a ≡ b
same_by a b passes =
    let one = and_parts (eqb a.media.0 b.media.0) (eqb a.length b.length && pointwise eqb a.md5 b.md5) passes in
    let two = and_parts (eqb a.length b.length) (pointwise eqb a.md5 b.md5) one.1 in
    let media : a.media.0 ≡ b.media.0 = eqb-true a.media.0 b.media.0 one.0 in
    let long : a.length ≡ b.length = eqb-true a.length b.length two.0 in
    let digest : a.md5 ≡ b.md5 = (bytes_eq-Decides a.md5 b.md5).0 two.1 in
    ap (λ (m : ℕ). made m a.length a.md5) media ∙ ap (λ (l : ℕ). made b.media.0 l a.md5) long ∙ ap (λ (d : List ℕ). made b.media.0 b.length d) digest
  where
    made : ℕ → ℕ → List ℕ → Listed
    made m l d = record { media = record { 0 = m }; length = l; md5 = d }

pub member : (files : List FileAt) (f : Listed) → is_some (stands_as files f) ≡ true → Member files f
member [] f some = absurd (true≢false (sym some))
member (p ∷ files) f some = elim (cases_Bool (same_file p.file f)) [
  | inl here ↦ record {
    q = p;
    found = ap (λ (b : Bool). cond b (Some p) (stands_as files f)) here;
    same = same_by p.file f here;
    k = 0;
    lt = omega arith;
    at = λ d. refl;
  }
  | inr other ↦
      let later : stands_as (p ∷ files) f ≡ stands_as files f = ap (λ (b : Bool). cond b (Some p) (stands_as files f)) other in
      let m : Member files f = member files f (sym (ap is_some later) ∙ some) in
      record {
        q = m.q;
        found = later ∙ m.found;
        same = m.same;
        k = suc m.k;
        lt = omega (arith, m.lt);
        at = m.at;
      }
]

pub chosen_is : (files : List FileAt) (f : Listed) (m : Member files f) → chosen files f ≡ m.q
chosen_is files f m = ap (λ (o : Option FileAt). unwrap_or o (record { file = f; stand = Pages [] })) m.found

-- a file that isn't found is another one than each
pub none_same : (files : List FileAt) (f : Listed) → is_some (stands_as files f) ≡ false → All (λ g. same_file g.file f ≡ false) files
none_same [] f none k d lt = absurd (omega (arith, lt))
none_same (p ∷ files) f none k d lt = elim (cases_Bool (same_file p.file f)) [
  | inl here ↦
      let found : stands_as (p ∷ files) f ≡ Some p = ap (λ (b : Bool). cond b (Some p) (stands_as files f)) here in
      absurd (true≢false (sym (ap is_some found) ∙ none))
  | inr other ↦ rest (λ later. none_same files f later) k other lt
]
  where
    rest : (is_some (stands_as files f) ≡ false → All (λ g. same_file g.file f ≡ false) files) → (k : ℕ) → same_file p.file f ≡ false → k < length (p ∷ files) → same_file (get_or (p ∷ files) k d).file f ≡ false
    rest more zero other lt = other
    rest more (suc k) other lt =
        let later : stands_as (p ∷ files) f ≡ stands_as files f = ap (λ (b : Bool). cond b (Some p) (stands_as files f)) other in
        more (sym (ap is_some later) ∙ none) k d (omega (arith, lt))

-- two files differ by their ids
pub other_file : (a b : Listed) → a.media.0 < b.media.0 → same_file a b ≡ false
other_file a b below = grind (arith, ne_eqb a.media.0 b.media.0 (λ same. omega (arith, below, same)))

-- neither order matters
pub beside_swapped : (s t : Segment) → AreBeside s t → AreBeside t s
beside_swapped s t (inl below) = inr below
beside_swapped s t (inr above) = inl above

apart_swapped : (f g : FileAt) → AreApart f g → AreApart g f
apart_swapped f g apart k d lt i e below = beside_swapped (get_or (taken_at f.file.length f.stand) i e) (get_or (taken_at g.file.length g.stand) k d) (apart i e below k d lt)

-- what holds of each file holds of the chosen ones
pub chosen_each : (P : FileAt → Type 0) (files : List FileAt) (listed : List Listed) → All P files → All (λ f. is_some (stands_as files f) ≡ true) listed → All P (map (chosen files) listed)
chosen_each P files [] all held = λ k d lt. absurd (omega (arith, lt))
chosen_each P files (f ∷ listed) all held =
    let m : Member files f = member files f (held zero f (omega arith)) in
    All-cons P (chosen files f) (map (chosen files) listed) (subst P (sym (chosen_is files f m)) (subst P (m.at m.q) (all m.k m.q m.lt))) (chosen_each P files listed all (λ k d lt. held (suc k) d (omega (arith, lt))))

two_others : (files : List FileAt) (f g : Listed) (m : Member files f) (n : Member files g) → AllPairs AreOthers files → f.media.0 < g.media.0 → AreOthers m.q n.q
two_others files f g m n others below = record {
  other = other_file m.q.file n.q.file (omega (arith, below, ap (λ (l : Listed). l.media.0) m.same, ap (λ (l : Listed). l.media.0) n.same));
  apart = elim (cases_lt m.k n.k) [
    | inl before ↦ by_places m.q n.q (m.at m.q) (n.at m.q) (others m.k n.k m.q before n.lt).apart
    | inr after ↦ elim (cases_eq m.k n.k) [
      | inl same ↦
          let one : m.q ≡ n.q = sym (m.at m.q) ∙ ap (λ (k : ℕ). get_or files k m.q) same ∙ n.at m.q in
          absurd (omega (arith, below, ap (λ (l : Listed). l.media.0) m.same, ap (λ (l : Listed). l.media.0) n.same, ap (λ (x : FileAt). x.file.media.0) one))
      | inr differ ↦ apart_swapped n.q m.q (by_places n.q m.q (n.at m.q) (m.at m.q) (others n.k m.k m.q (omega (arith, after, differ)) m.lt).apart)
    ]
  ];
}
  where
    by_places : (x y : FileAt) {a b : FileAt} → a ≡ x → b ≡ y → AreApart a b → AreApart x y
    by_places x y {a} {b} first second apart = subst (λ (z : FileAt). AreApart x z) second (subst (λ (z : FileAt). AreApart z b) first apart)

others_of : (files : List FileAt) (f : Listed) (m : Member files f) (listed : List Listed) → AllPairs AreOthers files → All (λ g. f.media.0 < g.media.0) listed → All (λ g. is_some (stands_as files g) ≡ true) listed → All (AreOthers m.q) (map (chosen files) listed)
others_of files f m [] others below held = λ k d lt. absurd (omega (arith, lt))
others_of files f m (g ∷ listed) others below held =
    let n : Member files g = member files g (held zero g (omega arith)) in
    All-cons (AreOthers m.q) (chosen files g) (map (chosen files) listed) (subst (AreOthers m.q) (sym (chosen_is files g n)) (two_others files f g m n others (below zero g (omega arith)))) (others_of files f m listed others (λ k d lt. below (suc k) d (omega (arith, lt))) (λ k d lt. held (suc k) d (omega (arith, lt))))

-- files of ascending ids, chosen among others
pub chosen_others : (files : List FileAt) (listed : List Listed) → AllPairs AreOthers files → AllPairs (λ f g. f.media.0 < g.media.0) listed → All (λ f. is_some (stands_as files f) ≡ true) listed → AllPairs AreOthers (map (chosen files) listed)
chosen_others files [] others up held = λ i j d lt below. absurd (omega (arith, below))
chosen_others files (f ∷ listed) others up held =
    let m : Member files f = member files f (held zero f (omega arith)) in
    let rest : All (λ g. is_some (stands_as files g) ≡ true) listed = λ k d lt. held (suc k) d (omega (arith, lt)) in
    AllPairs-cons AreOthers (chosen files f) (map (chosen files) listed) (subst (λ (x : FileAt). All (AreOthers x) (map (chosen files) listed)) (sym (chosen_is files f m)) (others_of files f m listed others (pairs_head (λ (a b : Listed). a.media.0 < b.media.0) f listed up) rest)) (chosen_others files listed others (pairs_tail (λ (a b : Listed). a.media.0 < b.media.0) f listed up) rest)

-- the chosen files are the listed ones
pub chosen_files : (files : List FileAt) (listed : List Listed) → All (λ f. is_some (stands_as files f) ≡ true) listed → map (λ p. p.file) (map (chosen files) listed) ≡ listed
chosen_files files [] held = refl
chosen_files files (f ∷ listed) held =
    let m : Member files f = member files f (held zero f (omega arith)) in
    ap (λ (g : Listed). g ∷ map (λ p. p.file) (map (chosen files) listed)) (ap (λ (q : FileAt). q.file) (chosen_is files f m) ∙ m.same) ∙ ap (λ (l : List Listed). f ∷ l) (chosen_files files listed (λ k d lt. held (suc k) d (omega (arith, lt))))

-- the first of two lists has it, or the second one does
pub find_first : (xs ys : List FileAt) (f : Listed) (x : FileAt) → Some x ≡ stands_as xs f → chosen (xs ++ ys) f ≡ x
find_first xs ys f x is =
    ap (λ (o : Option FileAt). unwrap_or o (record { file = f; stand = Pages [] })) (find-append (λ (g : FileAt). same_file g.file f) xs ys ∙ ap (λ (o : Option FileAt). option_or o (stands_as ys f)) (sym is))

pub find_second : (xs ys : List FileAt) (f : Listed) (x : FileAt) → None ≡ stands_as xs f → Some x ≡ stands_as ys f → chosen (xs ++ ys) f ≡ x
find_second xs ys f x none is =
    ap (λ (o : Option FileAt). unwrap_or o (record { file = f; stand = Pages [] })) (find-append (λ (g : FileAt). same_file g.file f) xs ys ∙ ap (λ (o : Option FileAt). option_or o (stands_as ys f)) (sym none) ∙ sym is)

found_either : (xs ys : List FileAt) (f : Listed) → is_some (stands_as (xs ++ ys) f) ≡ (is_some (stands_as xs f) || is_some (stands_as ys f))
found_either xs ys f = ap is_some (find-append (λ (g : FileAt). same_file g.file f) xs ys) ∙ by_first (stands_as xs f)
  where
    by_first : (o : Option FileAt) → is_some (option_or o (stands_as ys f)) ≡ (is_some o || is_some (stands_as ys f))
    by_first None = refl
    by_first (Some x) = refl

pub held_first : (xs ys : List FileAt) (f : Listed) → is_some (stands_as xs f) ≡ true → is_some (stands_as (xs ++ ys) f) ≡ true
held_first xs ys f here = found_either xs ys f ∙ ap (λ (b : Bool). b || is_some (stands_as ys f)) here

pub held_second : (xs ys : List FileAt) (f : Listed) → is_some (stands_as xs f) ≡ false → is_some (stands_as (xs ++ ys) f) ≡ is_some (stands_as ys f)
held_second xs ys f none = found_either xs ys f ∙ ap (λ (b : Bool). b || is_some (stands_as ys f)) none

-- a shelf finds a file exactly if it is on it
pub mapped_some : (g : Found → FileAt) (o : Option Found) (r : Option FileAt) → option_map g o ≡ r → is_some r ≡ is_some o
mapped_some g None r is = ap is_some (sym is)
mapped_some g (Some x) r is = ap is_some (sym is)

-- how many pages a file that was found has
pub found_pages : (pages : List ℕ) (found : Found) → found.first + pages_for found.placed ≤ length pages → length (pages_at (found_at pages found).stand) ≡ pages_for found.placed
found_pages pages found enough = by_place (found.placed.place == 0) enough
  where
    by_place : (b : Bool) → found.first + (if b then needed found.placed.file.length else 0) ≤ length pages → length (pages_at (if b then Pages (take (needed found.placed.file.length) (drop found.first pages)) else Extent found.placed.place)) ≡ (if b then needed found.placed.file.length else 0)
    by_place true le = length-take-le (needed found.placed.file.length) (drop found.first pages) (omega (arith, le, length-drop found.first pages))
    by_place false le = refl

-- the chosen files up to one more
pub chosen_more : (files : List FileAt) (listed : List Listed) (i : ℕ) (d : Listed) → i < length listed → map (chosen files) (take (i + 1) listed) ≡ map (chosen files) (take i listed) ++ chosen files (get_or listed i d) ∷ []
chosen_more files listed i d lt = ap (map (chosen files)) (take_more listed i d lt) ∙ map-append (chosen files) (take i listed) (get_or listed i d ∷ [])

-- some first files have no more pages than all
pages_front : (files : List FileAt) (k : ℕ) → length (pages_of_files (take k files)) ≤ length (pages_of_files files)
pages_front files k =
    let all : pages_of_files files ≡ pages_of_files (take k files) ++ pages_of_files (drop k files) = ap pages_of_files (sym (take-append-drop k files)) ∙ flat_map-append (λ (f : FileAt). pages_at f.stand) (take k files) (drop k files) in
    omega (arith, ap (λ (l : List ℕ). length l) all, length-append (pages_of_files (take k files)) (pages_of_files (drop k files)))

pub chosen_room : (files before : List FileAt) (listed : List Listed) (i n : ℕ) (d : Listed) → i < length listed → before ≡ map (chosen files) (take i listed) → length (pages_of_files (map (chosen files) listed)) ≤ n → length (pages_of_files (before ++ chosen files (get_or listed i d) ∷ [])) ≤ n
chosen_room files before listed i n d lt is fits =
    let all : before ++ chosen files (get_or listed i d) ∷ [] ≡ take (i + 1) (map (chosen files) listed) = ap (λ (l : List FileAt). l ++ chosen files (get_or listed i d) ∷ []) is ∙ sym (chosen_more files listed i d lt) ∙ sym (take-map (chosen files) (i + 1) listed) in
    omega (arith, ap (λ (l : List FileAt). length (pages_of_files l)) all, pages_front (map (chosen files) listed) (i + 1), fits)

-- room for the pages of one file more
pub room_more : (pages : List ℕ) (files : List FileAt) (x : FileAt) (n k : ℕ) → pages_of_files files ≡ pages → length (pages_at x.stand) ≡ k → length (pages_of_files (files ++ x ∷ [])) ≤ n → length pages + k ≤ n
room_more pages files x n k is count fits =
    let all : pages_of_files (files ++ x ∷ []) ≡ pages_of_files files ++ (pages_at x.stand ++ []) = flat_map-append (λ (f : FileAt). pages_at f.stand) files (x ∷ []) in
    omega (arith, ap (λ (l : List ℕ). length l) all, ap (λ (l : List ℕ). length l) is, length-append (pages_of_files files) (pages_at x.stand ++ []), length-append (pages_at x.stand) [], count, fits)
