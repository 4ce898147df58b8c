-- What is missing of a list of files, after bytes of the first that isn't whole.
use Rattle.std.proofs.Common.{◌≡◌, ℕ, suc, ◌+◌, ◌*◌, ◌/◌, ◌≤◌, ◌<◌, ◌==◌, ◌||◌, Bool, true, false, List, [], ◌∷◌, ◌++◌, None, Some, map, drop, refl, sym, ◌∙◌, ap, subst, arith}
use Rattle.std.specs.Prelude.{if◌then◌else◌}
use Rattle.std.specs.declared.option.Option.{Option}
use Rattle.std.specs.List.{All, AllPairs}
use Rattle.std.proofs.lemmas.Bool.{and_from, and_left, and_parts, eq-eqb, eqb-false, eqb-true, ne_eqb}
use Rattle.std.proofs.lemmas.Cmp.{nat_list_eq_equiv}
use Rattle.std.proofs.lemmas.List.Elements.{All-head, All-tail, All-weaker}
use Rattle.sg_base.specs.declared.file.Listed.{Listed}
use Rattle.sg_base.specs.declared.limits.TheConstants.{PIECE_LEN}
use Rattle.sg_placing.specs.Placing.{same_file}
use Rattle.sg_missing.specs.Missing.{AreFiles, Holding, IsAlone, first_missing, holding, missing, pieces_of, staged_of, with_bytes}
use Rattle.sg_missing.specs.Pieces.{missing_from, piece_end}
use Rattle.sg_missing.proofs.PieceLemmas.{missing_last, missing_more, missing_rest}

-- ---- files with larger ids

pub pairs_head : (file : Listed) (files : List Listed) → AllPairs (λ (f g : Listed). f.media.0 < g.media.0) (file ∷ files)
    → All (λ (g : Listed). file.media.0 < g.media.0) files
pairs_head file files pairs = λ k d lt. pairs 0 (suc k) d (omega arith) (omega (arith, lt))

pub pairs_tail : (file : Listed) (files : List Listed) → AllPairs (λ (f g : Listed). f.media.0 < g.media.0) (file ∷ files)
    → AllPairs (λ (f g : Listed). f.media.0 < g.media.0) files
pairs_tail file files pairs = λ i j d lt within. pairs (suc i) (suc j) d (omega (arith, lt)) (omega (arith, within))

pub files_tail : (file : Listed) (files : List Listed) → AreFiles (file ∷ files) → AreFiles files
files_tail file files are = record {
  some = All-tail (λ (f : Listed). 1 ≤ f.length) file files are.some;
  ascending = pairs_tail file files are.ascending;
}

-- a file of another id is another one
apart : (f g : Listed) → (f.media.0 ≡ g.media.0 → ⊥) → same_file f g ≡ false
apart f g differ = and_left (f.media.0 == g.media.0) _ (ne_eqb f.media.0 g.media.0 differ)

same_media : (f g : Listed) → same_file f g ≡ true → f.media.0 ≡ g.media.0
same_media f g same = eqb-true f.media.0 g.media.0 (and_parts (f.media.0 == g.media.0) _ same).0

-- ---- what is held of files behind the one that came

-- the same is held of a file
abbrev IsAsBefore : Holding → Holding → Listed → Type 0
IsAsBefore a b f = (a.holds f ≡ b.holds f) × (staged_of a.part f ≡ staged_of b.part f)

missing_same : (a b : Holding) (files : List Listed) → All (IsAsBefore a b) files → missing a files ≡ missing b files
missing_same a b [] same = refl
missing_same a b (f ∷ fs) same =
    let first : IsAsBefore a b f = All-head (IsAsBefore a b) f fs same in
    let rest = missing_same a b fs (All-tail (IsAsBefore a b) f fs same) in
    ap (λ (held : Bool). if held then missing a fs else pieces_of a.part f ++ missing a fs) first.0
    ∙ ap (λ (more : List (ℕ × ℕ)). if b.holds f then more else pieces_of a.part f ++ more) rest
    ∙ ap (λ (here : ℕ). if b.holds f then missing b fs else map (λ (at : ℕ). (f.media.0, at)) (missing_from here f.length) ++ missing b fs) first.1

-- nothing is staged of a file with another id than the one that is staged alone
not_staged : (part : Option (Listed × ℕ)) (file g : Listed) → IsAlone part file → (file.media.0 ≡ g.media.0 → ⊥) → staged_of part g ≡ 0
not_staged None file g alone differ = refl
not_staged (Some p) file g alone differ =
    ap (λ (same : Bool). if same then p.1 else 0) (apart p.0 g (λ same. differ (sym (same_media p.0 file alone.0) ∙ same)))

pub alone_lacks : (part : Option (Listed × ℕ)) (file : Listed) → IsAlone part file → staged_of part file < file.length
alone_lacks None file alone = omega (arith, alone)
alone_lacks (Some p) file alone = subst (λ (same : Bool). (if same then p.1 else 0) < file.length) (sym alone.0) alone.1

pub same_self : (f : Listed) → same_file f f ≡ true
same_self f = and_from (f.media.0 == f.media.0) _ (eq-eqb f.media.0 f.media.0 refl)
    (and_from (f.length == f.length) _ (eq-eqb f.length f.length refl) (nat_list_eq_equiv.refl f.md5))

or_false : (b : Bool) → b ≡ (b || false)
or_false true = refl
or_false false = refl

or_true : (b : Bool) → (b || true) ≡ true
or_true true = refl
or_true false = refl

-- what is held after bytes of a file, by whether these were its last
abbrev pub came : Holding → Listed → ℕ → Bool → Holding
came here file count last =
    if last then holding (λ f. here.holds f || same_file file f) None else holding here.holds (Some (file, staged_of here.part file + count))

behind : (here : Holding) (file : Listed) (count : ℕ) (last : Bool) (files : List Listed) → IsAlone here.part file
    → All (λ (g : Listed). file.media.0 < g.media.0) files → All (IsAsBefore here (came here file count last)) files
behind here file count last files alone larger = All-weaker (λ (g : Listed). file.media.0 < g.media.0) (IsAsBefore here (came here file count last)) (each last) files larger
  where
    each : (last : Bool) (g : Listed) → file.media.0 < g.media.0 → IsAsBefore here (came here file count last) g
    each true g lt =
        let differ : file.media.0 ≡ g.media.0 → ⊥ = λ same. absurd (omega (arith, lt, same)) in
        (or_false (here.holds g) ∙ ap (λ (b : Bool). here.holds g || b) (sym (apart file g differ)), not_staged here.part file g alone differ)
    each false g lt =
        let differ : file.media.0 ≡ g.media.0 → ⊥ = λ same. absurd (omega (arith, lt, same)) in (
          refl,
          not_staged here.part file g alone differ
              ∙ ap (λ (same : Bool). if same then staged_of here.part file + count else 0) (sym (apart file g differ)),
        )

-- what is whole stays whole
still_held : (here : Holding) (file : Listed) (count : ℕ) (last : Bool) (f : Listed) → here.holds f ≡ true → (came here file count last).holds f ≡ true
still_held here file count true f held = ap (λ (b : Bool). b || same_file file f) held
still_held here file count false f held = held

-- ---- bytes of the first file that isn't whole

-- a list with that file at its front
first_here : (here : Holding) (f : Listed) (fs : List Listed) (count : ℕ) (last : Bool) → AreFiles (f ∷ fs) → IsAlone here.part f → here.holds f ≡ false
    → (staged_of here.part f + count == f.length) ≡ last
    → staged_of here.part f + count ≡ piece_end (staged_of here.part f) f.length
    → pieces_of here.part f ++ missing here fs ≡ (f.media.0, staged_of here.part f) ∷ missing (came here f count last) (f ∷ fs)
first_here here f fs count true are alone held is ends =
    let total = eqb-true (staged_of here.part f + count) f.length is in
    let rest = missing_same here (came here f count true) fs (behind here f count true fs alone (pairs_head f fs are.ascending)) in
    ap (λ (ats : List ℕ). map (λ (at : ℕ). (f.media.0, at)) ats ++ missing here fs)
    (missing_last (staged_of here.part f) f.length (alone_lacks here.part f alone) (ends_with (staged_of here.part f) count f.length total ends))
    ∙ ap (λ (more : List (ℕ × ℕ)). (f.media.0, staged_of here.part f) ∷ more)
    (rest ∙ ap (λ (held : Bool). if held then missing (came here f count true) fs else pieces_of None f ++ missing (came here f count true) fs)
    (sym (ap (λ (b : Bool). here.holds f || b) (same_self f) ∙ or_true (here.holds f))))
  where
    ends_with : (at count n : ℕ) → at + count ≡ n → at + count ≡ piece_end at n → n ≤ PIECE_LEN * (at / PIECE_LEN + 1)
    ends_with at count n total ends = omega (arith, total, ends)
first_here here f fs count false are alone held is ends =
    let at = staged_of here.part f in
    let next = next_piece at count f.length (λ total. eqb-false (at + count) f.length is total) ends in
    let rest = missing_same here (came here f count false) fs (behind here f count false fs alone (pairs_head f fs are.ascending)) in
    ap (λ (ats : List ℕ). map (λ (at : ℕ). (f.media.0, at)) ats ++ missing here fs)
    (missing_more at f.length (subst (λ (n : ℕ). n < f.length) next.0 next.1) ∙ ap (λ (n : ℕ). at ∷ missing_from n f.length) (sym next.0))
    ∙ ap (λ (more : List (ℕ × ℕ)). (f.media.0, at) ∷ more)
    (ap (λ (more : List (ℕ × ℕ)). map (λ (n : ℕ). (f.media.0, n)) (missing_from (at + count) f.length) ++ more) rest
    ∙ ap (λ (n : ℕ). map (λ (n : ℕ). (f.media.0, n)) (missing_from n f.length) ++ missing (came here f count false) fs)
    (sym (ap (λ (same : Bool). if same then at + count else 0) (same_self f)))
    ∙ ap (λ (h : Bool). if h then missing (came here f count false) fs
    else pieces_of (Some (f, at + count)) f ++ missing (came here f count false) fs) (sym held))
  where
    next_piece : (at count n : ℕ) → (at + count ≡ n → ⊥) → at + count ≡ piece_end at n → (at + count ≡ PIECE_LEN * (at / PIECE_LEN + 1)) × (at + count < n)
    next_piece at count n not ends = (omega (arith, not, ends), omega (arith, not, ends))

-- bytes that end ahead of their piece
first_part : (here : Holding) (f : Listed) (fs : List Listed) (count : ℕ) → AreFiles (f ∷ fs) → IsAlone here.part f → here.holds f ≡ false
    → staged_of here.part f + count < piece_end (staged_of here.part f) f.length
    → missing (came here f count false) (f ∷ fs)
    ≡ (f.media.0, staged_of here.part f + count) ∷ drop 1 (pieces_of here.part f ++ missing here fs)
first_part here f fs count are alone held ends =
    let at = staged_of here.part f in
    let rest = missing_same here (came here f count false) fs (behind here f count false fs alone (pairs_head f fs are.ascending)) in
    ap (λ (h : Bool). if h then missing (came here f count false) fs else pieces_of (Some (f, at + count)) f ++ missing (came here f count false) fs) held
    ∙ ap (λ (n : ℕ). map (λ (n : ℕ). (f.media.0, n)) (missing_from n f.length) ++ missing (came here f count false) fs)
    (ap (λ (same : Bool). if same then at + count else 0) (same_self f))
    ∙ ap (λ (ats : List ℕ). map (λ (n : ℕ). (f.media.0, n)) ats ++ missing (came here f count false) fs) (missing_rest at count f.length ends)
    ∙ ap (λ (more : List (ℕ × ℕ)). (f.media.0, at + count) ∷ (map (λ (n : ℕ). (f.media.0, n)) (drop 1 (missing_from at f.length)) ++ more)) (sym rest)

some_same : (a b : Listed) → Some a ≡ Some b → a ≡ b
some_same a b same = cc

pub came_whole : (here : Holding) (files : List Listed) (file : Listed) (count : ℕ) (last : Bool) → AreFiles files → IsAlone here.part file
    → first_missing here.holds files ≡ Some file → (staged_of here.part file + count == file.length) ≡ last
    → staged_of here.part file + count ≡ piece_end (staged_of here.part file) file.length
    → missing here files ≡ (file.media.0, staged_of here.part file) ∷ missing (came here file count last) files
came_whole here [] file count last are alone first is ends = absurd (cc)
came_whole here (f ∷ fs) file count last are alone first is ends =
    by_test (λ later. came_whole here fs file count last (files_tail f fs are) alone later is ends) (here.holds f) refl first
  where
    by_test : (first_missing here.holds fs ≡ Some file → missing here fs ≡ (file.media.0, staged_of here.part file) ∷ missing (came here file count last) fs)
        → (held : Bool) → here.holds f ≡ held → (if held then first_missing here.holds fs else Some f) ≡ Some file
        → (if held then missing here fs else pieces_of here.part f ++ missing here fs)
        ≡ (file.media.0, staged_of here.part file) ∷ missing (came here file count last) (f ∷ fs)
    by_test rest true held first =
        rest first
        ∙ ap (λ (h : Bool). (file.media.0, staged_of here.part file) ∷ (if h then missing (came here file count last) fs
        else pieces_of (came here file count last).part f ++ missing (came here file count last) fs)) (sym (still_held here file count last f held))
    by_test rest false held first =
        subst (λ (g : Listed). pieces_of here.part f ++ missing here fs
        ≡ (g.media.0, staged_of here.part g) ∷ missing (came here g count last) (f ∷ fs)) (some_same f file first)
        (first_here here f fs count last are (subst (IsAlone here.part) (sym (some_same f file first)) alone) held
        (subst (λ (g : Listed). (staged_of here.part g + count == g.length) ≡ last) (sym (some_same f file first)) is)
        (subst (λ (g : Listed). staged_of here.part g + count ≡ piece_end (staged_of here.part g) g.length) (sym (some_same f file first)) ends))

pub came_part : (here : Holding) (files : List Listed) (file : Listed) (count : ℕ) → AreFiles files → IsAlone here.part file
    → first_missing here.holds files ≡ Some file
    → staged_of here.part file + count < piece_end (staged_of here.part file) file.length
    → missing (came here file count false) files ≡ (file.media.0, staged_of here.part file + count) ∷ drop 1 (missing here files)
came_part here [] file count are alone first ends = absurd (cc)
came_part here (f ∷ fs) file count are alone first ends =
    by_test (λ later. came_part here fs file count (files_tail f fs are) alone later ends) (here.holds f) refl first
  where
    by_test : (first_missing here.holds fs ≡ Some file
        → missing (came here file count false) fs ≡ (file.media.0, staged_of here.part file + count) ∷ drop 1 (missing here fs))
        → (held : Bool) → here.holds f ≡ held → (if held then first_missing here.holds fs else Some f) ≡ Some file
        → missing (came here file count false) (f ∷ fs)
        ≡ (file.media.0, staged_of here.part file + count) ∷ drop 1 (if held then missing here fs else pieces_of here.part f ++ missing here fs)
    by_test rest true held first =
        ap (λ (h : Bool). if h then missing (came here file count false) fs
        else pieces_of (came here file count false).part f ++ missing (came here file count false) fs) held
        ∙ rest first
    by_test rest false held first =
        subst (λ (g : Listed). missing (came here g count false) (f ∷ fs)
        ≡ (g.media.0, staged_of here.part g + count) ∷ drop 1 (pieces_of here.part f ++ missing here fs)) (some_same f file first)
        (first_part here f fs count are (subst (IsAlone here.part) (sym (some_same f file first)) alone) held
        (subst (λ (g : Listed). staged_of here.part g + count < piece_end (staged_of here.part g) g.length) (sym (some_same f file first)) ends))

-- the same of what is held after bytes of a file
pub whole_comes : (here : Holding) (files : List Listed) (file : Listed) (count : ℕ) → AreFiles files → IsAlone here.part file
    → first_missing here.holds files ≡ Some file
    → staged_of here.part file + count ≡ piece_end (staged_of here.part file) file.length
    → missing here files ≡ (file.media.0, staged_of here.part file) ∷ missing (with_bytes here file count) files
whole_comes here files file count are alone first ends =
    came_whole here files file count (staged_of here.part file + count == file.length) are alone first refl ends

pub part_comes : (here : Holding) (files : List Listed) (file : Listed) (count : ℕ) → AreFiles files → IsAlone here.part file
    → first_missing here.holds files ≡ Some file
    → staged_of here.part file + count < piece_end (staged_of here.part file) file.length
    → missing (with_bytes here file count) files ≡ (file.media.0, staged_of here.part file + count) ∷ drop 1 (missing here files)
part_comes here files file count are alone first ends =
    ap (λ (last : Bool). missing (came here file count last) files)
    (ne_eqb (staged_of here.part file + count) file.length (λ total. lacks (staged_of here.part file) count file.length ends total))
    ∙ came_part here files file count are alone first ends
  where
    lacks : (at count n : ℕ) → at + count < piece_end at n → at + count ≡ n → ⊥
    lacks at count n ends total = absurd (omega (arith, ends, total))
