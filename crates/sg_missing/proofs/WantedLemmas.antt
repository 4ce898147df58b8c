-- The first file that isn't whole, and how many pieces are missing.
use Rattle.std.proofs.Common.{◌≡◌, ℕ, suc, ◌+◌, ◌<◌, Bool, true, false, List, [], ◌∷◌, ◌++◌, None, Some, length, drop, get_or, refl, sym, ◌∙◌, ap, subst, arith, drop-cons, length-append}
use Rattle.std.specs.Prelude.{if◌then◌else◌, slice_get, IsSomeAnd}
use Rattle.std.specs.List.{All}
use Rattle.std.proofs.lemmas.List.{append-nil}
use Rattle.std.proofs.lemmas.List.Elements.{All-head, All-tail}
use Rattle.sg_base.specs.declared.file.Listed.{Listed}
use Rattle.sg_missing.specs.Missing.{Holding, first_missing, missing, pieces_of, staged_of}

one_more : (i : ℕ) → i + 1 ≡ suc i
one_more i = omega arith

some_same : (a b : Listed) → Some a ≡ Some b → a ≡ b
some_same a b same = cc

-- none of these is whole but each
pub none_missing : (here : Holding) (files : List Listed) → first_missing here.holds files ≡ None → missing here files ≡ []
none_missing here [] none = refl
none_missing here (f ∷ fs) none = by_test (none_missing here fs) (here.holds f) none
  where
    by_test : (first_missing here.holds fs ≡ None → missing here fs ≡ []) → (held : Bool) → (if held then first_missing here.holds fs else Some f) ≡ None
        → (if held then missing here fs else pieces_of here.part f ++ missing here fs) ≡ []
    by_test rest true none = rest none
    by_test rest false none = absurd (cc)

pub first_entry : (here : Holding) (files : List Listed) (file : Listed) → first_missing here.holds files ≡ Some file
    → IsSomeAnd (slice_get (missing here files) 0) (λ (entry : ℕ × ℕ). entry ≡ (file.media.0, staged_of here.part file))
first_entry here [] file first = absurd (cc)
first_entry here (f ∷ fs) file first = by_test (first_entry here fs file) (here.holds f) first
  where
    by_test : (first_missing here.holds fs ≡ Some file
        → IsSomeAnd (slice_get (missing here fs) 0) (λ (entry : ℕ × ℕ). entry ≡ (file.media.0, staged_of here.part file)))
        → (held : Bool) → (if held then first_missing here.holds fs else Some f) ≡ Some file
        → IsSomeAnd (slice_get (if held then missing here fs else pieces_of here.part f ++ missing here fs) 0)
        (λ (entry : ℕ × ℕ). entry ≡ (file.media.0, staged_of here.part file))
    by_test rest true first = rest first
    by_test rest false first = ap (λ (g : Listed). (g.media.0, staged_of here.part g)) (some_same f file first)

-- what holds of each holds of the first that isn't whole
pub first_has : (P : Listed → Type 0) (holds : Listed → Bool) (files : List Listed) (file : Listed) → All P files
    → first_missing holds files ≡ Some file → P file
first_has P holds [] file each first = absurd (cc)
first_has P holds (f ∷ fs) file each first = by_test (first_has P holds fs file (All-tail P f fs each)) (holds f) first
  where
    by_test : (first_missing holds fs ≡ Some file → P file) → (held : Bool) → (if held then first_missing holds fs else Some f) ≡ Some file → P file
    by_test rest true first = rest first
    by_test rest false first = subst P (some_same f file first) (All-head P f fs each)

-- one file more
pub length-missing : (here : Holding) (f : Listed) (fs : List Listed) → length (missing here (f ∷ fs)) ≡ length (missing here (f ∷ [])) + length (missing here fs)
length-missing here f fs = by_test (here.holds f)
  where
    by_test : (held : Bool) → length (if held then missing here fs else pieces_of here.part f ++ missing here fs)
        ≡ length (if held then [] else pieces_of here.part f ++ []) + length (missing here fs)
    by_test true = omega arith
    by_test false = length-append (pieces_of here.part f) (missing here fs)
        ∙ ap (λ (n : ℕ). n + length (missing here fs)) (sym (ap length (append-nil (pieces_of here.part f))))

-- the files that are left after one that is whole
pub first_left : (holds : Listed → Bool) (files : List Listed) (i : ℕ) (d : Listed) → i < length files → holds (get_or files i d) ≡ true
    → first_missing holds (drop i files) ≡ first_missing holds (drop (i + 1) files)
first_left holds files i d lt held =
    ap (first_missing holds) (drop-cons files i d lt)
    ∙ ap (λ (h : Bool). if h then first_missing holds (drop (suc i) files) else Some (get_or files i d)) held
    ∙ ap (λ (k : ℕ). first_missing holds (drop k files)) (sym (one_more i))

pub first_found : (holds : Listed → Bool) (files : List Listed) (i : ℕ) (d : Listed) → i < length files → holds (get_or files i d) ≡ false
    → first_missing holds (drop i files) ≡ Some (get_or files i d)
first_found holds files i d lt held =
    ap (first_missing holds) (drop-cons files i d lt)
    ∙ ap (λ (h : Bool). if h then first_missing holds (drop (suc i) files) else Some (get_or files i d)) held

pub count_left : (here : Holding) (files : List Listed) (i : ℕ) (d : Listed) → i < length files
    → length (missing here (drop i files)) ≡ length (missing here (get_or files i d ∷ [])) + length (missing here (drop (i + 1) files))
count_left here files i d lt =
    ap (λ (l : List Listed). length (missing here l)) (drop-cons files i d lt)
    ∙ length-missing here (get_or files i d) (drop (suc i) files)
    ∙ ap (λ (k : ℕ). length (missing here (get_or files i d ∷ [])) + length (missing here (drop k files))) (sym (one_more i))
