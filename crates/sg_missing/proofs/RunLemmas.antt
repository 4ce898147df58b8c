-- After as many whole pieces as are missing of some files, nothing is.
use Rattle.std.proofs.Common.{◌≡◌, ℕ, zero, suc, ◌+◌, ◌-◌, ◌==◌, ◌≤◌, ◌<◌, Bool, true, false, List, [], ◌∷◌, None, Some, length, refl, sym, ◌∙◌, ap, subst, arith}
use Rattle.std.specs.declared.option.Option.{Option}
use Rattle.std.proofs.lemmas.Bool.{eqb-false}
use Rattle.sg_base.specs.declared.file.Listed.{Listed}
use Rattle.sg_missing.specs.Missing.{AreFiles, Holding, IsAlone, IsOf, IsUnderWay, after_pieces, first_missing, missing, staged_of, with_bytes, with_piece}
use Rattle.sg_missing.specs.Pieces.{piece_end}
use Rattle.sg_missing.proofs.FileLemmas.{alone_lacks, came, same_self, whole_comes}
use Rattle.sg_missing.proofs.WantedLemmas.{first_has, none_missing}

nothing_left : (entries : List (ℕ × ℕ)) → length entries ≡ 0 → entries ≡ []
nothing_left [] none = refl
nothing_left (e ∷ es) none = absurd (omega (arith, none))

-- what is staged of the first file that isn't whole is staged alone
is_alone : (part : Option (Listed × ℕ)) (file : Listed) → 1 ≤ file.length → IsOf part (Some file) → IsAlone part file
is_alone None file some of = some
is_alone (Some part) file some of = of

ends_there : (at n : ℕ) → at < n → at + (piece_end at n - at) ≡ piece_end at n
ends_there at n lt = omega (arith, lt)

-- after a piece of the first file, what is staged is of the first file still
goes_on : (here : Holding) (files : List Listed) (file : Listed) → first_missing here.holds files ≡ Some file → staged_of here.part file < file.length
    → IsUnderWay (with_bytes here file (piece_end (staged_of here.part file) file.length - staged_of here.part file)) files
goes_on here files file first lt =
    by_last (staged_of here.part file + (piece_end (staged_of here.part file) file.length - staged_of here.part file) == file.length) refl
  where
    under : (at n : ℕ) → at < n → (at + (piece_end at n - at) ≡ n → ⊥) → at + (piece_end at n - at) < n
    under at n lt not = omega (arith, lt, not)

    by_last : (last : Bool)
        → (staged_of here.part file + (piece_end (staged_of here.part file) file.length - staged_of here.part file) == file.length) ≡ last
        → IsUnderWay (came here file (piece_end (staged_of here.part file) file.length - staged_of here.part file) last) files
    by_last true is = tt
    by_last false is =
        subst (λ (f : Option Listed). IsOf (Some (file, staged_of here.part file + (piece_end (staged_of here.part file) file.length - staged_of here.part file))) f)
        (sym first) (same_self file, under (staged_of here.part file) file.length lt (eqb-false _ file.length is))

-- one piece, where one is missing
one_less : (here : Holding) (files : List Listed) (file : Listed) (more : ℕ) → AreFiles files → IsUnderWay here files → first_missing here.holds files ≡ Some file
    → length (missing here files) ≡ suc more
    → IsUnderWay (with_piece here (Some file)) files × (length (missing (with_piece here (Some file)) files) ≡ more)
one_less here files file more are way first long =
    let alone : IsAlone here.part file = is_alone here.part file (first_has (λ (f : Listed). 1 ≤ f.length) here.holds files file are.some first)
    (subst (IsOf here.part) first way) in
    let lt : staged_of here.part file < file.length = alone_lacks here.part file alone in
    let comes = whole_comes here files file (piece_end (staged_of here.part file) file.length - staged_of here.part file) are alone first
    (ends_there (staged_of here.part file) file.length lt) in
    (goes_on here files file first lt, shorter _ more (sym (ap length comes) ∙ long))
  where
    shorter : (rest : List (ℕ × ℕ)) (more : ℕ) → suc (length rest) ≡ suc more → length rest ≡ more
    shorter rest more is = omega (arith, is)

pub all_come : (more : ℕ) (here : Holding) (files : List Listed) → AreFiles files → IsUnderWay here files → length (missing here files) ≡ more
    → missing (after_pieces more here files) files ≡ []
all_come zero here files are way long = nothing_left (missing here files) long
all_come (suc more) here files are way long =
    by_first (λ next under left. all_come more next files are under left) (first_missing here.holds files) refl
  where
    by_first : ((next : Holding) → IsUnderWay next files → length (missing next files) ≡ more → missing (after_pieces more next files) files ≡ [])
        → (first : Option Listed) → first_missing here.holds files ≡ first → missing (after_pieces more (with_piece here first) files) files ≡ []
    by_first rest None first = absurd (omega (arith, long, ap length (none_missing here files first)))
    by_first rest (Some file) first =
        let less = one_less here files file more are way first long in
        rest (with_piece here (Some file)) less.0 less.1

pub all_pieces : (here : Holding) (files : List Listed) → AreFiles files → IsUnderWay here files
    → missing (after_pieces (length (missing here files)) here files) files ≡ []
all_pieces here files are way = all_come (length (missing here files)) here files are way refl
