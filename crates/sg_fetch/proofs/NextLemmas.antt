-- The first piece that is missing is the next of its file.
use Rattle.std.proofs.Common.{◌≡◌, ℕ, suc, ◌+◌, ◌%◌, ◌<◌, ◌≤◌, Bool, true, false, List, [], ◌∷◌, None, Some, length, if◌then◌else◌, refl, sym, ◌∙◌, ap, subst, arith}
use Rattle.std.specs.Prelude.{Contains}
use Rattle.std.specs.declared.option.Option.{Option}
use Rattle.sg_base.specs.declared.file.Listed.{Listed}
use Rattle.sg_base.specs.declared.limits.TheConstants.{PIECE_LEN}
use Rattle.sg_placing.specs.Placing.{same_file}
use Rattle.sg_missing.specs.declared.wanted.Wanted.{Wanted}
use Rattle.sg_missing.specs.Missing.{AreFiles, Holding, IsAlone, IsFirst, IsOf, IsPart, IsUnderWay, first_missing, staged_of}
use Rattle.sg_missing.specs.Pieces.{piece_end}
use Rattle.sg_missing.proofs.WantedLemmas.{first_has}
use Rattle.sg_fetch.specs.Fetching.{IsNext}
use Rattle.sg_fetch.proofs.StockLemmas.{same_by}

is_alone : (part : Option (Listed × ℕ)) (file : Listed) → 1 ≤ file.length → IsOf part (Some file) → IsAlone part file
is_alone None file some of = some
is_alone (Some part) file some of = of

pub next_of : (here : Holding) (files : List Listed) (piece : Wanted) → AreFiles files → IsUnderWay here files → IsFirst here files piece → IsNext here.part piece
next_of here files piece are way first = record {
  alone = is_alone here.part piece.file (first_has (λ (f : Listed). 1 ≤ f.length) here.holds files piece.file are.some first.file)
      (subst (IsOf here.part) first.file way);
  begins = first.begins;
  ends = first.ends;
  some = first.some;
}

some_is : (f g : Listed) → Some f ≡ Some g → f ≡ g
some_is f g same = cc

-- the first file that isn't whole isn't held, and is one of them
pub not_held : (holds : Listed → Bool) (files : List Listed) (file : Listed) → first_missing holds files ≡ Some file → holds file ≡ false
not_held holds [] file first = absurd (cc)
not_held holds (f ∷ fs) file first = by_test (not_held holds fs file) (holds f) refl first
  where
    by_test : (first_missing holds fs ≡ Some file → holds file ≡ false) → (held : Bool) → holds f ≡ held → (if held then first_missing holds fs else Some f) ≡ Some file
        → holds file ≡ false
    by_test rest true is first = rest first
    by_test rest false is first = subst (λ (g : Listed). holds g ≡ false) (some_is f file first) is

pub is_there : (holds : Listed → Bool) (files : List Listed) (file : Listed) → first_missing holds files ≡ Some file → Contains files file
is_there holds [] file first = absurd (cc)
is_there holds (f ∷ fs) file first = by_test (is_there holds fs file) (holds f) first
  where
    by_test : (first_missing holds fs ≡ Some file → Contains fs file) → (held : Bool) → (if held then first_missing holds fs else Some f) ≡ Some file → Contains (f ∷ fs) file
    by_test rest true first = let there = rest first in (suc there.0, omega (arith, there.1), there.2)
    by_test rest false first = (0, omega arith, some_is f file first)

-- what is staged in part lacks a byte
pub is_part : (part : Option (Listed × ℕ)) (first : Option Listed) → IsOf part first → IsPart part
is_part None first of = tt
is_part (Some part) None of = absurd of
is_part (Some part) (Some file) of = subst (λ (f : Listed). part.1 < f.length) (sym (same_by part.0 file of.0)) of.1

-- ---- where a piece ends

pub piece_fits : (at count n : ℕ) → at + count ≡ piece_end at n → at + count ≤ n
piece_fits at count n ends = omega (arith, ends)

pub piece_inside : (at count n : ℕ) → at + count ≡ piece_end at n → at % PIECE_LEN + count ≤ PIECE_LEN
piece_inside at count n ends = omega (arith, ends)
