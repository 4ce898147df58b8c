-- What a step leaves.
use Rattle.std.proofs.Common.{◌≡◌, ◌≢◌, ℕ, zero, suc, ◌+◌, ◌-◌, ◌^◌, ◌<◌, ◌==◌, Result, Ok, Err, Bool, true, false, List, [], ◌∷◌, ◌++◌, None, Some, length, if◌then◌else◌, refl, sym, ◌∙◌, ap, subst, arith}
use Rattle.std.specs.Prelude.{All, IfOk, IsSomeAnd, slice_get}
use Rattle.md5.specs.Md5.{md5}
use Rattle.std.specs.declared.option.Option.{Option}
use Rattle.sg_base.specs.declared.file.Listed.{Listed}
use Rattle.sg_disk.specs.View.{View}
use Rattle.sg_disk.specs.Runs.{Ran}
use Rattle.sg_disk.proofs.Moments.{ran_joined}
use Rattle.sg_placing.specs.Placing.{same_file, is_listed}
use Rattle.sg_missing.specs.declared.wanted.Wanted.{Wanted}
use Rattle.sg_missing.specs.Missing.{Holding, IsFirst, IsOf, IsPart, IsUnderWay, first_missing, is_one_of, keeps_part, missing, pieces_of}
use Rattle.sg_intake.specs.Stocks.{Stock, kept_part}
use Rattle.sg_fetch.proofs.NextLemmas.{is_part}
use Rattle.sg_fetch.proofs.StockLemmas.{same_by}
use Rattle.sg_listing.specs.Plans.{Plan}
use Rattle.sg_timeline.specs.declared.step.Cause.TheVariants as cause
use Rattle.sg_timeline.specs.declared.step.StepEnd.{StepEnd}
use Rattle.sg_timeline.specs.declared.step.StepEnd.TheVariants.{Stay, Switched}
use Rattle.sg_fetch.specs.Fetching.{comes_whole}
use Rattle.sg_sync.specs.Steps.{Begins, IsFit, goes_on, plan_after, switch_end}

pub ran_both : (x y z : View) → Ran 0 x y → Ran 0 y z → Ran 0 x z
ran_both x y z first second = ran_joined 0 0 x y z first second

-- ---- what is staged is as a step leaves it

pub fit_after : (end : StepEnd) (p : Plan) (here : Holding) → IsUnderWay here p.snapshot.files → IsFit (plan_after end p) here
fit_after end p here way = by_test (goes_on end)
  where
    by_test : (goes : Bool) → IsFit (if goes then Some p else None) here
    by_test true = way
    by_test false = is_part here.part (first_missing here.holds p.snapshot.files) way

pub idle_fit : (here : Holding) → here.part ≡ None → IsPart here.part
idle_fit here none = subst IsPart (sym none) tt

-- ---- where nothing is missing

pub all_held : (here : Holding) (files : List Listed) → missing here files ≡ [] → All (λ f. here.holds f ≡ true) files
all_held here [] none = λ k d lt. absurd (omega (arith, lt))
all_held here (f ∷ fs) none = by_test (all_held here fs) (here.holds f) refl none
  where
    by_place : here.holds f ≡ true → All (λ g. here.holds g ≡ true) fs → All (λ g. here.holds g ≡ true) (f ∷ fs)
    by_place first rest zero d lt = first
    by_place first rest (suc k) d lt = rest k d (omega (arith, lt))

    by_test : (missing here fs ≡ [] → All (λ g. here.holds g ≡ true) fs) → (held : Bool) → here.holds f ≡ held
        → (if held then missing here fs else pieces_of here.part f ++ missing here fs) ≡ [] → All (λ g. here.holds g ≡ true) (f ∷ fs)
    by_test rest true is none = by_place is (rest none)
    by_test rest false is none = absurd (cc)

pub some_missing : (here : Holding) (files : List Listed) (piece : Wanted) → IsFirst here files piece → missing here files ≡ [] → ⊥
some_missing here files piece first none =
    subst (λ (l : List (ℕ × ℕ)). IsSomeAnd (slice_get l 0) (λ (entry : ℕ × ℕ). entry ≡ (piece.file.media.0, piece.at))) none first.first

-- where nothing is missing, nothing is staged in part but of a file that isn't there
pub none_staged : (here : Holding) (files : List Listed) → IsUnderWay here files → missing here files ≡ [] → here.part ≡ None
none_staged here files way none = by_first here.part (first_missing here.holds files) refl way
  where
    no_first : (files : List Listed) (file : Listed) → first_missing here.holds files ≡ Some file → missing here files ≡ [] → ⊥
    no_first [] file first none = absurd (cc)
    no_first (f ∷ fs) file first none = by_test (no_first fs file) (here.holds f) first none
      where
        by_test : (first_missing here.holds fs ≡ Some file → missing here fs ≡ [] → ⊥) → (held : Bool) → (if held then first_missing here.holds fs else Some f) ≡ Some file
            → (if held then missing here fs else pieces_of here.part f ++ missing here fs) ≡ [] → ⊥
        by_test rest true first none = rest first none
        by_test rest false first none = absurd (cc)

    by_first : (part : Option (Listed × ℕ)) (first : Option Listed) → first_missing here.holds files ≡ first → IsOf part first → part ≡ None
    by_first None first is of = refl
    by_first (Some part) None is of = absurd of
    by_first (Some part) (Some file) is of = absurd (no_first files file is none)

-- ---- what is given up as a snapshot is listed

kept_is : (files : List Listed) (part : Option (Listed × ℕ)) → kept_part files part ≢ None → kept_part files part ≡ part
kept_is files None some = refl
kept_is files (Some part) some = by_test (is_listed files part.0) some
  where
    by_test : (listed : Bool) → ((if listed then Some part else None) ≢ None) → (if listed then Some part else None) ≡ Some part
    by_test true some = refl
    by_test false some = absurd (some refl)

kept_lacks : (files : List Listed) (part : Option (Listed × ℕ)) → IsPart part → IsPart (kept_part files part)
kept_lacks files None lacks = lacks
kept_lacks files (Some part) lacks = by_test (is_listed files part.0)
  where
    by_test : (listed : Bool) → IsPart (if listed then Some part else None)
    by_test true = lacks
    by_test false = tt

-- a part of the first file that isn't whole
of_first : (part : Option (Listed × ℕ)) (first : Option Listed) → IsPart part → is_one_of part first ≡ true → IsOf part first
of_first None first lacks one = tt
of_first (Some part) None lacks one = absurd (cc)
of_first (Some part) (Some file) lacks one = (one, subst (λ (f : Listed). part.1 < f.length) (same_by part.0 file one) lacks)

pub kept_begins : (old new : Stock) (files : List Listed) → IsPart old.here.part → new.here.part ≡ kept_part files old.here.part
    → ((f : Listed) → is_listed files f ≡ true → new.here.holds f ≡ old.here.holds f) → ((bytes : List ℕ) → new.here.part ≢ None → old.came bytes → new.came bytes)
    → keeps_part new.here files ≡ true → Begins old files new
kept_begins old new files lacks part holds came keeps = record {
  holds = holds;
  under_way = of_first new.here.part (first_missing new.here.holds files)
      (subst IsPart (sym part) (kept_lacks files old.here.part lacks)) keeps;
  part = λ some. part ∙ kept_is files old.here.part (λ none. some (part ∙ none));
  came = came;
}

pub forgotten_begins : (old mid new : Stock) (files : List Listed) → ((f : Listed) → is_listed files f ≡ true → mid.here.holds f ≡ old.here.holds f)
    → ((f : Listed) → new.here.holds f ≡ mid.here.holds f) → new.here.part ≡ None → Begins old files new
forgotten_begins old mid new files kept holds none = record {
  holds = λ f listed. holds f ∙ kept f listed;
  under_way = subst (λ (p : Option (Listed × ℕ)). IsOf p (first_missing new.here.holds files)) (sym none) tt;
  part = λ some. absurd (some none);
  came = λ bytes some. absurd (some none);
}

-- a switch brings no piece
pub no_whole : {E : Type 0} (r : Result StepEnd E) (number : ℕ) (text : List ℕ) (A : Type 0) → IfOk r (λ end. end ≡ switch_end number text)
    → IfOk r (λ end. comes_whole end ≡ true → A)
no_whole (Ok end) number text A is = λ whole. absurd (by_number (number == 2 ^ 32 - 1) (sym (ap comes_whole is) ∙ whole))
  where
    by_number : (spent : Bool) → comes_whole (if spent then Stay cause.Spent else Switched (number + 1) (md5 text)) ≡ true → ⊥
    by_number true whole = cc
    by_number false whole = cc
no_whole (Err why) number text A is = tt
