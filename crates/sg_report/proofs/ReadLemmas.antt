-- The plays that rows say.
use Rattle.std.proofs.Common.{◌≡◌, ◌∙◌, ℕ, ◌<◌, cond, List, [], ◌∷◌, ◌++◌, ap, sym, subst, refl, arith, Option, None, Some}
use Rattle.std.proofs.Common.{inl, inr}
use Rattle.std.proofs.lemmas.Bool.{cases_order}
use Rattle.std.specs.Prelude.{◌↔◌, option_map, option_to_list}
use Rattle.std.specs.List.{AllByRecursion}
use Rattle.sg_base.specs.declared.key.Key.{Key}
use Rattle.sg_base.specs.Rising.{IsRising, found}
use Rattle.sg_base.proofs.RisingLemmas.{by_equal, found_above, found_first, found_later}
use Rattle.sg_keeper.specs.Pages.{number_at}
use Rattle.sg_records.specs.Numbers.{play_bytes}
use Rattle.sg_report.specs.declared.kept.KeptPlay.{KeptPlay}
use Rattle.sg_report.specs.declared.line.Line.{Line}
use Rattle.sg_report.specs.Counting.{AreRead, CountsRow, CountsRows, all_counted, counted_if, none, play, other}
use Rattle.sg_report.specs.Plays.{AreKept, IsKept, IsReadAs, kept_number}
use Rattle.sg_report.proofs.LineLemmas.{all_counted-append}
use Rattle.sg_report.proofs.PlayLemmas.{same_play}

-- one row more
pub read_more : (o : Option KeptPlay) (row : Key × List ℕ) (rows : List (Key × List ℕ)) (plays : List KeptPlay) → IsReadAs row o → AreRead rows plays → AreRead (rows ++ row ∷ []) (plays ++ option_to_list o)
read_more None row _ _ is none = other row [] [] is none
read_more (Some k) row _ _ is none = play row k [] [] is none
read_more o row _ _ is (play r k rows plays first rest) = play r k (rows ++ row ∷ []) (plays ++ option_to_list o) first (read_more o row rows plays is rest)
read_more o row _ _ is (other r rows plays first rest) = other r (rows ++ row ∷ []) (plays ++ option_to_list o) first (read_more o row rows plays is rest)

counted_option : (from to : ℕ) (o : Option KeptPlay) (lines : List Line) → counted_if from to o lines ≡ all_counted from to (option_to_list o) lines
counted_option from to None lines = refl
counted_option from to (Some k) lines = refl

-- rows, and then one more
pub counts_more : (from to : ℕ) (row : Key × List ℕ) (rows : List (Key × List ℕ)) (old mid new : List Line) → CountsRows from to rows old mid → CountsRow from to row mid new → CountsRows from to (rows ++ row ∷ []) old new
counts_more from to row rows old mid new so_far next = record {
  added = so_far.added ++ option_to_list next.play;
  read = read_more next.play row rows so_far.added next.read so_far.read;
  lines = next.lines
      ∙ (counted_option from to next.play mid
      ∙ (ap (all_counted from to (option_to_list next.play)) so_far.lines ∙ sym (all_counted-append from to so_far.added (option_to_list next.play) old)));
}

-- what holds of the number of each row holds of the number of each play
pub all_read : (P : ℕ → Type 0) (rows : List (Key × List ℕ)) (plays : List KeptPlay) → AreRead rows plays → AllByRecursion (λ row. P (number_at row)) rows → AllByRecursion (λ k. P (kept_number k)) plays
all_read P _ _ none a = tt
all_read P _ _ (play row k rows plays is rest) a = (subst P (sym is.1) a.0, all_read P rows plays rest a.1)
all_read P _ _ (other row rows plays is rest) a = all_read P rows plays rest a.1

valid_read : (rows : List (Key × List ℕ)) (plays : List KeptPlay) → AreRead rows plays → AllByRecursion IsKept plays
valid_read _ _ none = tt
valid_read _ _ (play row k rows plays is rest) = (is.0, valid_read rows plays rest)
valid_read _ _ (other row rows plays is rest) = valid_read rows plays rest

rising_read : (rows : List (Key × List ℕ)) (plays : List KeptPlay) → AreRead rows plays → IsRising number_at rows → IsRising kept_number plays
rising_read _ _ none s = tt
rising_read _ _ (play row k rows plays is rest) s =
    (subst (λ n. AllByRecursion (λ y. n < kept_number y) plays) (sym is.1) (all_read (λ n. number_at row < n) rows plays rest s.0), rising_read rows plays rest s.1)
rising_read _ _ (other row rows plays is rest) s = rising_read rows plays rest s.1

pub kept_read : (rows : List (Key × List ℕ)) (plays : List KeptPlay) → AreRead rows plays → IsRising number_at rows → AreKept plays
kept_read rows plays read s = record { rising = rising_read rows plays read s; valid = valid_read rows plays read }

-- ---- which plays these are

-- the row of a play in a page
abbrev IsPlayAt : List (Key × List ℕ) → KeptPlay → Type 0
IsPlayAt rows k = option_map (λ (row : Key × List ℕ). row.1) (found number_at (kept_number k) rows) ≡ Some (play_bytes k.play)

abbrev IsAmong : List KeptPlay → KeptPlay → Type 0
IsAmong plays k = found kept_number (kept_number k) plays ≡ Some k

-- a row of another number changes nothing
skip_row : (row : Key × List ℕ) (rows : List (Key × List ℕ)) (k : KeptPlay) → (number_at row ≡ kept_number k → ⊥) → (IsPlayAt rows k → IsPlayAt (row ∷ rows) k) × (IsPlayAt (row ∷ rows) k → IsPlayAt rows k)
skip_row row rows k ne =
    let e = ap (option_map (λ (r : Key × List ℕ). r.1)) (found_later number_at (kept_number k) row rows ne) in
    ((λ h. e ∙ h), (λ h. sym e ∙ h))

-- a row of its number is its row, if the bytes are its bytes
at_row : (row : Key × List ℕ) (rows : List (Key × List ℕ)) (k : KeptPlay) → number_at row ≡ kept_number k → (row.1 ≡ play_bytes k.play → IsPlayAt (row ∷ rows) k) × (IsPlayAt (row ∷ rows) k → row.1 ≡ play_bytes k.play)
at_row row rows k e =
    let here : option_map (λ (r : Key × List ℕ). r.1) (found number_at (kept_number k) (row ∷ rows)) ≡ Some row.1 = ap (option_map (λ (r : Key × List ℕ). r.1)) (found_first number_at (kept_number k) row rows e) in
    ((λ h. here ∙ ap Some h), (λ h. let is : Some row.1 ≡ Some (play_bytes k.play) = sym here ∙ h in cc))

among_other : (row : Key × List ℕ) (rows : List (Key × List ℕ)) (plays : List KeptPlay) (k : KeptPlay) → (number_at row ≡ kept_number k → ⊥) → IsAmong plays k ↔ IsPlayAt rows k → IsAmong plays k ↔ IsPlayAt (row ∷ rows) k
among_other row rows plays k ne more =
    let skip = skip_row row rows k ne in
    ((λ e. skip.0 (more.0 e)), (λ there. more.1 (skip.1 there)))

pub among_read : (rows : List (Key × List ℕ)) (plays : List KeptPlay) (k : KeptPlay) → AreRead rows plays → IsRising number_at rows → IsKept k → IsAmong plays k ↔ IsPlayAt rows k
among_read _ _ k none s h = ((λ e. absurd (cc)), (λ e. absurd (cc)))
among_read _ _ k (play row j rows plays is rest) s h =
    by_equal (kept_number j) (kept_number k) (λ b. (cond b (Some j) (found kept_number (kept_number k) plays) ≡ Some k) ↔ IsPlayAt (row ∷ rows) k)
    (λ e.
    let at = at_row row rows k (sym is.1 ∙ e) in (
      (λ (same : Some j ≡ Some k). let one : j ≡ k = cc in at.0 (sym is.2 ∙ ap (λ (x : KeptPlay). play_bytes x.play) one)),
      (λ there. ap Some (same_play j k is.0 h e (is.2 ∙ at.1 there))),
    ))
    (λ ne. among_other row rows plays k (λ e. ne (is.1 ∙ e)) (among_read rows plays k rest s.1 h))
among_read _ _ k (other row rows plays is rest) s h =
    let more = among_read rows plays k rest s.1 h in
    elim (cases_order (number_at row) (kept_number k)) [
      | inl e ↦
          let gone : found kept_number (kept_number k) plays ≡ None =
          found_above kept_number (kept_number k) plays (all_read (λ n. kept_number k < n) rows plays rest (subst (λ n. AllByRecursion (λ y. n < number_at y) rows) e s.0)) in (
            (λ there. absurd (let no : None ≡ Some k = sym gone ∙ there in cc)),
            (λ there. absurd (is k h (sym e) (sym ((at_row row rows k e).1 there)))),
          )
      | inr (inl less) ↦ among_other row rows plays k (λ e. omega arith) more
      | inr (inr above) ↦ among_other row rows plays k (λ e. omega arith) more
    ]
