-- The plays of pages, one page after another.
use Rattle.std.proofs.Common.{◌≡◌, ◌∙◌, cond, eqb, ℕ, zero, suc, ◌+◌, ◌^◌, ◌<◌, ◌≤◌, ⊎_elim, inl, inr, List, [], ◌∷◌, ◌++◌, length, take, get_or, ap, sym, subst, refl, arith, Option, None, Some}
use Rattle.std.specs.Prelude.{IfSome, option_map}
use Rattle.std.specs.List.{AllByRecursion}
use Rattle.std.proofs.lemmas.Bool.{cases_order}
use Rattle.sg_base.specs.declared.key.Key.{Key}
use Rattle.sg_base.specs.Keys.{number, number_of}
use Rattle.sg_base.specs.Rising.{IsRising, found}
use Rattle.sg_base.proofs.RisingLemmas.{all_at, all_take, found_later, found_outside, rising-take}
use Rattle.sg_keeper.specs.Pages.{HasPageForm, IsPage, end_of, number_at, start_of}
use Rattle.sg_keeper.specs.View.{View, Same}
use Rattle.sg_report.specs.declared.kept.KeptPlay.{KeptPlay}
use Rattle.sg_report.specs.declared.line.Line.{Line}
use Rattle.sg_report.specs.Counting.{CanAddRow, CanCount, CountsPlays, CountsRows, EndsWith, HasLines, IsNext, all_counted, cursor}
use Rattle.sg_report.specs.Lines.{AreLines, table_text}
use Rattle.sg_report.specs.Plays.{AreKept, IsKept, IsListed, kept_number}
use Rattle.sg_report.specs.Report.{IsReport}
use Rattle.sg_report.proofs.LineLemmas.{all_counted-append, can_add, lines_added, no_lines}
use Rattle.sg_report.proofs.ReadLemmas.{all_read, among_read, kept_read}

-- ---- lists one after another

all_append : {A : Type 0} (P : A → Type 0) (xs ys : List A) → AllByRecursion P xs → AllByRecursion P ys → AllByRecursion P (xs ++ ys)
all_append P [] ys a b = b
all_append P (x ∷ xs) ys a b = (a.0, all_append P xs ys a.1 b)

all_map : {A : Type 0} (P Q : A → Type 0) → ((x : A) → P x → Q x) → (xs : List A) → AllByRecursion P xs → AllByRecursion Q xs
all_map P Q f [] a = tt
all_map P Q f (x ∷ xs) a = (f x a.0, all_map P Q f xs a.1)

rising-append : {A : Type 0} (rank : A → ℕ) (mid : ℕ) (xs ys : List A) → IsRising rank xs → IsRising rank ys → AllByRecursion (λ x. rank x < mid) xs → AllByRecursion (λ y. mid ≤ rank y) ys → IsRising rank (xs ++ ys)
rising-append rank mid [] ys s t low high = t
rising-append rank mid (x ∷ xs) ys s t low high = (
  all_append (λ y. rank x < rank y) xs ys s.0 (let h = low.0 in all_map (λ y. mid ≤ rank y) (λ y. rank x < rank y) (λ y q. omega arith) ys high),
  rising-append rank mid xs ys s.1 t low.1 high,
)

kept_append : (mid : ℕ) (xs ys : List KeptPlay) → AreKept xs → AreKept ys → AllByRecursion (λ k. kept_number k < mid) xs → AllByRecursion (λ k. mid ≤ kept_number k) ys → AreKept (xs ++ ys)
kept_append mid xs ys a b low high = record {
  rising = rising-append kept_number mid xs ys a.rising b.rising low high;
  valid = all_append IsKept xs ys a.valid b.valid;
}

both : {A : Type 0} (P Q : A → Type 0) (xs : List A) → AllByRecursion P xs → AllByRecursion Q xs → AllByRecursion (λ x. P x × Q x) xs
both P Q [] a b = tt
both P Q (x ∷ xs) a b = ((a.0, b.0), both P Q xs a.1 b.1)

-- what is found of a number below all of the second list, or above all of the first
found_left : (n mid : ℕ) (xs ys : List KeptPlay) → n < mid → AllByRecursion (λ k. mid ≤ kept_number k) ys → found kept_number n (xs ++ ys) ≡ found kept_number n xs
found_left n mid [] ys less high = found_outside kept_number (λ m. mid ≤ m) n ys high (λ h. omega arith)
found_left n mid (x ∷ xs) ys less high = ap (λ (r : Option KeptPlay). cond (eqb (kept_number x) n) (Some x) r) (found_left n mid xs ys less high)

found_right : (n mid : ℕ) (xs ys : List KeptPlay) → mid ≤ n → AllByRecursion (λ k. kept_number k < mid) xs → found kept_number n (xs ++ ys) ≡ found kept_number n ys
found_right n mid [] ys le low = refl
found_right n mid (x ∷ xs) ys le low =
    let h = low.0 in
    found_later kept_number n x (xs ++ ys) (λ e. omega arith) ∙ found_right n mid xs ys le low.1

-- ---- a page

pub start_low : (after : Option (ℕ × ℕ)) → number 10 0 0 ≤ start_of 10 after
start_low None = omega arith
start_low (Some p) = omega arith

-- room for the play of a row of a page
pub room_at : (from to i : ℕ) (rows : List (Key × List ℕ)) (d : Key × List ℕ) (old lines : List Line) → i < length rows → CanCount from to rows old → CountsRows from to (take i rows) old lines
    → CanAddRow from to (get_or rows i d).0 lines
room_at from to i rows d old lines lt can so_far k h is in_time =
    let n : ℕ = number_at (get_or rows i d) in
    let plays = can.before.plays in
    let rows_before : AllByRecursion (λ row. number_at row < n) (take i rows) = before i rows d can.form.rising lt in
    let within : AllByRecursion (λ row. (can.start ≤ number_at row) × (number_at row < can.end)) rows = can.form.within in
    let here = all_at (λ row. (can.start ≤ number_at row) × (number_at row < can.end)) rows i d lt within in
    let added = so_far.added in
    let added_kept : AreKept added = kept_read (take i rows) added so_far.read (rising-take number_at rows i can.form.rising) in
    let added_low = all_read (λ m. m < n) (take i rows) added so_far.read rows_before in
    let added_high = all_read (λ m. can.start ≤ m) (take i rows) added so_far.read (all_map _ (λ row. can.start ≤ number_at row) (λ row q. q.0) (take i rows) (all_take _ rows i within)) in
    let all = kept_append can.start plays added can.before.kept added_kept can.before.below added_high in
    let low : AllByRecursion (λ j. kept_number j < n) (plays ++ added) =
    all_append (λ j. kept_number j < n) plays added (all_map (λ j. kept_number j < can.start) (λ j. kept_number j < n) (λ j q. omega (arith, here.0)) plays can.before.below) added_low in
    let one : AreKept (k ∷ []) = record { rising = (tt, tt); valid = (h, tt) } in
    let now : AreLines from to (plays ++ added) lines = subst (AreLines from to (plays ++ added)) (sym so_far.lines) (lines_added from to plays added old can.before.sums) in
    can_add from to k (plays ++ added) lines now (kept_append n (plays ++ added) (k ∷ []) all one low (omega (arith, is), tt)) all.valid in_time
  where
    before : (i : ℕ) (rows : List (Key × List ℕ)) (d : Key × List ℕ) → IsRising number_at rows → i < length rows → AllByRecursion (λ row. number_at row < number_at (get_or rows i d)) (take i rows)
    before i [] d s lt = absurd (omega arith)
    before zero (r ∷ rs) d s lt = tt
    before (suc i) (r ∷ rs) d s lt = (all_at (λ y. number_at r < number_at y) rs i d (omega arith) s.0, before i rs d s.1 (omega arith))

-- the number of a key of this kind
last_number : (key : Key) (a b : ℕ) → a ≡ key.a → b ≡ key.b → a < 2 ^ 64 → b < 2 ^ 64 → number 10 0 0 ≤ number_of key → number_of key < end_of 10 → start_of 10 (Some (a, b)) ≡ number_of key + 1
last_number key a b e f fa fb low high = let kind : key.kind ≡ 10 = omega (arith, e, f, fa, fb, low, high) in omega (arith, e, f, kind)

all_last : {A : Type 0} (P : A → Type 0) (xs : List A) (x : A) → AllByRecursion P (xs ++ x ∷ []) → P x
all_last P [] x a = a.0
all_last P (y ∷ ys) x a = all_last P ys x a.1

rising_last : {A : Type 0} (rank : A → ℕ) (xs : List A) (x : A) → IsRising rank (xs ++ x ∷ []) → AllByRecursion (λ y. rank y < rank x + 1) (xs ++ x ∷ [])
rising_last rank [] x s = (omega arith, tt)
rising_last rank (y ∷ ys) x s = (let h = all_last (λ z. rank y < rank z) ys x s.0 in omega (arith, h), rising_last rank ys x s.1)

-- the key after which the next page begins
next_number : (start limit : ℕ) (p : ℕ × ℕ) (rows : List (Key × List ℕ)) → number 10 0 0 ≤ start → HasPageForm start (end_of 10) limit rows → (is : EndsWith rows p) → start_of 10 (Some p) ≡ number_at is.last + 1
next_number start limit p rows low form is =
    let last = all_last (λ row. (start ≤ number_at row) × (number_at row < end_of 10)) is.front is.last (subst (AllByRecursion (λ row. (start ≤ number_at row) × (number_at row < end_of 10))) is.is form.within) in
    last_number is.last.0 p.0 p.1 is.a is.b is.fits.0 is.fits.1 (let h = last.0 in omega (arith, h, low)) last.1

-- how far the page goes
record Reaches (start goal : ℕ) (rows : List (Key × List ℕ)) : Type 0 where
  pub low : start ≤ goal
  pub high : goal ≤ end_of 10
  pub within : AllByRecursion (λ row. (start ≤ number_at row) × (number_at row < goal)) rows

reaches : (start limit : ℕ) (next : Option (ℕ × ℕ)) (rows : List (Key × List ℕ)) → number 10 0 0 ≤ start → start ≤ end_of 10 → HasPageForm start (end_of 10) limit rows → IsNext limit rows next → Reaches start (cursor next) rows
reaches start limit None rows low high form is = record { low = high; high = omega arith; within = form.within }
reaches start limit (Some p) rows low high form is =
    let e = next_number start limit p rows low form is in
    let last = all_last (λ row. (start ≤ number_at row) × (number_at row < end_of 10)) is.front is.last (subst (AllByRecursion (λ row. (start ≤ number_at row) × (number_at row < end_of 10))) is.is form.within) in
    let below : AllByRecursion (λ row. number_at row < number_at is.last + 1) rows =
    subst (AllByRecursion (λ row. number_at row < number_at is.last + 1)) (sym is.is) (rising_last number_at is.front is.last (subst (IsRising number_at) is.is form.rising)) in
    record {
      low = omega (arith, e, last.0);
      high = omega (arith, e, last.1);
      within = subst (λ n. AllByRecursion (λ row. (start ≤ number_at row) × (number_at row < n)) rows) (sym e) (both (λ row. start ≤ number_at row) (λ row. number_at row < number_at is.last + 1) rows (all_map _ (λ row. start ≤ number_at row) (λ row q. q.0) rows form.within) below);
    }

-- the next page begins later
further : (start limit : ℕ) (p : ℕ × ℕ) (rows : List (Key × List ℕ)) → number 10 0 0 ≤ start → HasPageForm start (end_of 10) limit rows → EndsWith rows p → start < start_of 10 (Some p)
further start limit p rows low form is =
    let e = next_number start limit p rows low form is in
    let last = all_last (λ row. (start ≤ number_at row) × (number_at row < end_of 10)) is.front is.last (subst (AllByRecursion (λ row. (start ≤ number_at row) × (number_at row < end_of 10))) is.is form.within) in
    omega (arith, e, last.0)

pub page_further : (start limit : ℕ) (next : Option (ℕ × ℕ)) (rows : List (Key × List ℕ)) → number 10 0 0 ≤ start → start ≤ end_of 10 → HasPageForm start (end_of 10) limit rows → IsNext limit rows next
    → (start ≤ cursor next) × (cursor next ≤ end_of 10) × IfSome next (λ p. start < start_of 10 (Some p))
page_further start limit None rows low high form is = (high, omega arith, tt)
page_further start limit (Some p) rows low high form is =
    let far = reaches start limit (Some p) rows low high form is in
    (far.low, far.high, further start limit p rows low form is)

-- up to there the page has what the keeper has
page_has : (start limit : ℕ) (next : Option (ℕ × ℕ)) (kept : ℕ → Option (List ℕ)) (rows : List (Key × List ℕ)) → number 10 0 0 ≤ start → HasPageForm start (end_of 10) limit rows → IsPage start (end_of 10) limit kept rows → IsNext limit rows next
    → (n : ℕ) → start ≤ n → n < cursor next → option_map (λ (row : Key × List ℕ). row.1) (found number_at n rows) ≡ kept n
page_has start limit None kept rows low form page is n le lt = ⊎_elim (λ e. e) (λ h. absurd (let l = h.0 in omega (arith, l, is))) (page.exact n le lt)
page_has start limit (Some p) kept rows low form page is n le lt =
    let e = next_number start limit p rows low form is in
    let last = all_last (λ row. (start ≤ number_at row) × (number_at row < end_of 10)) is.front is.last (subst (AllByRecursion (λ row. (start ≤ number_at row) × (number_at row < end_of 10))) is.is form.within) in
    ⊎_elim (λ h. h)
    (λ h. let less : number_at is.last < n = all_last (λ row. number_at row < n) is.front is.last (subst (AllByRecursion (λ row. number_at row < n)) is.is h.1) in absurd (omega (arith, e, less)))
    (page.exact n le (let l = last.1 in omega (arith, e, l)))

-- the plays of a page are counted
pub page_counted : (from to start limit : ℕ) (v : View) (next : Option (ℕ × ℕ)) (rows : List (Key × List ℕ)) (old new : List Line) → number 10 0 0 ≤ start → start ≤ end_of 10 → HasPageForm start (end_of 10) limit rows
    → (v.told → IsPage start (end_of 10) limit v.rows rows) → IsNext limit rows next → CountsRows from to rows old new → CountsPlays from to v start (cursor next) old new
page_counted from to start limit v next rows old new low high form page is counts = record {
  added = counts.added;
  kept = kept_read rows counts.added counts.read form.rising;
  within = all_read (λ n. (start ≤ n) × (n < cursor next)) rows counts.added counts.read (reaches start limit next rows low high form is).within;
  all = λ told k h le lt.
      let among = among_read rows counts.added k counts.read form.rising h in
      let there = page_has start limit next v.rows rows low form (page told) is (kept_number k) le lt in
      ((λ e. sym there ∙ among.0 e), (λ e. among.1 (there ∙ e)));
  lines = counts.lines;
}

-- ---- pages one after another

pub pages_joined : (from to start mid goal : ℕ) (v w : View) (old between new : List Line) → start ≤ mid → mid ≤ goal → (v.told → w.told) → Same v w → CountsPlays from to v start mid old between → CountsPlays from to w mid goal between new → CountsPlays from to v start goal old new
pages_joined from to start mid goal v w old between new low high told same first second = record {
  added = first.added ++ second.added;
  kept = kept_append mid first.added second.added first.kept second.kept
      (all_map _ (λ k. kept_number k < mid) (λ k q. q.1) first.added first.within)
      (all_map _ (λ k. mid ≤ kept_number k) (λ k q. q.0) second.added second.within);
  within = all_append (λ k. (start ≤ kept_number k) × (kept_number k < goal)) first.added second.added
      (all_map _ (λ k. (start ≤ kept_number k) × (kept_number k < goal)) (λ k q. (q.0, (let h = q.1 in omega (arith, h, high)))) first.added first.within)
      (all_map _ (λ k. (start ≤ kept_number k) × (kept_number k < goal)) (λ k q. ((let h = q.0 in omega (arith, h, low)), q.1)) second.added second.within);
  all = λ t k h le lt.
      let below = all_map _ (λ j. kept_number j < mid) (λ j q. q.1) first.added first.within in
      let above = all_map _ (λ j. mid ≤ kept_number j) (λ j q. q.0) second.added second.within in
      let rows_same : w.rows (kept_number k) ≡ v.rows (kept_number k) = ap (λ (rows : ℕ → Option (List ℕ)). rows (kept_number k)) (same t) in
      let early : kept_number k < mid → IsListed v.rows (first.added ++ second.added) k = (λ less.
      let is = first.all t k h le less in
      let e = found_left (kept_number k) mid first.added second.added less above in
      ((λ there. is.0 (sym e ∙ there)), (λ row. e ∙ is.1 row))) in
      let late : mid ≤ kept_number k → IsListed v.rows (first.added ++ second.added) k = (λ more.
      let is = second.all (told t) k h more lt in
      let e = found_right (kept_number k) mid first.added second.added more below in
      ((λ there. sym rows_same ∙ is.0 (sym e ∙ there)), (λ row. e ∙ is.1 (rows_same ∙ row)))) in
      elim (cases_order (kept_number k) mid) [
        | inl e ↦ late (omega arith)
        | inr (inl less) ↦ early less
        | inr (inr more) ↦ late (omega arith)
      ];
  lines = second.lines ∙ (ap (all_counted from to second.added) first.lines ∙ sym (all_counted-append from to first.added second.added old));
}

-- the lines of the plays that are counted, from none on
sums_of_counted : (from to goal : ℕ) (v : View) (lines : List Line) → (counts : CountsPlays from to v (number 10 0 0) goal [] lines) → AreLines from to counts.added lines
sums_of_counted from to goal v lines counts = subst (AreLines from to counts.added) (sym counts.lines) (lines_added from to [] counts.added [] (no_lines from to))

pub lines_of_counted : (from to goal : ℕ) (v : View) (lines : List Line) → CountsPlays from to v (number 10 0 0) goal [] lines → HasLines from to goal lines
lines_of_counted from to goal v lines counts = record {
  plays = counts.added;
  kept = counts.kept;
  below = all_map _ (λ k. kept_number k < goal) (λ k q. q.1) counts.added counts.within;
  sums = sums_of_counted from to goal v lines counts;
}

pub no_plays : (from to : ℕ) → HasLines from to (number 10 0 0) []
no_plays from to = record { plays = []; kept = record { rising = tt; valid = tt }; below = tt; sums = no_lines from to }

-- all plays that the keeper has lie between the first and the last number of their keys
number_within : (k : KeptPlay) → IsKept k → (number 10 0 0 ≤ kept_number k) × (kept_number k < end_of 10)
number_within k h = let d = h.display in let e = h.epoch in let n = h.number.1 in (omega arith, omega (arith, d, e, n))

-- the report is that of what was counted
pub report_of_counted : (from to : ℕ) (v : View) (lines : List Line) (text : List ℕ) → CountsPlays from to v (number 10 0 0) (end_of 10) [] lines → text ≡ table_text lines → IsReport from to v text
report_of_counted from to v lines text counts is = record {
  plays = counts.added;
  kept = counts.kept;
  all = λ told k h. let at = number_within k h in counts.all told k h at.0 at.1;
  lines = lines;
  sums = sums_of_counted from to (end_of 10) v lines counts;
  table = is;
}
