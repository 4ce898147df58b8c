-- The lines of plays, and of one play more.
use Rattle.std.proofs.Common.{◌≡◌, ◌∙◌, ℕ, suc, ◌+◌, ◌*◌, ◌^◌, ◌<◌, ◌≤◌, ◌==◌, ◌&&◌, Bool, true, false, cond, IsTrue, List, [], ◌∷◌, ◌++◌, length, ap, sym, subst, refl, arith, Option, None, Some, length-append, append-nil}
use Rattle.std.specs.Prelude.{filter, sum_by}
use Rattle.std.specs.List.{AllByRecursion}
use Rattle.std.proofs.lemmas.Bool.{and_parts, eqb-true}
use Rattle.std.proofs.lemmas.List.Elements.{filter-append}
use Rattle.std.proofs.lemmas.List.Sums.{sum_by-append, sum_by-cons}
use Rattle.sg_base.specs.Rising.{IsRising, found}
use Rattle.sg_base.proofs.RisingLemmas.{by_equal, found-put, rank_found, rising-put}
use Rattle.sg_report.specs.declared.kept.KeptPlay.{KeptPlay}
use Rattle.sg_report.specs.declared.line.Line.{Line}
use Rattle.sg_report.specs.Counting.{CanAdd, HasRoom, all_counted, counted, more_of, with_play}
use Rattle.sg_report.specs.Lines.{AreLines, begins_within, belongs, line_of, pair_of, played, seconds_of}
use Rattle.sg_report.specs.Plays.{AreKept, IsKept, kept_number}

-- ---- one play more

-- the line of a play and those before it
line_of-more : (k : KeptPlay) (xs : List KeptPlay) → line_of (xs ++ k ∷ []) ≡ Some (more_of k (line_of xs))
line_of-more k [] =
    let sum : sum_by seconds_of (k ∷ []) ≡ seconds_of k = sum_by-cons seconds_of k [] ∙ omega arith in
    λ i. Some (record { display = k.display; layout = k.play.layout; count = 1; seconds = sum i })
line_of-more k (x ∷ xs) =
    let count : length (x ∷ (xs ++ k ∷ [])) ≡ length (x ∷ xs) + 1 = length-append (x ∷ xs) (k ∷ []) in
    let one : sum_by seconds_of (k ∷ []) ≡ seconds_of k = sum_by-cons seconds_of k [] ∙ omega arith in
    let sum : sum_by seconds_of (x ∷ (xs ++ k ∷ [])) ≡ sum_by seconds_of (x ∷ xs) + seconds_of k =
    sum_by-append seconds_of (x ∷ xs) (k ∷ []) ∙ ap (λ n. sum_by seconds_of (x ∷ xs) + n) one in
    λ i. Some (record { display = x.display; layout = x.play.layout; count = count i; seconds = sum i })

-- a play's line stands at its place
more_played : (k : KeptPlay) (o : Option Line) (lines : List Line) → found pair_of (played k) lines ≡ o → pair_of (more_of k o) ≡ played k
more_played k None lines is = refl
more_played k (Some line) lines is = rank_found pair_of (played k) lines line is

found-more : (pair : ℕ) (k : KeptPlay) (lines : List Line) → found pair_of pair (with_play k lines) ≡ cond (played k == pair) (Some (more_of k (found pair_of (played k) lines))) (found pair_of pair lines)
found-more pair k lines =
    found-put pair_of pair (more_of k (found pair_of (played k) lines)) lines
    ∙ ap (λ n. cond (n == pair) (Some (more_of k (found pair_of (played k) lines))) (found pair_of pair lines)) (more_played k (found pair_of (played k) lines) lines refl)

-- what is found of a pair after a play that began in time
each-more : (from to pair : ℕ) (k : KeptPlay) (plays : List KeptPlay) (lines : List Line) → ((p : ℕ) → found pair_of p lines ≡ line_of (filter (belongs from to p) plays)) → begins_within from to k.play ≡ true
    → found pair_of pair (with_play k lines) ≡ line_of (filter (belongs from to pair) (plays ++ k ∷ []))
each-more from to pair k plays lines each in_time =
    let test : belongs from to pair k ≡ (played k == pair) = ap (λ b. b && (played k == pair)) in_time in
    let last : filter (belongs from to pair) (k ∷ []) ≡ cond (played k == pair) (k ∷ []) [] = ap (λ b. cond b (k ∷ []) []) test in
    let rest : filter (belongs from to pair) (plays ++ k ∷ []) ≡ filter (belongs from to pair) plays ++ cond (played k == pair) (k ∷ []) [] =
    filter-append (belongs from to pair) plays (k ∷ []) ∙ ap (λ l. filter (belongs from to pair) plays ++ l) last in
    found-more pair k lines
    ∙ (by_equal (played k) pair
    (λ b. cond b (Some (more_of k (found pair_of (played k) lines))) (found pair_of pair lines) ≡ line_of (filter (belongs from to pair) plays ++ cond b (k ∷ []) []))
    (λ same.
    let here : found pair_of (played k) lines ≡ line_of (filter (belongs from to pair) plays) = ap (λ p. found pair_of p lines) same ∙ each pair in
    ap (λ o. Some (more_of k o)) here ∙ sym (line_of-more k (filter (belongs from to pair) plays)))
    (λ _. each pair ∙ ap line_of (sym (append-nil (filter (belongs from to pair) plays))))
    ∙ ap line_of (sym rest))

none-more : (from to pair : ℕ) (k : KeptPlay) (plays : List KeptPlay) → begins_within from to k.play ≡ false → filter (belongs from to pair) (plays ++ k ∷ []) ≡ filter (belongs from to pair) plays
none-more from to pair k plays late =
    let test : belongs from to pair k ≡ false = ap (λ b. b && (played k == pair)) late in
    let last : filter (belongs from to pair) (k ∷ []) ≡ [] = ap (λ b. cond b (k ∷ []) []) test in
    filter-append (belongs from to pair) plays (k ∷ []) ∙ (ap (λ l. filter (belongs from to pair) plays ++ l) last ∙ append-nil (filter (belongs from to pair) plays))

lines_more : (from to : ℕ) (k : KeptPlay) (plays : List KeptPlay) (lines : List Line) → AreLines from to plays lines → AreLines from to (plays ++ k ∷ []) (counted from to k lines)
lines_more from to k plays lines are =
    elim (begins_within from to k.play) as (λ b. begins_within from to k.play ≡ b → AreLines from to (plays ++ k ∷ []) (cond b (with_play k lines) lines)) [
      | true ↦ λ in_time. record {
        rising = rising-put pair_of (more_of k (found pair_of (played k) lines)) lines are.rising;
        each = λ pair. each-more from to pair k plays lines are.each in_time;
      }
      | false ↦ λ late. record {
        rising = are.rising;
        each = λ pair. are.each pair ∙ ap line_of (sym (none-more from to pair k plays late));
      }
    ] refl

append_one : (xs ys : List KeptPlay) (k : KeptPlay) → (xs ++ k ∷ []) ++ ys ≡ xs ++ k ∷ ys
append_one [] ys k = refl
append_one (x ∷ xs) ys k = ap (λ l. x ∷ l) (append_one xs ys k)

-- the lines after more plays
pub lines_added : (from to : ℕ) (plays added : List KeptPlay) (lines : List Line) → AreLines from to plays lines → AreLines from to (plays ++ added) (all_counted from to added lines)
lines_added from to plays [] lines are = subst (λ l. AreLines from to l lines) (sym (append-nil plays)) are
lines_added from to plays (k ∷ added) lines are =
    subst (λ l. AreLines from to l (all_counted from to added (counted from to k lines))) (append_one plays added k)
    (lines_added from to (plays ++ k ∷ []) added (counted from to k lines) (lines_more from to k plays lines are))

pub no_lines : (from to : ℕ) → AreLines from to [] []
no_lines from to = record { rising = tt; each = λ pair. refl }

pub all_counted-append : (from to : ℕ) (xs ys : List KeptPlay) (lines : List Line) → all_counted from to (xs ++ ys) lines ≡ all_counted from to ys (all_counted from to xs lines)
all_counted-append from to [] ys lines = refl
all_counted-append from to (x ∷ xs) ys lines = all_counted-append from to xs ys (counted from to x lines)

-- ---- how many plays a line can have

-- a list that rises isn't longer than its ranks are far apart
length_rising : {A : Type 0} (rank : A → ℕ) (low high : ℕ) (xs : List A) → low ≤ high → IsRising rank xs → AllByRecursion (λ x. (low ≤ rank x) × (rank x < high)) xs → length xs + low ≤ high
length_rising rank low high [] le rising within = omega arith
length_rising {A = A} rank low high (x ∷ xs) le rising within =
    let first = within.0 in
    let after : AllByRecursion (λ y. (suc (rank x) ≤ rank y) × (rank y < high)) xs = later (rank x) xs rising.0 within.1 in
    let rest : length xs + suc (rank x) ≤ high = length_rising rank (suc (rank x)) high xs (omega (arith, first.1)) rising.1 after in
    omega (arith, first.0, rest)
  where
    later : (n : ℕ) (ys : List A) → AllByRecursion (λ y. n < rank y) ys → AllByRecursion (λ y. (low ≤ rank y) × (rank y < high)) ys → AllByRecursion (λ y. (suc n ≤ rank y) × (rank y < high)) ys
    later n [] a b = tt
    later n (y ∷ ys) a b = ((let h = a.0 in omega arith, b.0.1), later n ys a.1 b.1)

all_filter : {A : Type 0} (P : A → Type 0) (test : A → Bool) (xs : List A) → AllByRecursion P xs → AllByRecursion P (filter test xs)
all_filter P test [] a = tt
all_filter P test (x ∷ xs) a = elim (test x) as (λ b. AllByRecursion P (cond b (x ∷ filter test xs) (filter test xs))) [
  | true ↦ (a.0, all_filter P test xs a.1)
  | false ↦ all_filter P test xs a.1
]

-- where a play stands among those of its display
abbrev local : KeptPlay → ℕ
local k = k.epoch * 2 ^ 32 + k.number

local_fits : (ks : List KeptPlay) → AllByRecursion IsKept ks → AllByRecursion (λ k. (1 ≤ local k) × (local k < 2 ^ 64)) ks
local_fits [] a = tt
local_fits (k ∷ ks) a =
    let e = a.0.epoch in let n = a.0.number in
    ((omega (arith, n.0), omega (arith, e, n.1)), local_fits ks a.1)

belongs_played : (from to pair : ℕ) (k : KeptPlay) → belongs from to pair k ≡ true → played k ≡ pair
belongs_played from to pair k e = eqb-true (played k) pair (and_parts (begins_within from to k.play) (played k == pair) e).1

-- of two plays of one display, the later one by key is the later one there
local_later : (pair : ℕ) (j k : KeptPlay) → IsKept j → IsKept k → played j ≡ pair → played k ≡ pair → kept_number j < kept_number k → local j < local k
local_later pair j k hj hk pj pk less =
    let lj = hj.play.layout.1 in let lk = hk.play.layout.1 in
    let display_is : j.display ≡ k.display = omega (arith, lj, lk, pj, pk) in
    let nj = hj.number.1 in let nk = hk.number.1 in
    omega (arith, nj, nk, display_is, less)

all_later : (from to pair : ℕ) (k : KeptPlay) (ks : List KeptPlay) → IsKept k → played k ≡ pair → AllByRecursion IsKept ks → AllByRecursion (λ y. kept_number k < kept_number y) ks
    → AllByRecursion (λ y. local k < local y) (filter (belongs from to pair) ks)
all_later from to pair k [] h p valid above = tt
all_later from to pair k (y ∷ ys) h p valid above =
    let rest = all_later from to pair k ys h p valid.1 above.1 in
    elim (belongs from to pair y) as (λ b. belongs from to pair y ≡ b → AllByRecursion (λ z. local k < local z) (cond b (y ∷ filter (belongs from to pair) ys) (filter (belongs from to pair) ys))) [
      | true ↦ λ e. (local_later pair k y h valid.0 p (belongs_played from to pair y e) above.0, rest)
      | false ↦ λ _. rest
    ] refl

local_rising : (from to pair : ℕ) (ks : List KeptPlay) → IsRising kept_number ks → AllByRecursion IsKept ks → IsRising local (filter (belongs from to pair) ks)
local_rising from to pair [] rising valid = tt
local_rising from to pair (k ∷ ks) rising valid =
    let rest = local_rising from to pair ks rising.1 valid.1 in
    elim (belongs from to pair k) as (λ b. belongs from to pair k ≡ b → IsRising local (cond b (k ∷ filter (belongs from to pair) ks) (filter (belongs from to pair) ks))) [
      | true ↦ λ e. (all_later from to pair k ks valid.0 (belongs_played from to pair k e) valid.1 rising.0, rest)
      | false ↦ λ _. rest
    ] refl

pub few_plays : (from to pair : ℕ) (ks : List KeptPlay) → AreKept ks → length (filter (belongs from to pair) ks) + 1 ≤ 2 ^ 64
few_plays from to pair ks kept =
    length_rising local 1 (2 ^ 64) (filter (belongs from to pair) ks) (omega arith) (local_rising from to pair ks kept.rising kept.valid)
    (local_fits (filter (belongs from to pair) ks) (all_filter IsKept (belongs from to pair) ks kept.valid))

short_plays : (ks : List KeptPlay) → AllByRecursion IsKept ks → sum_by seconds_of ks ≤ length ks * 2 ^ 32
short_plays [] a = omega arith
short_plays (k ∷ ks) a =
    let rest = short_plays ks a.1 in
    let end = a.0.play.end in
    let sum = sum_by-cons seconds_of k ks in
    omega (arith, rest, end, sum)

-- a line that counts plays has room for one more
line_room : (line : Line) (ks : List KeptPlay) → AllByRecursion IsKept ks → length ks + 2 ≤ 2 ^ 64 → line_of ks ≡ Some line → HasRoom line
line_room line [] valid few is = absurd (cc)
line_room line (k ∷ ks) valid few is =
    let same : record { display = k.display; layout = k.play.layout; count = length (k ∷ ks); seconds = sum_by seconds_of (k ∷ ks) } ≡ line = cc in
    let count : length (k ∷ ks) ≡ line.count = ap (λ (l : Line). l.count) same in
    let seconds : sum_by seconds_of (k ∷ ks) ≡ line.seconds = ap (λ (l : Line). l.seconds) same in
    let short = short_plays (k ∷ ks) valid in
    record { count = omega (arith, count, few); seconds = omega (arith, seconds, short, few) }

-- the line of a play that comes after all that are counted has room for it
pub can_add : (from to : ℕ) (k : KeptPlay) (plays : List KeptPlay) (lines : List Line) → AreLines from to plays lines → AreKept (plays ++ k ∷ []) → AllByRecursion IsKept plays → IsTrue (begins_within from to k.play) → CanAdd k lines
can_add from to k plays lines are kept valid in_time line is =
    let xs = filter (belongs from to (played k)) plays in
    let test : belongs from to (played k) k ≡ true = ap (λ b. b && (played k == played k)) in_time ∙ by_equal (played k) (played k) (λ b. b ≡ true) (λ _. refl) (λ ne. absurd (ne refl)) in
    let last : filter (belongs from to (played k)) (k ∷ []) ≡ k ∷ [] = ap (λ b. cond b (k ∷ []) []) test in
    let all : filter (belongs from to (played k)) (plays ++ k ∷ []) ≡ xs ++ k ∷ [] = filter-append (belongs from to (played k)) plays (k ∷ []) ∙ ap (λ l. xs ++ l) last in
    let count : length (filter (belongs from to (played k)) (plays ++ k ∷ [])) ≡ length xs + 1 = ap length all ∙ length-append xs (k ∷ []) in
    let few = few_plays from to (played k) (plays ++ k ∷ []) kept in
    line_room line xs (all_filter IsKept (belongs from to (played k)) plays valid) (omega (arith, count, few)) (sym (are.each (played k)) ∙ is)
