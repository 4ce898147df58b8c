-- Epochs of displays: the last one, and plays that are added to one.
use Rattle.std.proofs.Common.{◌≡◌, ◌∙◌, ◌⊎◌, ⊎_elim, ℕ, zero, suc, ◌+◌, ◌-◌, ◌*◌, ◌^◌, ◌<◌, ◌≤◌, max, Bool, true, false, cond, eqb, ◌&&◌, List, [], ◌∷◌, ◌++◌, length, get_or, Option, Some, None, refl, ap, sym, subst, arith, inl, inr, append-nil, append_assoc, length-append}
use Rattle.std.specs.Prelude.{filter, option_map}
use Rattle.std.specs.List.{AllByRecursion, slice_get}
use Rattle.std.proofs.lemmas.Bool.{cases_order, eq-eqb, eqb-false, eqb-true, ltb-false, ltb-true, ne_eqb}
use Rattle.sg_base.specs.declared.play.PlayBody.{PlayBody}
use Rattle.sg_base.specs.Keys.{number}
use Rattle.sg_base.specs.Rising.{IsRising, found, put}
use Rattle.sg_base.proofs.RisingLemmas.{by_equal, by_put, found_later}
use Rattle.sg_steps.specs.Epochs.{is_after, is_of, last_epoch}
use Rattle.sg_steps.proofs.NumberLemmas.{epoch_lt}
use Rattle.sg_tables.proofs.BetweenLemmas.{Decides}
use Rattle.sg_steps.specs.Calls.{with_plays_from}
use Rattle.sg_steps.specs.State.{IsNumbered, play_at}
use Rattle.sg_steps.proofs.ChangeLemmas.{row_here, row_other}
use Rattle.sg_keeper.specs.Changes.{with_row}
use Rattle.sg_records.specs.declared.epoch.Epoch.{Epoch}
use Rattle.sg_records.specs.Numbers.{epoch_number, play_bytes, play_number}

-- ---- the last epoch

last_of-filter : (d : ℕ) (es : List Epoch) → last_epoch d es ≡ last_epoch d (filter (is_of d) es)
last_of-filter d [] = refl
last_of-filter d (e ∷ es) = elim (eqb e.display d) as (λ b. eqb e.display d ≡ b → cond b (max e.epoch (last_epoch d es)) (last_epoch d es) ≡ last_epoch d (cond b (e ∷ filter (is_of d) es) (filter (is_of d) es))) [
  | true ↦ (λ is. ap (max e.epoch) (last_of-filter d es) ∙ sym (rw is refl))
  | false ↦ (λ _. last_of-filter d es)
] refl

all_of : (d : ℕ) (es : List Epoch) → AllByRecursion (λ e. e.display ≡ d) (filter (is_of d) es)
all_of d [] = tt
all_of d (e ∷ es) = elim (eqb e.display d) as (λ b. eqb e.display d ≡ b → AllByRecursion (λ x. x.display ≡ d) (cond b (e ∷ filter (is_of d) es) (filter (is_of d) es))) [
  | true ↦ (λ is. (eqb-true e.display d is, all_of d es))
  | false ↦ (λ _. all_of d es)
] refl

all_got : (P : Epoch → Type 0) (es : List Epoch) (k : ℕ) (x : Epoch) → AllByRecursion P es → slice_get es k ≡ Some x → P x
all_got P [] k x a e = absurd (cc)
all_got P (y ∷ ys) zero x a e = let same : y ≡ x = cc in subst P same a.0
all_got P (y ∷ ys) (suc k) x a e = all_got P ys k x a.1 e

last_rising : (d : ℕ) (es : List Epoch) (x : Epoch) → AllByRecursion (λ e. e.display ≡ d) es → IsRising epoch_number es → slice_get es (length es - 1) ≡ Some x → last_epoch d es ≡ x.epoch
last_rising d [] x own up e = absurd (cc)
last_rising d (y ∷ []) x own up e =
    let same : y ≡ x = cc in
    rw (eq-eqb y.display d own.0) (omega (arith, ap (λ (z : Epoch). z.epoch) same))
last_rising d (y ∷ (z ∷ zs)) x own up e =
    let index : length (y ∷ (z ∷ zs)) - 1 ≡ suc (length (z ∷ zs) - 1) = omega arith in
    let got : slice_get (z ∷ zs) (length (z ∷ zs) - 1) ≡ Some x = rw index at e in
    let rest = last_rising d (z ∷ zs) x own.1 up.1 got in
    let less : epoch_number y < epoch_number x = all_got (λ w. epoch_number y < epoch_number w) (z ∷ zs) (length (z ∷ zs) - 1) x up.0 got in
    let mine : y.display ≡ d = own.0 in
    let its : x.display ≡ d = all_got (λ w. w.display ≡ d) (z ∷ zs) (length (z ∷ zs) - 1) x own.1 got in
    rw (eq-eqb y.display d own.0, rest) (omega (arith, less, mine, its))

pub last_found : (d : ℕ) (es some : List Epoch) (x : Epoch) → some ≡ filter (is_of d) es → IsRising epoch_number some → slice_get some (length some - 1) ≡ Some x → x.epoch ≡ last_epoch d es
last_found d es some x is up got =
    let up' : IsRising epoch_number (filter (is_of d) es) = subst (IsRising epoch_number) is up in
    let got' : slice_get (filter (is_of d) es) (length (filter (is_of d) es) - 1) ≡ Some x = subst (λ l. slice_get l (length l - 1) ≡ Some x) is got in
    sym (last_of-filter d es ∙ last_rising d (filter (is_of d) es) x (all_of d es) up' got')

-- a list without a last element is empty
no_last : (es : List Epoch) → slice_get es (length es - 1) ≡ None → es ≡ []
no_last [] e = refl
no_last (y ∷ []) e = absurd (cc)
no_last (y ∷ (z ∷ zs)) e =
    let index : length (y ∷ (z ∷ zs)) - 1 ≡ suc (length (z ∷ zs) - 1) = omega arith in
    let rest : slice_get (z ∷ zs) (length (z ∷ zs) - 1) ≡ None = rw index at e in
    let none : (z ∷ zs) ≡ [] = no_last (z ∷ zs) rest in absurd (cc)

pub none_found : (d : ℕ) (es some : List Epoch) → some ≡ filter (is_of d) es → slice_get some (length some - 1) ≡ None → 0 ≡ last_epoch d es
none_found d es some is none = sym (last_of-filter d es ∙ ap (last_epoch d) (sym is ∙ no_last some none))

-- an epoch above the last one isn't there
pub none_above : (d n : ℕ) (es : List Epoch) → n < 2 ^ 32 → d < 2 ^ 32 → AllByRecursion IsNumbered es → last_epoch d es < n → found epoch_number (number 9 d n) es ≡ None
none_above d n [] fits low b lt = refl
none_above d n (e ∷ es) fits low b lt = elim (eqb e.display d) as (λ t. eqb e.display d ≡ t → cond t (max e.epoch (last_epoch d es)) (last_epoch d es) < n → found epoch_number (number 9 d n) (e ∷ es) ≡ None) [
  | true ↦ (λ is more.
      let ed = b.0.display in let ee = b.0.epoch in let same = eqb-true e.display d is in
      found_later epoch_number (number 9 d n) e es (λ q. omega arith) ∙ none_above d n es fits low b.1 (omega arith))
  | false ↦ (λ no more.
      let ed = b.0.display in let ee = b.0.epoch in
      found_later epoch_number (number 9 d n) e es (λ q. eqb-false e.display d no (omega arith)) ∙ none_above d n es fits low b.1 more)
] refl lt

-- ---- what is put

pub all_put : (P : Epoch → Type 0) (x : Epoch) (es : List Epoch) → P x → AllByRecursion P es → AllByRecursion P (put epoch_number x es)
all_put P x [] p a = (p, tt)
all_put P x (y ∷ ys) p a = by_put epoch_number x y ys (AllByRecursion P) (λ _. (p, a)) (λ _. (p, a.1)) (λ _. (a.0, all_put P x ys p a.1))

-- what is found is one of them
pub all_found : (P : Epoch → Type 0) (n : ℕ) (x : Epoch) (es : List Epoch) → AllByRecursion P es → found epoch_number n es ≡ Some x → P x
all_found P n x [] a f = absurd (cc)
all_found P n x (y ∷ ys) a f = by_equal (epoch_number y) n (λ b. cond b (Some y) (found epoch_number n ys) ≡ Some x → P x)
    (λ _ h. let is : y ≡ x = cc in subst P is a.0)
    (λ _ h. all_found P n x ys a.1 h) f

-- ---- plays of an epoch

-- rows that have the plays of an epoch
abbrev pub HavePlays : ℕ → ℕ → List PlayBody → (ℕ → Option (List ℕ)) → Type 0
HavePlays d e list rows = (n : ℕ) → n < 2 ^ 32 → rows (play_number d e n) ≡ option_map play_bytes (play_at n list)

got_next : (xs ys : List PlayBody) (p : PlayBody) → slice_get (xs ++ p ∷ ys) (length xs) ≡ Some p
got_next [] ys p = refl
got_next (x ∷ xs) ys p = got_next xs ys p

got_other : (xs : List PlayBody) (p : PlayBody) (k : ℕ) → (k ≡ length xs → ⊥) → slice_get (xs ++ p ∷ []) k ≡ slice_get xs k
got_other [] p zero ne = absurd (ne refl)
got_other [] p (suc k) ne = refl
got_other (x ∷ xs) p zero ne = refl
got_other (x ∷ xs) p (suc k) ne = got_other xs p k (λ e. ne (omega arith))

play_next : (xs : List PlayBody) (p : PlayBody) → play_at (length xs + 1) (xs ++ p ∷ []) ≡ Some p
play_next xs p =
    let index : length xs + 1 - 1 ≡ length xs = omega arith in
    rw (ne_eqb (length xs + 1) 0 (λ e. omega arith)) (ap (slice_get (xs ++ p ∷ [])) index ∙ got_next xs [] p)

play_other : (xs : List PlayBody) (p : PlayBody) (n : ℕ) → (n ≡ length xs + 1 → ⊥) → play_at n (xs ++ p ∷ []) ≡ play_at n xs
play_other xs p n ne = by_equal n 0 (λ b. cond b None (slice_get (xs ++ p ∷ []) (n - 1)) ≡ cond b None (slice_get xs (n - 1)))
    (λ _. refl) (λ some. got_other xs p (n - 1) (λ e. ne (omega arith)))

one_more : (d e : ℕ) (xs : List PlayBody) (p : PlayBody) (rows : ℕ → Option (List ℕ)) → length xs + 1 < 2 ^ 32 → HavePlays d e xs rows → HavePlays d e (xs ++ p ∷ []) (with_row (play_number d e (length xs + 1)) (Some (play_bytes p)) rows)
one_more d e xs p rows fits have n low = elim (cases_order n (length xs + 1)) [
  | inl q ↦
      row_here (play_number d e (length xs + 1)) (Some (play_bytes p)) rows (play_number d e n) (ap (play_number d e) (sym q))
      ∙ sym (ap (option_map play_bytes) (ap (λ m. play_at m (xs ++ p ∷ [])) q ∙ play_next xs p))
  | inr (inl h) ↦
      row_other (play_number d e (length xs + 1)) (Some (play_bytes p)) rows (play_number d e n) (λ q. omega arith)
      ∙ (have n low ∙ sym (ap (option_map play_bytes) (play_other xs p n (λ q. omega arith))))
  | inr (inr h) ↦
      row_other (play_number d e (length xs + 1)) (Some (play_bytes p)) rows (play_number d e n) (λ q. omega arith)
      ∙ (have n low ∙ sym (ap (option_map play_bytes) (play_other xs p n (λ q. omega arith))))
]

pub more_plays : (d e : ℕ) (xs ps : List PlayBody) (rows : ℕ → Option (List ℕ)) → length xs + length ps < 2 ^ 32 → HavePlays d e xs rows → HavePlays d e (xs ++ ps) (with_plays_from d e (length xs + 1) ps rows)
more_plays d e xs [] rows fits have n low = have n low ∙ ap (λ l. option_map play_bytes (play_at n l)) (sym (append-nil xs))
more_plays d e xs (p ∷ ps) rows fits have n low =
    let one = one_more d e xs p rows (omega arith) have in
    let long : length (xs ++ p ∷ []) ≡ length xs + 1 = length-append xs (p ∷ []) ∙ omega arith in
    let rest = more_plays d e (xs ++ p ∷ []) ps (with_row (play_number d e (length xs + 1)) (Some (play_bytes p)) rows) (omega (arith, long)) one n low in
    ap (λ k. with_plays_from d e (k + 1) ps (with_row (play_number d e (length xs + 1)) (Some (play_bytes p)) rows) (play_number d e n)) (sym long)
    ∙ (rest ∙ ap (λ l. option_map play_bytes (play_at n l)) (append_assoc xs (p ∷ []) ps))

-- ---- what stands between two numbers

its_place : (a e d : ℕ) → e < 2 ^ 32 → a ≡ d → (number 9 d 0 ≤ number 9 a e) × (number 9 a e < number 9 d 4294967295 + 1)
its_place a e d fits is = (omega arith, omega arith)

in_place : (a e d : ℕ) → e < 2 ^ 32 → number 9 d 0 ≤ number 9 a e → number 9 a e < number 9 d 4294967295 + 1 → a ≡ d
in_place a e d fits low high = omega arith

above_is : (m n : ℕ) → m < n → m + 1 ≤ n
above_is m n lt = omega arith

not_above : (m n : ℕ) → n ≤ m → m + 1 ≤ n → ⊥
not_above m n le more = omega arith

pub decides_of : (d : ℕ) (es : List Epoch) → AllByRecursion IsNumbered es → AllByRecursion (Decides epoch_number (is_of d) (number 9 d 0) (number 9 d 4294967295 + 1)) es
decides_of d [] b = tt
decides_of d (e ∷ es) b = (
  record {
    yes = λ is. its_place e.display e.epoch d b.0.epoch (eqb-true e.display d is);
    no = λ no low high. eqb-false e.display d no (in_place e.display e.epoch d b.0.epoch low high);
  },
  decides_of d es b.1,
)

pub decides_after : (d n : ℕ) (es : List Epoch) → AllByRecursion IsNumbered es → AllByRecursion (Decides epoch_number (is_after d n) (number 9 d n + 1) (number 10 0 0)) es
decides_after d n [] b = tt
decides_after d n (e ∷ es) b = (
  record {
    yes = λ is. (above_is (number 9 d n) (epoch_number e) (ltb-true (number 9 d n) (epoch_number e) is), epoch_lt e.display e.epoch b.0.display b.0.epoch);
    no = λ no low high. not_above (number 9 d n) (epoch_number e) (ltb-false (number 9 d n) (epoch_number e) no) low;
  },
  decides_after d n es b.1,
)
