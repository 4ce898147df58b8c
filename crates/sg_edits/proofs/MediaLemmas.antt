-- A medium that is changed where it stands among the rows.
use Rattle.std.proofs.Common.{◌≡◌, ◌∙◌, ℕ, ◌<◌, Bool, cond, eqb, List, [], ◌∷◌, map, Option, Some, refl, sym, subst, arith}
use Rattle.std.specs.Prelude.{option_map}
use Rattle.std.specs.List.{AllByRecursion}
use Rattle.std.proofs.lemmas.Bool.{ne_eqb}
use Rattle.sg_base.specs.declared.ids.MediaId.{MediaId}
use Rattle.sg_base.specs.declared.kind.Kind.TheVariants as kind
use Rattle.sg_base.specs.Rising.{IsRising, found}
use Rattle.sg_base.proofs.RisingLemmas.{by_equal, found_first, found_later}
use Rattle.sg_tables.specs.Entries.{Kept, number_of_kept}
use Rattle.sg_tables.specs.Refusals.{row_at}
use Rattle.sg_tables.specs.Rows.{at, number_at}
use Rattle.sg_tables.specs.Tables.{with_medium}

-- ---- a medium that is changed where it stands

abbrev pub Stays : (Kept → Kept) → Type 0
Stays change = (e : Kept) → number_of_kept (change e) ≡ number_of_kept e

-- the element of a number in a list of which one is changed
abbrev pub change_one : (Kept → Kept) → ℕ → Kept → Kept
change_one change n e = cond (eqb (number_of_kept e) n) (change e) e

same_number : (change : Kept → Kept) (n : ℕ) (e : Kept) → Stays change → number_of_kept (change_one change n e) ≡ number_of_kept e
same_number change n e stays = by_equal (number_of_kept e) n (λ b. number_of_kept (cond b (change e) e) ≡ number_of_kept e) (λ _. stays e) (λ _. refl)

pub found_here : (change : Kept → Kept) (n : ℕ) (rows : List Kept) → Stays change → found number_of_kept n (map (change_one change n) rows) ≡ option_map change (found number_of_kept n rows)
found_here change n [] stays = refl
found_here change n (x ∷ xs) stays = by_equal (number_of_kept x) n (λ b. found number_of_kept n (cond b (change x) x ∷ map (change_one change n) xs) ≡ option_map change (cond b (Some x) (found number_of_kept n xs)))
    (λ e. found_first number_of_kept n (change x) (map (change_one change n) xs) (stays x ∙ e))
    (λ ne. found_later number_of_kept n x (map (change_one change n) xs) ne ∙ found_here change n xs stays)

pub found_there : (change : Kept → Kept) (n k : ℕ) (rows : List Kept) → Stays change → (n ≡ k → ⊥) → found number_of_kept k (map (change_one change n) rows) ≡ found number_of_kept k rows
found_there change n k [] stays ne = refl
found_there change n k (x ∷ xs) stays ne = by_equal (number_of_kept x) n (λ b. found number_of_kept k (cond b (change x) x ∷ map (change_one change n) xs) ≡ found number_of_kept k (x ∷ xs))
    (λ e. found_later number_of_kept k (change x) (map (change_one change n) xs) (λ q. ne (sym e ∙ (sym (stays x) ∙ q)))
    ∙ (found_there change n k xs stays ne ∙ sym (found_later number_of_kept k x xs (λ q. ne (sym e ∙ q)))))
    (λ other. by_equal (number_of_kept x) k (λ b. cond b (Some x) (found number_of_kept k (map (change_one change n) xs)) ≡ cond b (Some x) (found number_of_kept k xs))
    (λ _. refl) (λ _. found_there change n k xs stays ne))

above_changed : (change : Kept → Kept) (n k : ℕ) (rows : List Kept) → Stays change → AllByRecursion (λ e. k < number_of_kept e) rows → AllByRecursion (λ e. k < number_of_kept e) (map (change_one change n) rows)
above_changed change n k [] stays a = tt
above_changed change n k (x ∷ xs) stays a = (subst (λ m. k < m) (sym (same_number change n x stays)) a.0, above_changed change n k xs stays a.1)

rising_changed : (change : Kept → Kept) (n : ℕ) (rows : List Kept) → Stays change → IsRising number_of_kept rows → IsRising number_of_kept (map (change_one change n) rows)
rising_changed change n [] stays up = tt
rising_changed change n (x ∷ xs) stays up = (
  subst (λ m. AllByRecursion (λ e. m < number_of_kept e) (map (change_one change n) xs)) (sym (same_number change n x stays)) (above_changed change n (number_of_kept x) xs stays up.0),
  rising_changed change n xs stays up.1,
)

pub rising_medium : (change : Kept → Kept) (media : MediaId) (rows : List Kept) → Stays change → IsRising number_of_kept rows → IsRising number_of_kept (with_medium change media rows)
rising_medium change media rows stays up = rising_changed change (number_at (at kind.Media media.0)) rows stays up

all_others : (P : Kept → Type 0) (change : Kept → Kept) (n : ℕ) (rows : List Kept) → AllByRecursion (λ e. n < number_of_kept e) rows → AllByRecursion P rows → AllByRecursion P (map (change_one change n) rows)
all_others P change n [] above a = tt
all_others P change n (x ∷ xs) above a =
    let less : n < number_of_kept x = above.0 in
    (subst (λ b. P (cond b (change x) x)) (sym (ne_eqb (number_of_kept x) n (omega arith))) a.0, all_others P change n xs above.1 a.1)

-- what holds of all rows, and of the medium after the change
all_changed : (P : Kept → Type 0) (change : Kept → Kept) (n : ℕ) (e : Kept) (rows : List Kept) → IsRising number_of_kept rows → found number_of_kept n rows ≡ Some e → P (change e) → AllByRecursion P rows → AllByRecursion P (map (change_one change n) rows)
all_changed P change n e [] up f p a = tt
all_changed P change n e (x ∷ xs) up f p a = by_equal (number_of_kept x) n (λ b. cond b (Some x) (found number_of_kept n xs) ≡ Some e → P (cond b (change x) x) × AllByRecursion P (map (change_one change n) xs))
    (λ is q. let it : x ≡ e = cc in (subst (λ y. P (change y)) (sym it) p, all_others P change n xs (subst (λ m. AllByRecursion (λ y. m < number_of_kept y) xs) is up.0) a.1))
    (λ _ q. (a.0, all_changed P change n e xs up.1 q p a.1)) f

pub all_medium : (P : Kept → Type 0) (change : Kept → Kept) (media : MediaId) (e : Kept) (rows : List Kept) → IsRising number_of_kept rows → row_at (at kind.Media media.0) rows ≡ Some e → P (change e) → AllByRecursion P rows → AllByRecursion P (with_medium change media rows)
all_medium P change media e rows up f p a = all_changed P change (number_at (at kind.Media media.0)) e rows up f p a
