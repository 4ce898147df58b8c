-- A medium that has just come in, with what has come of it.
use Rattle.std.proofs.Common.{◌≡◌, ◌∙◌, ℕ, ◌<◌, Bool, true, false, ◌==◌, ◌&&◌, ◌%◌, cond, eqb, ltb, List, [], ◌∷◌, map, Option, Some, None, refl, ap, sym, subst, arith, inl, inr}
use Rattle.std.proofs.lemmas.Bool.{and_parts, cases_order, eq-eqb, eqb-true, lt-ltb, le-ltb, ne_eqb}
use Rattle.sg_base.specs.declared.file.Listed.{Listed}
use Rattle.sg_base.specs.declared.kind.Kind.TheVariants as kind
use Rattle.sg_base.specs.declared.row.Row.{Row}
use Rattle.sg_base.specs.declared.row.Row.TheVariants as row
use Rattle.sg_base.specs.Rising.{found, put}
use Rattle.sg_base.proofs.RisingLemmas.{by_put, found-put, found_first, found_later}
use Rattle.sg_records.specs.Saved.{IsSaved, is_state}
use Rattle.sg_tables.specs.Entries.{Kept, fresh, is_media, number_of_kept}
use Rattle.sg_tables.specs.Refusals.{bytes_of, row_at}
use Rattle.sg_tables.specs.Rows.{at, id_of, number_at}
use Rattle.sg_tables.specs.Tables.{file_of, holding, whole, with_medium}

-- rows of other numbers stay
unchanged : (change : Kept → Kept) (n : ℕ) (rows : List Kept) → found number_of_kept n rows ≡ None → map (λ e. cond (eqb (number_of_kept e) n) (change e) e) rows ≡ rows
unchanged change n [] none = refl
unchanged change n (e ∷ es) none =
    elim (cases_order (number_of_kept e) n) [
      | inl same ↦ let first = found_first number_of_kept n e es same in absurd (cc)
      | inr (inl less) ↦ rw (ne_eqb (number_of_kept e) n (λ q. omega arith)) (ap (λ l. e ∷ l) (unchanged change n es (sym (found_later number_of_kept n e es (λ q. omega arith)) ∙ none)))
      | inr (inr more) ↦ rw (ne_eqb (number_of_kept e) n (λ q. omega arith)) (ap (λ l. e ∷ l) (unchanged change n es (sym (found_later number_of_kept n e es (λ q. omega arith)) ∙ none)))
    ]

-- changing a row that was put is putting the changed row
pub put_then_changed : (change : Kept → Kept) (n : ℕ) (e : Kept) (rows : List Kept) → number_of_kept e ≡ n → number_of_kept (change e) ≡ n → found number_of_kept n rows ≡ None
    → map (λ x. cond (eqb (number_of_kept x) n) (change x) x) (put number_of_kept e rows) ≡ put number_of_kept (change e) rows
put_then_changed change n e [] here there none = rw (eq-eqb (number_of_kept e) n here) refl
put_then_changed change n e (x ∷ xs) here there none =
    elim (cases_order (number_of_kept x) n) [
      | inl same ↦ let first = found_first number_of_kept n x xs same in absurd (cc)
      | inr (inl less) ↦
          let rest = put_then_changed change n e xs here there (sym (found_later number_of_kept n x xs (λ q. omega arith)) ∙ none) in
          by_put number_of_kept e x xs (λ l. map (λ y. cond (eqb (number_of_kept y) n) (change y) y) l ≡ put number_of_kept (change e) (x ∷ xs))
          (λ h. absurd (omega arith))
          (λ h. absurd (omega arith))
          (λ _. by_put number_of_kept (change e) x xs (λ l. map (λ y. cond (eqb (number_of_kept y) n) (change y) y) (x ∷ put number_of_kept e xs) ≡ l)
          (λ h. absurd (omega arith))
          (λ h. absurd (omega arith))
          (λ _. rw (ne_eqb (number_of_kept x) n (λ q. omega arith)) (ap (λ l. x ∷ l) rest)))
      | inr (inr more) ↦
          let rest = unchanged change n (x ∷ xs) none in
          by_put number_of_kept e x xs (λ l. map (λ y. cond (eqb (number_of_kept y) n) (change y) y) l ≡ put number_of_kept (change e) (x ∷ xs))
          (λ _. by_put number_of_kept (change e) x xs (λ l. map (λ y. cond (eqb (number_of_kept y) n) (change y) y) (e ∷ x ∷ xs) ≡ l)
          (λ _. rw (eq-eqb (number_of_kept e) n here) (ap (λ l. change e ∷ l) rest))
          (λ h. absurd (omega arith))
          (λ h. absurd (omega arith)))
          (λ h. absurd (omega arith))
          (λ h. absurd (omega arith))
    ]

whole_file : (file : Listed) (received : ℕ) (rows : List Kept) → received ≡ file.length → row_at (at kind.Media file.media.0) rows ≡ None
    → with_medium whole file.media (put number_of_kept (fresh (row.Media file)) rows) ≡ put number_of_kept (record { row = row.Media file; received = received; complete = true }) rows
whole_file file received rows is none =
    put_then_changed whole (number_at (at kind.Media file.media.0)) (fresh (row.Media file)) rows refl refl none
    ∙ ap (λ n. put number_of_kept (record { row = row.Media file; received = n; complete = true }) rows) (sym is)

-- all of its bytes had come
pub whole_put : (s : Kept) (file : Listed) (rows tables : List Kept) → IsSaved s → s.row ≡ row.Media file → s.complete ≡ true → row_at (id_of s.row) rows ≡ None → tables ≡ put number_of_kept (fresh s.row) rows
    → with_medium whole file.media tables ≡ put number_of_kept s rows
whole_put s file rows tables h is done none put_is =
    let all : is_state (file_of s.row) s.received true ≡ true = subst (λ b. is_state (file_of s.row) s.received b ≡ true) done h.state in
    let long : is_state (file_of (row.Media file)) s.received true ≡ true = subst (λ r. is_state (file_of r) s.received true ≡ true) is all in
    let new : row_at (id_of (row.Media file)) rows ≡ None = subst (λ r. row_at (id_of r) rows ≡ None) is none in
    ap (with_medium whole file.media) (put_is ∙ ap (λ r. put number_of_kept (fresh r) rows) is)
    ∙ (whole_file file s.received rows (eqb-true s.received file.length long) new
    ∙ (ap (λ r. put number_of_kept (record { row = r; received = s.received; complete = true }) rows) (sym is)
    ∙ ap (λ b. put number_of_kept (record { row = s.row; received = s.received; complete = b }) rows) (sym done)))

-- so many of its bytes had come
pub part_put : (s : Kept) (file : Listed) (rows tables : List Kept) → s.row ≡ row.Media file → s.complete ≡ false → row_at (id_of s.row) rows ≡ None → tables ≡ put number_of_kept (fresh s.row) rows
    → with_medium (holding s.received) file.media tables ≡ put number_of_kept s rows
part_put s file rows tables is not_done none put_is =
    let new : row_at (id_of (row.Media file)) rows ≡ None = subst (λ r. row_at (id_of r) rows ≡ None) is none in
    ap (with_medium (holding s.received) file.media) (put_is ∙ ap (λ r. put number_of_kept (fresh r) rows) is)
    ∙ (put_then_changed (holding s.received) (number_at (at kind.Media file.media.0)) (fresh (row.Media file)) rows refl refl new
    ∙ (ap (λ r. put number_of_kept (record { row = r; received = s.received; complete = false }) rows) (sym is)
    ∙ ap (λ b. put number_of_kept (record { row = s.row; received = s.received; complete = b }) rows) (sym not_done)))

-- a row that was put is there
pub put_there : (e : Kept) (rows : List Kept) → found number_of_kept (number_of_kept e) (put number_of_kept e rows) ≡ Some e
put_there e rows = found-put number_of_kept (number_of_kept e) e rows ∙ rw (eq-eqb (number_of_kept e) (number_of_kept e) refl) refl
