-- A text under a key is that of one row.
use Rattle.std.proofs.Common.{◌≡◌, ◌∙◌, ◌⊎◌, ⊎_elim, ℕ, ◌^◌, ◌<◌, Bool, List, Option, Some, None, Ok, refl, ap, sym, subst, arith, inl, inr}
use Rattle.std.specs.Prelude.{Result}
use Rattle.serde_json.specs.Data.{Data}
use Rattle.serde_json.specs.Read.{read}
use Rattle.sg_base.specs.declared.file.Listed.{Listed}
use Rattle.sg_base.specs.declared.kind.Kind.TheVariants as kind
use Rattle.sg_base.specs.declared.row.Row.{Row}
use Rattle.sg_base.specs.declared.row.Row.TheVariants as row
use Rattle.sg_base.specs.Rows.{kind_of}
use Rattle.sg_edit_rows.specs.EditRows.{IsRow, row_at, row_json}
use Rattle.sg_edit_rows.specs.Older.{older_json}
use Rattle.sg_edit_rows.proofs.AgainEdits.{row_again}
use Rattle.sg_rows.specs.declared.form.RowForm.TheVariants.{Edit}
use Rattle.sg_rows.specs.declared.fault.RowFault.{RowFault}
use Rattle.sg_rows.specs.Text.{file_json}
use Rattle.sg_records.specs.Saved.{IsSaved, IsSavedText, medium_json, saved_json, saved_json_of}
use Rattle.sg_records.proofs.SavedLemmas.{json_kept, row_id, row_said}
use Rattle.sg_tables.specs.Entries.{Kept, number_of_kept}
use Rattle.sg_tables.specs.Rows.{code_of, id_in}
use Rattle.sg_tables.specs.Tables.{file_of}
use Rattle.sg_tables.proofs.KindLemmas.{same_code}

abbrev entry : Row → ℕ → Bool → Kept
entry r received complete = record { row = r; received = received; complete = complete }

-- the JSON is one of those of what is kept
abbrev Says : Data → Kept → Type 0
Says d e = (d ≡ saved_json e) ⊎ (older_json e.row ≡ Some d)

-- a row is a medium, or it has no file
medium_or : (r : Row) → ((f : Listed) × (r ≡ row.Media f)) ⊎ ((file_of r ≡ None) × (kind_of r ≡ kind.Media → ⊥))
medium_or (row.Media f) = inl (f, refl)
medium_or (row.Layout l) = inr (refl, λ e. cc)
medium_or (row.Campaign c) = inr (refl, λ e. cc)
medium_or (row.Daypart d) = inr (refl, λ e. cc)
medium_or (row.Group g) = inr (refl, λ e. cc)
medium_or (row.Display d) = inr (refl, λ e. cc)
medium_or (row.Event v) = inr (refl, λ e. cc)

medium_says : (d : Data) (f : Listed) (received : ℕ) (complete : Bool) → Says d (entry (row.Media f) received complete) → d ≡ medium_json f received complete
medium_says d f received complete says = ⊎_elim (λ e. e) (λ older. absurd (cc)) says

other_says : (d : Data) (r : Row) (received : ℕ) (complete : Bool) → file_of r ≡ None → Says d (entry r received complete) → (d ≡ row_json Edit r) ⊎ (older_json r ≡ Some d)
other_says d r received complete none says = ⊎_elim (λ e. inl (e ∙ ap (λ f. saved_json_of f (entry r received complete)) none)) (λ older. inr older) says

one_file : (a b : Listed) (m n : ℕ) (c k : Bool) → medium_json a m c ≡ medium_json b n k → file_json a ≡ file_json b
one_file a b m n c k e = cc

one_medium : (a b : Listed) (m n : ℕ) (c k : Bool) → IsRow Edit (row.Media a) → IsRow Edit (row.Media b) → medium_json a m c ≡ medium_json b n k → row.Media a ≡ row.Media b
one_medium a b m n c k h i e =
    let both : ◌≡◌ {A = Result Row RowFault} (Ok (row.Media a)) (Ok (row.Media b)) = sym (row_again Edit (row.Media a) h) ∙ (ap (row_at kind.Media Edit) (one_file a b m n c k e) ∙ row_again Edit (row.Media b) i) in
    cc

one_other : (d : Data) (r s : Row) → IsRow Edit r → IsRow Edit s → kind_of r ≡ kind_of s → (d ≡ row_json Edit r) ⊎ (older_json r ≡ Some d) → (d ≡ row_json Edit s) ⊎ (older_json s ≡ Some d) → r ≡ s
one_other d r s h i same says too =
    let first = row_said r (kind_of s) d h same says in
    let second = row_said s (kind_of s) d i refl too in
    cc

one_said : (d : Data) (r s : Row) (m n : ℕ) (c k : Bool) → IsRow Edit r → IsRow Edit s → kind_of r ≡ kind_of s → Says d (entry r m c) → Says d (entry s n k) → r ≡ s
one_said d r s m n c k h i same says too = ⊎_elim
    (λ x. ⊎_elim
    (λ y.
    let media = one_medium x.0 y.0 m n c k (subst (IsRow Edit) x.1 h) (subst (IsRow Edit) y.1 i)
    (sym (medium_says d x.0 m c (subst (λ z. Says d (entry z m c)) x.1 says)) ∙ medium_says d y.0 n k (subst (λ z. Says d (entry z n k)) y.1 too)) in
    x.1 ∙ (media ∙ sym y.1))
    (λ y. absurd (y.1 (sym same ∙ ap kind_of x.1)))
    (medium_or s))
    (λ x. ⊎_elim
    (λ y. absurd (x.1 (same ∙ ap kind_of y.1)))
    (λ y. one_other d r s h i same (other_says d r m c x.0 says) (other_says d s n k y.0 too))
    (medium_or s))
    (medium_or r)

same_some : (a b : Data) → ◌≡◌ {A = Option Data} (Some a) (Some b) → a ≡ b
same_some a b e = cc

-- two rows that are kept under one key with one text are one
pub one_row : (e f : Kept) (text : List ℕ) → IsSaved e → IsSaved f → number_of_kept e ≡ number_of_kept f → IsSavedText e text → IsSavedText f text → e.row ≡ f.row
one_row e f text h i number says too =
    let a = json_kept e text h says in
    let b = json_kept f text i too in
    let json : a.json ≡ b.json = same_some a.json b.json (sym a.again ∙ (ap read (sym a.text ∙ b.text) ∙ b.again)) in
    let x = row_id e.row h.row in
    let y = row_id f.row i.row in
    let code : code_of (kind_of e.row) ≡ code_of (kind_of f.row) = omega (arith, x, y, number) in
    one_said b.json e.row f.row e.received f.received e.complete f.complete h.row i.row (same_code (kind_of e.row) (kind_of f.row) code)
    (subst (λ d. Says d e) json a.said) b.said
