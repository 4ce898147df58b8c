-- A medium of which more has come.
use Rattle.std.proofs.Common.{◌≡◌, ◌≢◌, ℕ, ◌^◌, ◌<◌, true, cond, eqb, List, [], ◌∷◌, length, map, refl, ap, sym, ◌∙◌, subst, arith, inl, inr}
use Rattle.std.specs.Prelude.{Option, None, Some, All}
use Rattle.std.specs.List.{AllByRecursion}
use Rattle.std.proofs.lemmas.Bool.{cases_order, eq-eqb, ne_eqb}
use Rattle.sg_base.specs.declared.file.Listed.{Listed}
use Rattle.sg_base.specs.declared.ids.MediaId.{MediaId}
use Rattle.sg_base.specs.declared.kind.Kind.TheVariants as kind
use Rattle.sg_base.specs.declared.row.Row.{Row}
use Rattle.sg_base.specs.declared.row.Row.TheVariants as row
use Rattle.sg_base.specs.Rising.{IsRising, found, put}
use Rattle.sg_base.specs.Rows.{kind_of}
use Rattle.sg_base.proofs.RisingLemmas.{by_put, all_above, found_above, found_first, found_later, rank_found, rising-put}
use Rattle.sg_tables.specs.declared.counts.Count.{Count}
use Rattle.sg_tables.specs.Counts.{AreCounted, IsBounded, IsShort, times}
use Rattle.sg_tables.specs.Entries.{Kept, is_media, number_of_kept}
use Rattle.sg_tables.specs.Refusals.{IsThere, bytes_of, is_of, row_at}
use Rattle.sg_tables.specs.Rows.{at, code_of, id_in, id_of, number_at, references}
use Rattle.sg_tables.specs.Tables.{file_in, file_of, with_medium}
use Rattle.sg_tables.proofs.CountLemmas.{media_code}
use Rattle.sg_tables.proofs.KeptLemmas.{closed_put, kept_at, kept_put}
use Rattle.sg_tables.proofs.KindLemmas.{kind_is}
use Rattle.sg_tables.proofs.SumLemmas.{part, sum-put}

unchanged : (change : Kept → Kept) (n : ℕ) (rows : List Kept) → AllByRecursion (λ e. n < number_of_kept e) rows → map (λ e. cond (eqb (number_of_kept e) n) (change e) e) rows ≡ rows
unchanged change n [] a = refl
unchanged change n (e ∷ es) a =
    let h : n < number_of_kept e = a.0 in
    rw (ne_eqb (number_of_kept e) n (omega arith)) (ap (λ l. e ∷ l) (unchanged change n es a.1))

-- the changed row is put in place of the one that was there
put_changed : (change : Kept → Kept) (n : ℕ) (e : Kept) (rows : List Kept) → IsRising number_of_kept rows → found number_of_kept n rows ≡ Some e → number_of_kept (change e) ≡ n → put number_of_kept (change e) rows ≡ map (λ x. cond (eqb (number_of_kept x) n) (change x) x) rows
put_changed change n e [] s f is = absurd (cc)
put_changed change n e (x ∷ xs) s f is =
    elim (cases_order (number_of_kept x) n) [
      | inl same ↦
          let first = found_first number_of_kept n x xs same in
          let it : x ≡ e = cc in
          by_put number_of_kept (change e) x xs (λ l. l ≡ cond (eqb (number_of_kept x) n) (change x) x ∷ map (λ y. cond (eqb (number_of_kept y) n) (change y) y) xs)
          (λ h. absurd (omega arith))
          (λ _. rw (eq-eqb (number_of_kept x) n same, it) (ap (λ l. change e ∷ l) (sym (unchanged change n xs (all_above number_of_kept (number_of_kept x) n xs (omega arith) s.0)))))
          (λ h. absurd (omega arith))
      | inr (inl less) ↦
          let later = found_later number_of_kept n x xs (λ q. omega arith) in
          by_put number_of_kept (change e) x xs (λ l. l ≡ cond (eqb (number_of_kept x) n) (change x) x ∷ map (λ y. cond (eqb (number_of_kept y) n) (change y) y) xs)
          (λ h. absurd (omega arith))
          (λ h. absurd (omega arith))
          (λ _. rw (ne_eqb (number_of_kept x) n (omega arith)) (ap (λ l. x ∷ l) (put_changed change n e xs s.1 (sym later ∙ f) is)))
      | inr (inr more) ↦
          let none = found_above number_of_kept n (x ∷ xs) (more, all_above number_of_kept (number_of_kept x) n xs (omega arith) s.0) in
          absurd (cc)
    ]

-- what is counted is that of the row alone
counted_same : (e old : Kept) (rows : List Kept) (counts : List Count) (total : ℕ) → AreCounted rows counts total → found number_of_kept (number_of_kept e) rows ≡ Some old → e.row ≡ old.row → AreCounted (put number_of_kept e rows) counts total
counted_same e old rows counts total a there is =
    let same : (f : Row → ℕ) → part (λ (x : Kept). f x.row) (found number_of_kept (number_of_kept e) rows) ≡ f e.row = (λ f. ap (part (λ (x : Kept). f x.row)) there ∙ ap f (sym is)) in
    let bytes_now = sum-put number_of_kept (λ (x : Kept). bytes_of x.row) e rows a.rising in
    let bytes_old = same bytes_of in
    let bytes = a.bytes in
    let light = a.light in
    record {
      rising = rising-put number_of_kept e rows a.rising;
      closed =
          let named = kept_at (λ x. AllByRecursion (IsThere rows) (references x.row)) (number_of_kept e) old rows a.closed there in
          closed_put e rows (subst (λ r. AllByRecursion (IsThere rows) (references r)) (sym is) named) a.closed;
      each = λ n.
          let now = sum-put number_of_kept (λ (x : Kept). times n (references x.row)) e rows a.rising in
          let old = same (λ r. times n (references r)) in
          let was = a.each n in
          omega (arith, now, old, was);
      bytes = omega (arith, bytes_now, bytes_old, bytes);
      few = λ k.
          let now = sum-put number_of_kept (λ (x : Kept). cond (is_of k x) 1 0) e rows a.rising in
          let old = same (λ r. cond (eqb (code_of (kind_of r)) (code_of k)) 1 0) in
          let was = a.few k in
          omega (arith, now, old, was);
      light = omega (arith, bytes_now, bytes_old, light);
      bounded =
          let b = kept_at IsBounded (number_of_kept e) old rows a.bounded there in
          kept_put IsBounded e rows (record { id = subst (λ r. id_in r < 2 ^ 32) (sym is) b.id; references = subst (λ r. length (references r) < 2 ^ 64) (sym is) b.references; named = subst (λ r. All IsShort (references r)) (sym is) b.named }) a.bounded;
    }

file_is : (r : Row) (file : Listed) → file_of r ≡ Some file → r ≡ row.Media file
file_is (row.Media f) file e = let same : f ≡ file = cc in ap (λ x. row.Media x) same
file_is (row.Layout l) file e = absurd (cc)
file_is (row.Campaign c) file e = absurd (cc)
file_is (row.Daypart d) file e = absurd (cc)
file_is (row.Group g) file e = absurd (cc)
file_is (row.Display d) file e = absurd (cc)
file_is (row.Event v) file e = absurd (cc)

has_file : (r : Row) → is_media r ≡ true → file_of r ≡ None → ⊥
has_file (row.Media f) is e = absurd (cc)
has_file (row.Layout l) is e = absurd (cc)
has_file (row.Campaign c) is e = absurd (cc)
has_file (row.Daypart d) is e = absurd (cc)
has_file (row.Group g) is e = absurd (cc)
has_file (row.Display d) is e = absurd (cc)
has_file (row.Event v) is e = absurd (cc)

-- what is kept under the key of a medium is one
none_there : (id : ℕ) (rows : List Kept) (r : Option Kept) → id < 2 ^ 32 → AllByRecursion IsBounded rows → row_at (at kind.Media id) rows ≡ r → file_in r ≡ None → r ≡ None
none_there id rows None lt a f e = refl
none_there id rows (Some x) lt a f e =
    let b = kept_at IsBounded (number_at (at kind.Media id)) x rows a f in
    let n = rank_found number_of_kept (number_at (at kind.Media id)) rows x f in
    let bound = b.id in
    let c : code_of (kind_of x.row) ≡ 1 = kind_is (code_of (kind_of x.row)) 1 (id_in x.row) bound (omega (arith, n, lt)) (omega (arith, n, lt)) in
    absurd (has_file x.row (media_code x.row ∙ rw c) e)

pub no_medium : (media : MediaId) (rows : List Kept) → media.0 < 2 ^ 32 → AllByRecursion IsBounded rows → file_in (row_at (at kind.Media media.0) rows) ≡ None → row_at (at kind.Media media.0) rows ≡ None
no_medium media rows lt a e = none_there media.0 rows (row_at (at kind.Media media.0) rows) lt a refl e

-- a medium with more of its bytes, in place of the medium as it was
pub record IsChanged (change : Kept → Kept) (media : MediaId) (rows : List Kept) (counts : List Count) (total : ℕ) (entry : Kept) : Type 0 where
  pub there : found number_of_kept (number_of_kept entry) rows ≢ None
  pub items : put number_of_kept entry rows ≡ with_medium change media rows
  pub counted : AreCounted (put number_of_kept entry rows) counts total

changed_one : (change : Kept → Kept) (media : MediaId) (rows : List Kept) (counts : List Count) (total : ℕ) (file : Listed) (entry : Kept) (r : Option Kept) → AreCounted rows counts total → row_at (at kind.Media media.0) rows ≡ r → file_in r ≡ Some file
    → ((e : Kept) → e.row ≡ row.Media file → entry ≡ change e) → ((e : Kept) → (change e).row ≡ e.row) → IsChanged change media rows counts total entry
changed_one change media rows counts total file entry None a f e is keeps = absurd (cc)
changed_one change media rows counts total file entry (Some x) a f e is keeps =
    let n = number_at (at kind.Media media.0) in
    let entry_is : entry ≡ change x = is x (file_is x.row file e) in
    let row_same : entry.row ≡ x.row = ap (λ (k : Kept). k.row) entry_is ∙ keeps x in
    let number : number_of_kept entry ≡ n = ap (λ r. number_at (id_of r)) row_same ∙ rank_found number_of_kept n rows x f in
    let there : found number_of_kept (number_of_kept entry) rows ≡ Some x = ap (λ k. found number_of_kept k rows) number ∙ f in
    record {
      there = λ none. absurd (cc);
      items = ap (λ k. put number_of_kept k rows) entry_is ∙ put_changed change n x rows a.rising f (ap (λ r. number_at (id_of r)) (keeps x) ∙ rank_found number_of_kept n rows x f);
      counted = counted_same entry x rows counts total a there row_same;
    }

pub changed_medium : (change : Kept → Kept) (media : MediaId) (rows : List Kept) (counts : List Count) (total : ℕ) (file : Listed) (entry : Kept) → AreCounted rows counts total → file_in (row_at (at kind.Media media.0) rows) ≡ Some file
    → ((e : Kept) → e.row ≡ row.Media file → entry ≡ change e) → ((e : Kept) → (change e).row ≡ e.row) → IsChanged change media rows counts total entry
changed_medium change media rows counts total file entry a e is keeps = changed_one change media rows counts total file entry (row_at (at kind.Media media.0) rows) a refl e is keeps
