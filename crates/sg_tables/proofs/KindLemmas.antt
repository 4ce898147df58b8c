-- The rows of a kind stand together.
use Rattle.std.proofs.Common.{◌≡◌, ℕ, ◌+◌, ◌^◌, ◌<◌, ◌≤◌, Bool, true, false, cond, eqb, ltb, ◌&&◌, List, [], ◌∷◌, refl, ap, sym, ◌∙◌, arith, inl, inr}
use Rattle.std.specs.Prelude.{Some, filter, slice_get}
use Rattle.std.specs.List.{AllByRecursion, find}
use Rattle.std.proofs.lemmas.Bool.{and_parts, cases_order, eq-eqb, eqb-true, eqb-false, lt-ltb, ltb-true}
use Rattle.sg_base.specs.declared.kind.Kind.{Kind}
use Rattle.sg_base.specs.declared.kind.Kind.TheVariants as kind
use Rattle.sg_base.specs.Keys.{number}
use Rattle.sg_base.specs.Rising.{IsRising, found}
use Rattle.sg_base.specs.Rows.{kind_of}
use Rattle.sg_base.proofs.RisingLemmas.{found_later, found_outside, same_rising}
use Rattle.sg_tables.specs.Counts.{IsBounded}
use Rattle.sg_tables.specs.Entries.{Kept, number_of_kept}
use Rattle.sg_tables.specs.Refusals.{is_of}
use Rattle.sg_tables.specs.Rows.{code_of, id_in}
use Rattle.sg_tables.specs.Tables.{is_above}
use Rattle.sg_tables.proofs.BetweenLemmas.{Decides}

-- a kind by its number
kind_with : ℕ → Kind
kind_with n = cond (eqb n 1) kind.Media (cond (eqb n 2) kind.Layout (cond (eqb n 3) kind.Campaign (cond (eqb n 4) kind.Daypart (cond (eqb n 5) kind.Group (cond (eqb n 6) kind.Display (cond (eqb n 7) kind.Event kind.Client))))))

with_code : (k : Kind) → kind_with (code_of k) ≡ k
unfolding kind_with
with_code kind.Media = refl
with_code kind.Layout = refl
with_code kind.Campaign = refl
with_code kind.Daypart = refl
with_code kind.Group = refl
with_code kind.Display = refl
with_code kind.Event = refl
with_code kind.Client = refl

-- kinds of one number are one
pub same_code : (k l : Kind) → code_of k ≡ code_of l → k ≡ l
same_code k l e = sym (with_code k) ∙ (ap kind_with e ∙ with_code l)

-- a key of a kind is between those that begin it and the next
kind_begins : (c d id : ℕ) → id < 2 ^ 32 → c ≡ d → (number d 0 0 ≤ number c id 0) × (number c id 0 < number (d + 1) 0 0)
kind_begins c d id lt e = (omega arith, omega arith)

pub kind_is : (c d id : ℕ) → id < 2 ^ 32 → number d 0 0 ≤ number c id 0 → number c id 0 < number (d + 1) 0 0 → c ≡ d
kind_is c d id lt low high = omega arith

-- the kind of a row is decided by where its number stands
pub decides_kind : (k : Kind) (rows : List Kept) → AllByRecursion IsBounded rows → AllByRecursion (Decides number_of_kept (is_of k) (number (code_of k) 0 0) (number (code_of k + 1) 0 0)) rows
decides_kind k [] a = tt
decides_kind k (e ∷ es) a = (
  record {
    yes = λ is. kind_begins (code_of (kind_of e.row)) (code_of k) (id_in e.row) a.0.id (eqb-true _ _ is);
    no = λ other low high. eqb-false (code_of (kind_of e.row)) (code_of k) other (kind_is (code_of (kind_of e.row)) (code_of k) (id_in e.row) a.0.id low high);
  },
  decides_kind k es a.1,
)

-- and so is whether its id is above another of the kind
pub decides_above : (k : Kind) (id : ℕ) (rows : List Kept) → id < 2 ^ 32 → AllByRecursion IsBounded rows → AllByRecursion (Decides number_of_kept (is_above k id) (number (code_of k) id 0 + 1) (number (code_of k + 1) 0 0)) rows
decides_above k id [] lt a = tt
decides_above k id (e ∷ es) lt a =
    let c = code_of (kind_of e.row) in
    let bound = a.0.id in (
      record {
        yes = λ is.
            let parts = and_parts (eqb c (code_of k)) (ltb id (id_in e.row)) is in
            let same : c ≡ code_of k = eqb-true c (code_of k) parts.0 in
            let more : id < id_in e.row = ltb-true id (id_in e.row) parts.1 in
            (omega (arith, bound, same, more), omega (arith, bound, same, more));
        no = λ other low high.
            let same : c ≡ code_of k = kind_is c (code_of k) (id_in e.row) bound (omega arith) high in
            let more : id < id_in e.row = omega (arith, bound, same) in
            let both : (eqb c (code_of k) && ltb id (id_in e.row)) ≡ true = rw (eq-eqb c (code_of k) same, lt-ltb id (id_in e.row) more) in
            let e = both in absurd (cc);
      },
      decides_above k id es lt a.1,
    )
