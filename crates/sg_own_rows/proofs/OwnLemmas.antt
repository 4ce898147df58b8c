-- Own rows, found by numbers.
use Rattle.std.proofs.Common.{◌≡◌, ℕ, ◌^◌, ◌<◌, ◌||◌, Bool, true, false, cond, List, [], ◌∷◌, ◌++◌, map, refl, ap, sym, ◌∙◌, subst, arith}
use Rattle.std.specs.Prelude.{Some, All, filter}
use Rattle.std.specs.List.{AllByRecursion, flat_map, list_any}
use Rattle.std.proofs.lemmas.List.Elements.{All-append, All-cons, All-head, All-nil, All-tail}
use Rattle.sg_base.specs.declared.kind.Kind.TheVariants as kind
use Rattle.sg_base.specs.declared.row.DisplayRow.{DisplayRow}
use Rattle.sg_base.specs.declared.row.Row.TheVariants as row
use Rattle.std.proofs.lemmas.Grind.{common_steps}
use Rattle.sg_own_rows.specs.Numbers.{IsListOf, has_number, naming, number_of_row, picked}
use Rattle.sg_own_rows.specs.Own.{addresses, is_among, named_by, names_one}
use Rattle.sg_tables.specs.declared.row_id.RowId.{RowId}
use Rattle.sg_tables.specs.Counts.{IsBounded, IsShort}
use Rattle.sg_tables.specs.Entries.{Kept, number_of_kept}
use Rattle.sg_tables.specs.Refusals.{row_at}
use Rattle.sg_tables.specs.Rows.{at, id_in, id_of, is_same, number_at, references}
use Rattle.sg_base.proofs.RisingLemmas.{rank_found}

-- ---- what rows have, some of them have

pub all_filter : (P : Kept → Type 0) (p : Kept → Bool) (rows : List Kept) → AllByRecursion P rows → AllByRecursion P (filter p rows)
all_filter P p [] all = tt
all_filter P p (e ∷ es) all = elim (p e) as (λ b. AllByRecursion P (cond b (e ∷ filter p es) (filter p es))) [
  | true ↦ (all.0, all_filter P p es all.1)
  | false ↦ all_filter P p es all.1
]

-- what rows in memory name has short ids
pub short_named : (rows : List Kept) → AllByRecursion IsBounded rows → All IsShort (named_by rows)
short_named [] all = All-nil IsShort
short_named (e ∷ es) all = All-append IsShort (references e.row) (named_by es) all.0.named (short_named es all.1)

pub short_addresses : (d : DisplayRow) → d.id.0 < 2 ^ 32 → All IsShort (references (row.Display d)) → All IsShort (addresses d)
short_addresses d short all =
    All-cons IsShort (at kind.Display d.id.0) (map (λ group. at kind.Group group.0) d.groups) short
    (All-tail IsShort (at kind.Layout d.default.0) (map (λ group. at kind.Group group.0) d.groups) all)

-- ---- by numbers and by ids

same_filter : (p q : Kept → Bool) (e : Kept) (es : List Kept) → p e ≡ q e → filter p es ≡ filter q es → filter p (e ∷ es) ≡ filter q (e ∷ es)
same_filter p q e es here rest = rw (here) (elim (q e) as (λ b. cond b (e ∷ filter p es) (filter p es) ≡ cond b (e ∷ filter q es) (filter q es)) [
  | true ↦ ap (λ l. e ∷ l) rest
  | false ↦ rest
])

pub picked_same : (ids : List RowId) (numbers : List ℕ) (rows : List Kept) → IsListOf ids numbers → AllByRecursion IsBounded rows → picked numbers rows ≡ filter (is_among ids) rows
picked_same ids numbers [] same all = refl
picked_same ids numbers (e ∷ es) same all =
    same_filter (λ x. has_number numbers (id_of x.row)) (is_among ids) e es (same.same (id_of e.row) all.0.id) (picked_same ids numbers es same all.1)

one_named : (ids : List RowId) (numbers : List ℕ) (named : List RowId) → IsListOf ids numbers → All IsShort named → list_any (has_number numbers) named ≡ list_any (λ id. list_any (is_same id) ids) named
one_named ids numbers [] same short = refl
one_named ids numbers (x ∷ xs) same short =
    rw (same.same x (All-head IsShort x xs short)) (ap (λ b. list_any (is_same x) ids || b) (one_named ids numbers xs same (All-tail IsShort x xs short)))

pub naming_same : (ids : List RowId) (numbers : List ℕ) (rows : List Kept) → IsListOf ids numbers → AllByRecursion IsBounded rows → naming numbers rows ≡ filter (names_one ids) rows
naming_same ids numbers [] same all = refl
naming_same ids numbers (e ∷ es) same all =
    same_filter (λ x. list_any (has_number numbers) (references x.row)) (names_one ids) e es (one_named ids numbers (references e.row) same all.0.named) (naming_same ids numbers es same all.1)

pub map_parts : (xs ys zs : List RowId) → (map number_of_row xs ++ map number_of_row ys) ++ map number_of_row zs ≡ map number_of_row (xs ++ (ys ++ zs))
map_parts xs ys zs = grind (arith, common_steps)

-- a display's row has the id by which it was found
pub display_id : (n : ℕ) (rows : List Kept) (e : Kept) (d : DisplayRow) → n < 2 ^ 32 → IsBounded e → row_at (at kind.Display n) rows ≡ Some e → e.row ≡ row.Display d → n ≡ d.id.0
display_id n rows e d short bounded there is =
    let at_it : number_of_kept e ≡ number_at (at kind.Display n) = rank_found number_of_kept (number_at (at kind.Display n)) rows e there in
    let own : number_at (at kind.Display d.id.0) ≡ number_at (at kind.Display n) = ap (λ r. number_at (id_of r)) (sym is) ∙ at_it in
    let bound : d.id.0 < 2 ^ 32 = subst (λ r. id_in r < 2 ^ 32) is bounded.id in
    omega (arith, own, bound, short)
