-- A sorted table, as contracts see it.
use Rattle.std.specs.Prelude.{ℕ, List, refl}
use Rattle.std.specs.Coded.{Coded, code_by, coded×, coded_ℕ, coded_list}

-- its elements in their order, and how many more it takes without memory
pub record Table (A : Type 0) : Type 0 where
  pub items : List A
  pub room : ℕ

abbrev pub table_code : {A : Type 0} → Coded A → Coded (Table A)
table_code {A} code =
    code_by (List A × ℕ) (coded× (coded_list code) coded_ℕ) (λ t. (t.items, t.room)) (λ p. record { items = p.0; room = p.1 }) (λ _. refl)
