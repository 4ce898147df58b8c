-- What stands at an index among ids isn't missing, and what stands at none is.
use Rattle.std.proofs.Common.{◌≡◌, ℕ, zero, suc, ◌<◌, ◌==◌, ◌||◌, Bool, true, false, List, [], ◌∷◌, length, get_or, refl, arith}
use Rattle.std.proofs.lemmas.Bool.Decides.{nat_tests}
use Rattle.std.proofs.lemmas.Grind.{get_or_default_zero}
use Rattle.std.specs.Prelude.{Some, None}
use Rattle.std.specs.List.{list_any}
use Rattle.sg_base.specs.declared.kind.Kind.{Kind}
use Rattle.sg_base.specs.Index.{IsIndexOf}
use Rattle.sg_manifest.specs.declared.fault.ManifestFault.TheVariants.{Dangling}
use Rattle.sg_manifest.specs.Reading.{missing}

or_true : (b : Bool) → (b || true) ≡ true
or_true true = refl
or_true false = refl

same_number : (m n : ℕ) → m ≡ n → (m == n) ≡ true
same_number m n e = grind (arith, nat_tests)

other_number : (m n : ℕ) → (m ≡ n → ⊥) → (m == n) ≡ false
other_number m n e = grind (arith, nat_tests)

-- what stands at an index is found
any_at : (xs : List ℕ) (k x : ℕ) → k < length xs → get_or xs k 0 ≡ x → list_any (λ n. n == x) xs ≡ true
any_at [] k x h e = absurd (omega arith)
any_at (y ∷ ys) zero x h e = rw (same_number y x e) refl
any_at (y ∷ ys) (suc k) x h e = rw (any_at ys k x (omega arith) e) (or_true (y == x))

-- what stands at no index isn't
none_any : (xs : List ℕ) (x : ℕ) → ((k : ℕ) → k < length xs → get_or xs k 0 ≡ x → ⊥) → list_any (λ n. n == x) xs ≡ false
none_any [] x h = refl
none_any (y ∷ ys) x h = rw (other_number y x (λ e. h 0 (omega arith) e)) (none_any ys x (λ k lt e. h (suc k) (omega arith) e))

pub there : (kind : Kind) (ids : List ℕ) (id index : ℕ) → IsIndexOf ids id (Some index) → None ≡ missing kind ids id
there kind ids id index at = rw (any_at ids index id at.0 at.1) refl

pub not_there : (kind : Kind) (ids : List ℕ) (id : ℕ) → IsIndexOf ids id None → Some (Dangling kind id) ≡ missing kind ids id
not_there kind ids id none =
    let lacks : list_any (λ n. n == id) ids ≡ false = none_any ids id (λ k lt e. none (k, lt, first k lt e)) in
    rw lacks refl
  where
    first : (k : ℕ) → k < length ids → get_or ids k 0 ≡ id → get_or ids k id ≡ id
    first k lt e = grind (arith, get_or_default_zero ids k id lt)
