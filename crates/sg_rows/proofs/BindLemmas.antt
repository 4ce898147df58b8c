-- What is known where one reading after another gave a value.
use Rattle.std.proofs.Common.{◌≡◌, Bool, true, false, Result, Ok, Err, refl}
use Rattle.sg_rows.specs.Faults.{◌>>=◌, needs}

pub bind_ok : {F A B : Type 0} (r : Result A F) (k : A → Result B F) (y : B) → (r >>= k) ≡ Ok y → (x : A) × (r ≡ Ok x) × (k x ≡ Ok y)
bind_ok (Ok x) k y e = (x, refl, e)
bind_ok (Err f) k y e = absurd (cc)

pub needs_ok : {F : Type 0} (b : Bool) (f : F) (u : Unit {0}) → needs b f ≡ Ok u → b ≡ true
needs_ok true f u e = refl
needs_ok false f u e = absurd (cc)
