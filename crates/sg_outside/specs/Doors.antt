-- What a door gives.
use Rattle.std.specs.Prelude.{◌≡◌, Bool, true, List, [], ◌∷◌, None, Some}
use Rattle.std.specs.declared.option.Option.{Option}
use Rattle.sg_outside.specs.Lists.{Loses, IsSpent}

-- A connection that comes was the next of those to come. None is the end: nothing is left of them, and the door has
-- ended from then on.
abbrev pub Comes : {C : Type 0} → Option (List C) → Option (List C) → Bool → Bool → Option C → Type 0
Comes old new before now None = IsSpent new × (new ≡ old) × (now ≡ true)
Comes old new before now (Some conn) = Loses old new (conn ∷ []) × (now ≡ before)
