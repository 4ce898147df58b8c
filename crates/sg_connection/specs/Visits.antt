-- The connections of a door, served one after another.
use Rattle.std.specs.Prelude.{◌≡◌, ◌≢◌, ℕ, ◌≤◌, ◌⊎◌, Bool, true, List, [], ◌∷◌, length, map}
use Rattle.std.specs.declared.option.Option.{Option}
use Rattle.sg_base.specs.Causes.{Rose}
use Rattle.sg_http.specs.Messages.{Request}
use Rattle.sg_outside.specs.Lists.{Grows, Loses}
use Rattle.sg_connection.specs.declared.answer.Answer.{Answer}
use Rattle.sg_connection.specs.declared.door.Served.{Served}
use Rattle.sg_connection.specs.declared.door.Served.TheVariants.{Done, DoorFault}
use Rattle.sg_connection.specs.declared.serve.ConnEnd.{ConnEnd}
use Rattle.sg_connection.specs.Serving.{Scene, Serves}

-- a connection as it came and as it was left, and how it ended
pub record Visit (C : Type 0) : Type 0 where
  pub came : C
  pub left : C
  pub end : ConnEnd

abbrev pub came : {C : Type 0} → Visit C → C
came v = v.came

abbrev pub left : {C : Type 0} → Visit C → C
left v = v.left

-- From a state to another these connections were served, one after another.
abbrev pub Visits : {S C : Type 0} → (S → Request → Answer → S → Type 0) → (C → S → Scene S) → S → List (Visit C) → S → Type 0
Visits rule scene s [] t = t ≡ s
Visits {S} rule scene s (v ∷ vs) t =
    (mid : S) × Serves rule (scene v.came s) (scene v.left mid) v.end × Visits rule scene mid vs t

-- So many connections came, were served and went back, each as it was left.
pub record Handed {S C : Type 0} (rule : S → Request → Answer → S → Type 0) (scene : C → S → Scene S) (s t : S)
    (coming coming' back back' : Option (List C)) (n : ℕ) : Type 0 where
  pub visits : List (Visit C)
  pub gone : Loses coming coming' (map came visits)
  pub handed : Grows back back' (map left visits)
  pub count : length visits ≡ n
  pub served : Visits rule scene s visits t

-- one more connection came and was served, and didn't go back
pub record OneMore {S C : Type 0} (rule : S → Request → Answer → S → Type 0) (scene : C → S → Scene S) (s t : S)
    (coming coming' : Option (List C)) : Type 0 where
  pub visit : Visit C
  pub gone : Loses coming coming' (visit.came ∷ [])
  pub served : Serves rule (scene visit.came s) (scene visit.left t) visit.end

-- how the serving of a door ended, which was to have at most `limit` connections
abbrev pub ServesDoor : {S C : Type 0} → (S → Request → Answer → S → Type 0) → (C → S → Scene S) → S → S
    → Option (List C) → Option (List C) → Option (List C) → Option (List C) → ℕ → Bool → ℕ → ℕ → Served → Type 0
ServesDoor rule scene s t coming coming' back back' limit ended before now (Done n) =
    Handed rule scene s t coming coming' back back' n × (n ≤ limit) × (n ≢ limit → ended ≡ true)
ServesDoor {S} {C} rule scene s t coming coming' back back' limit ended before now (DoorFault n) =
    (mid : S) × (rest : Option (List C)) × Handed rule scene s mid coming rest back back' n × (n ≤ limit) × Rose before now
    × (((t ≡ mid) × (coming' ≡ rest)) ⊎ OneMore rule scene mid t rest coming')
