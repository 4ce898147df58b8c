-- What is to be seen on every panel.
use Rattle.std.specs.Prelude.{ℕ, List}
use Rattle.sg_base.specs.declared.ids.MediaId.{MediaId}

-- the switch number of a snapshot, and each region with its medium
pub record SceneView : Type 0 where
  pub number : ℕ
  pub entries : List (ℕ × MediaId)

abbrev pub scene : ℕ → List (ℕ × MediaId) → SceneView
scene number entries = record { number = number; entries = entries }
