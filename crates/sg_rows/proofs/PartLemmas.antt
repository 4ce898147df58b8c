-- The members of an object are as many as the entries of its map.
use Rattle.std.proofs.Common.{◌≡◌, List, [], ◌∷◌, length, refl, add-one}
use Rattle.std.specs.Prelude.{String}
use Rattle.std.specs.declared.alloc.Global.{Global}
use Rattle.serde_json.specs.declared.value.Value.{Value}
use Rattle.serde_json.specs.View.{members_view}
use Rattle.sg_rows.specs.Parts.{count_of}

pub counted : (ms : List (String Global × Value)) → count_of (members_view ms) ≡ length ms
counted [] = refl
counted (m ∷ ms) = rw (counted ms, add-one) refl
