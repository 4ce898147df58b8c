-- The file of which a part is staged, as a list of at most one.
use Rattle.std.specs.Prelude.{List, [], ◌∷◌, Option, None, Some}
use Rattle.sg_placing.specs.declared.placed.Placed.{Placed}
use Rattle.sg_store.specs.declared.store.Half.{Half}

abbrev pub half_files : Option Half → List Placed
half_files None = []
half_files (Some half) = half.placed ∷ []
