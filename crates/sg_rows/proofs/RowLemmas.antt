-- What is known of rows that were read.
use Rattle.std.proofs.Common.{List, [], ◌∷◌}
use Rattle.std.specs.List.{AllByRecursion}
use Rattle.sg_base.specs.declared.layout.Region.{Region}
use Rattle.sg_base.specs.Layout.{HasId}
use Rattle.sg_rows.specs.Rows.{IsRegion}

-- valid regions have ids
pub regions_have_ids : (rs : List Region) → AllByRecursion IsRegion rs → AllByRecursion HasId rs
regions_have_ids [] h = tt
regions_have_ids (r ∷ rs) h = (h.0.id.some, regions_have_ids rs h.1)
