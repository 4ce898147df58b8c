-- Ids that fit their type.
use Rattle.std.proofs.Common.{◌^◌, ◌<◌, List, [], ◌∷◌, ◌++◌}
use Rattle.std.specs.Prelude.{All}
use Rattle.std.proofs.lemmas.List.Elements.{All-push}
use Rattle.sg_tables.specs.declared.row_id.RowId.{RowId}
use Rattle.sg_tables.specs.Counts.{IsShort}

pub short_push : (ids : List RowId) (id : RowId) → All IsShort ids → id.id < 2 ^ 32 → All IsShort (ids ++ id ∷ [])
short_push ids id all short = All-push IsShort ids id all short
