-- A medium as a piece finds it.
use Rattle.std.specs.Prelude.{ℕ, List, Option}
use Rattle.sg_base.specs.declared.ids.MediaId.{MediaId}
use Rattle.sg_base.specs.declared.row.Row.TheVariants as row
use Rattle.sg_edits.specs.declared.pieces.Medium.{Medium}
use Rattle.sg_edits.specs.Pieces.{Asked}
use Rattle.sg_tables.specs.Entries.{Kept}

-- the medium as it is kept
abbrev pub kept_of : Medium → Kept
kept_of m = record { row = row.Media m.file; received = m.received; complete = m.complete }

-- what a piece finds
abbrev pub asked : List Kept → MediaId → ℕ → List ℕ → List ℕ → (ℕ → Option (List ℕ)) → Asked
asked rows media offset bytes stored kept = record { rows = rows; media = media; offset = offset; bytes = bytes; stored = stored; kept = kept }
