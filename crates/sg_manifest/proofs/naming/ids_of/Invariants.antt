use Rattle.std.proofs.Common.{◌≡◌, map, take}
use Rattle.sg_manifest.proofs.naming.ids_of.Given as goal

abbrev pub invariant-loop-row : goal.invariant-loop-row
invariant-loop-row g l = l.ids.items ≡ map g.T.ManifestRow.key (take l.row-index l.rows)
