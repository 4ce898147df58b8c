use Rattle.std.proofs.Common.{drop}
use Rattle.sg_rows.proofs.OrderLemmas.{Rises}
use Rattle.sg_manifest.proofs.OrderLemmas.{RisesFrom}
use Rattle.sg_manifest.proofs.scanning.rises.Given as goal

abbrev pub invariant-loop-row : goal.invariant-loop-row
invariant-loop-row g l = RisesFrom g.T.ManifestRow.key l.least (drop l.row-index l.rows) → Rises g.T.ManifestRow.key l.rows
