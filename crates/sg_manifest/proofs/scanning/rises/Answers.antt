use Rattle.std.proofs.Common.{◌≡◌, ◌≤◌, ◌+◌, arith}
use Rattle.sg_manifest.proofs.OrderLemmas.{rises_next, rises_end}
use Rattle.sg_manifest.proofs.scanning.rises.Goals as goal

pub loop-row-preserved : goal.loop-row-preserved
loop-row-preserved g c =
    let low : c.loop-row.least ≤ g.T.ManifestRow.key c.row-item.result = omega (arith, c.key.ensures, c.from-id.ensures) in
    let next : c.from-id.result + 1 ≡ g.T.ManifestRow.key c.row-item.result + 1 = omega (arith, c.key.ensures, c.from-id.ensures) in
    rises_next g.T.ManifestRow.key c.args.rows.now c.loop-row.row-index c.row-item.result c.loop-row.least (c.from-id.result + 1) c.loop-row-test.true c.row-item.is low next c.loop-row.invariant

pub returns : goal.returns
returns g c = λ _. rises_end g.T.ManifestRow.key c.args.rows.now c.loop-row.row-index c.loop-row.least c.loop-row-test.false c.loop-row.invariant
