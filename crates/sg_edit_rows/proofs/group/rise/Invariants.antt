use Rattle.std.proofs.Common.{◌≡◌, map, drop}
use Rattle.sg_edit_rows.specs.EditRows.{rise_from}
use Rattle.sg_edit_rows.proofs.group.rise.Given as goal

abbrev pub invariant-loop-row : goal.invariant-loop-row
invariant-loop-row g l =
    rise_from l.last (map g.T.Keyed.key (drop l.row-index l.rows)) ≡ rise_from 0 (map g.T.Keyed.key l.rows)
