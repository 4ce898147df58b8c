use Rattle.std.proofs.Common.{take}
use Rattle.sg_report.specs.Counting.{CountsRows}
use Rattle.sg_report.proofs.pages.add_rows.Given as goal

abbrev pub invariant-loop-row : goal.invariant-loop-row
invariant-loop-row l = CountsRows l.from l.to (take l.row-index l.rows) l.fn.lines.items l.lines.items
