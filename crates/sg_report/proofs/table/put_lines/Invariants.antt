use Rattle.std.proofs.Common.{ℕ, List, Option, drop}
use Rattle.std.specs.Io.KnownBytes.{Appends}
use Rattle.std.specs.List.{flat_map}
use Rattle.csv.specs.Writing.{text_written}
use Rattle.sg_report.specs.Lines.{line_text}
use Rattle.sg_report.specs.Writing.{IsBetween}
use Rattle.sg_report.proofs.table.put_lines.Given as goal

abbrev pub invariant-loop-line : goal.invariant-loop-line
invariant-loop-line g l =
    let written = text_written g.W.Write.contents in
    IsBetween l.writer
    × ((end : Option (List ℕ)) → Appends (written l.writer) end (flat_map line_text (drop l.line-index l.lines)) → Appends (written l.fn.writer) end (flat_map line_text l.lines))
