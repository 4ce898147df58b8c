use Rattle.std.proofs.Common.{◌≡◌, ◌+◌, ◌*◌, ◌≤◌, ◌++◌, take, length}
use Rattle.std.specs.List.{flat_map}
use Rattle.sg_line.specs.Lines.{entry_text}
use Rattle.sg_line.proofs.line.Line.push_entries.Given as goal

abbrev pub invariant-loop-i : goal.invariant-loop-i
invariant-loop-i l = record {
  text : l.self ≡ l.initial.self ++ flat_map entry_text (take l.i l.picture);
  room : length l.self ≤ length l.initial.self + 24 * l.i;
  few : l.i ≤ 16;
}
