use Rattle.std.proofs.Common.{◌≡◌, ◌≤◌, ◌-◌, vec_len}
use Rattle.std.specs.Io.KnownBytes.{Consumes}
use Rattle.signage.proofs.input.read_input.Given as goal

abbrev pub invariant-loop-piece : goal.invariant-loop-piece
invariant-loop-piece g l = record {
  taken : Consumes (g.S.Ends.left l.initial.source) (g.S.Ends.left l.source) l.bytes.items;
  few : vec_len l.bytes ≤ 1048578;
  faults : g.S.Ends.take_faults l.source ≡ g.S.Ends.take_faults l.initial.source;
}

abbrev pub decreases-loop-piece : goal.decreases-loop-piece
decreases-loop-piece g l = 1048578 - vec_len l.bytes
