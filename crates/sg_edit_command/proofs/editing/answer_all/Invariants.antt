use Rattle.std.proofs.Common.{◌≡◌, ◌+◌, ◌-◌, List, length, ℕ}
use Rattle.std.specs.Io.KnownBytes.{Appends}
use Rattle.sg_edit_command.specs.Answering.{HasAnswered}
use Rattle.sg_edit_command.specs.Asking.{replies}
use Rattle.sg_lines.specs.Reading.{side}
use Rattle.sg_edit_command.proofs.editing.answer_all.Given as goal

abbrev pub invariant-line : goal.invariant-line
invariant-line g l = record {
  given : List (List ℕ);
  number : l.number ≡ length given;
  answered : HasAnswered (side g.S.Ends.left g.S.Ends.take_faults l.initial.source) (side g.S.Ends.left g.S.Ends.take_faults l.source) l.lines
      l.initial.cms l.cms (g.K.Keeper.view l.initial.keeper) (g.K.Keeper.view l.keeper) given;
  put : Appends (g.O.Ends.written l.initial.out) (g.O.Ends.written l.out) (replies l.initial.cms given);
  quiet : g.O.Ends.put_faults l.out ≡ g.O.Ends.put_faults l.initial.out;
}

abbrev pub decreases-line : goal.decreases-line
decreases-line g l = (l.lines.limit - l.lines.taken) + length l.lines.held
