use Rattle.std.proofs.Common.{◌≡◌, ◌≤◌, length}
use Rattle.std.specs.Vec.{vec_capacity, vec_len}
use Rattle.sg_edit_runs.proofs.RunLemmas.{HasCome}
use Rattle.sg_edit_runs.proofs.runs.make_all.Given as goal

abbrev pub invariant-loop-call : goal.invariant-loop-call
invariant-loop-call g l = record {
  come : HasCome l.calls l.call-index l.answers.items (g.K.Keeper.view l.initial.keeper) (g.K.Keeper.view l.keeper) l.initial.cms l.cms;
  len : vec_len l.answers ≡ l.call-index;
  room : length l.calls ≤ vec_capacity l.answers;
}
