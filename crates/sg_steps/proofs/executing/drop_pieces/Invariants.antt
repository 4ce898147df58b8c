use Rattle.std.proofs.Common.{◌≡◌, ℕ, List}
use Rattle.std.specs.Prelude.{Option}
use Rattle.sg_steps.specs.Calls.{without_pieces}
use Rattle.sg_keeper.specs.Changes.{applied}
use Rattle.sg_steps.proofs.executing.drop_pieces.Given as goal

abbrev pub invariant-loop-index : goal.invariant-loop-index
invariant-loop-index l =
    (rows : ℕ → Option (List ℕ)) → applied l.changes.items rows ≡ without_pieces l.media.0 l.index (applied l.initial.changes.items rows)
