use Rattle.std.proofs.Common.{◌≡◌, ◌+◌, ℕ, List, drop}
use Rattle.std.specs.Prelude.{Option}
use Rattle.sg_steps.specs.Calls.{with_plays_from}
use Rattle.sg_keeper.specs.Changes.{applied}
use Rattle.sg_steps.proofs.epochs.put_plays.Given as goal

abbrev pub invariant-loop-play : goal.invariant-loop-play
invariant-loop-play l =
    (l.number ≡ l.first + l.play-index)
    × ((rows : ℕ → Option (List ℕ)) → with_plays_from l.of.display l.of.epoch l.number (drop l.play-index l.plays) (applied l.changes.items rows)
    ≡ with_plays_from l.of.display l.of.epoch l.first l.plays (applied l.initial.changes.items rows))
