use Rattle.std.proofs.Common.{◌≡◌, take}
use Rattle.sg_journal.specs.Ready.{first_of, plays_of}
use Rattle.sg_journal.specs.BatchPlays.{batch_first, batch_plays}
use Rattle.sg_journal.proofs.journal.Journal.batch.Given as goal

abbrev pub invariant-loop-i : goal.invariant-loop-i
invariant-loop-i l = record {
  first : batch_first l.into ≡ first_of l.self;
  plays : batch_plays l.into ≡ take l.i (plays_of l.self);
}
