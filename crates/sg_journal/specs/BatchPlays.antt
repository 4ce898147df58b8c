-- A batch as contracts see it.
use Rattle.std.specs.Prelude.{ℕ, List, take}
use Rattle.sg_base.specs.declared.play.PlayBody.{PlayBody}
use Rattle.sg_journal.specs.declared.batch.Batch.{Batch}

-- the number of its first play
abbrev pub batch_first : Batch → ℕ
batch_first batch = batch.first

-- its plays, by ascending numbers
abbrev pub batch_plays : Batch → List PlayBody
batch_plays batch = take batch.count batch.plays
