use Rattle.std.proofs.Common.{◌≡◌, drop}
use Rattle.serde_json.specs.View.{items_view}
use Rattle.sg_bodies.specs.Bodies.{play_at}
use Rattle.sg_rows.specs.Parts.{each_at, with_front}
use Rattle.sg_bodies.proofs.plays.read_plays.Given as goal

abbrev pub invariant-loop-item : goal.invariant-loop-item
invariant-loop-item l = with_front l.plays.items (each_at play_at (items_view (drop l.item-index l.items))) ≡ each_at play_at (items_view l.items)
