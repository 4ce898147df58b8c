use Rattle.std.proofs.Common.{◌≡◌, drop}
use Rattle.std.specs.List.{AllByRecursion}
use Rattle.serde_json.specs.View.{items_view}
use Rattle.sg_rows.specs.Parts.{each_at, with_front}
use Rattle.sg_rows.proofs.entry.read_list.Given as goal

abbrev pub invariant-loop-item : goal.invariant-loop-item
invariant-loop-item g l =
    (with_front l.rows.items (each_at g.T.Entry.at (items_view (drop l.item-index l.items))) ≡ each_at g.T.Entry.at (items_view l.items))
    × AllByRecursion g.T.Entry.valid l.rows.items
