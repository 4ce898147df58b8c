use Rattle.std.proofs.Common.{◌≡◌, ◌<◌, ◌^◌, drop}
use Rattle.serde_json.specs.View.{items_view}
use Rattle.sg_rows.specs.Reading.{days_from}
use Rattle.sg_rows.proofs.repeat.read_days.Given as goal

abbrev pub invariant-loop-item : goal.invariant-loop-item
invariant-loop-item l =
    (days_from l.bits (items_view (drop l.item-index l.item-items)) ≡ days_from 0 (items_view l.item-items))
    × (l.bits < 2 ^ 7)
