use Rattle.std.proofs.Common.{◌≡◌, drop}
use Rattle.sg_base.specs.Layout.{zero_fault}
use Rattle.sg_base.proofs.layout_rules.without_second.Given as goal

abbrev pub invariant-loop-item : goal.invariant-loop-item
invariant-loop-item l = record {
  index : l.index ≡ l.item-index;
  fault : zero_fault l.region l.index (drop l.item-index l.items) ≡ zero_fault l.region 0 l.items;
}
