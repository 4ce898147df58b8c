use Rattle.std.proofs.Common.{◌≡◌, ◌<◌, ◌+◌, drop, take}
use Rattle.sg_base.specs.Layout.{medium_in, seconds_of}
use Rattle.sg_base.proofs.layout_rules.covering.Given as goal

abbrev pub invariant-loop-item : goal.invariant-loop-item
invariant-loop-item l = record {
  shown : medium_in (drop l.item-index l.items) l.left ≡ medium_in l.items l.second;
  before : seconds_of (take l.item-index l.items) + l.left ≡ l.second;
  inside : l.left < seconds_of (drop l.item-index l.items);
}
