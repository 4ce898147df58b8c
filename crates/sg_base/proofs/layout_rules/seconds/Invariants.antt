use Rattle.std.proofs.Common.{◌≡◌, ◌≤◌, ◌+◌, ◌*◌, ◌^◌, drop}
use Rattle.sg_base.specs.Layout.{seconds_of}
use Rattle.sg_base.proofs.layout_rules.seconds.Given as goal

abbrev pub invariant-loop-item : goal.invariant-loop-item
invariant-loop-item l = record {
  sum : l.sum + seconds_of (drop l.item-index l.items) ≡ seconds_of l.items;
  bound : l.sum ≤ 2 ^ 32 * l.item-index;
}
