use Rattle.std.proofs.Common.{◌≡◌, ◌≤◌, ◌<◌, max, drop}
use Rattle.std.specs.List.{AllByRecursion}
use Rattle.sg_base.specs.Layout.{longest}
use Rattle.sg_base.proofs.LayoutLemmas.{IsShort}
use Rattle.sg_base.proofs.layout_rules.longest_of.Given as goal

abbrev pub invariant-loop-region : goal.invariant-loop-region
invariant-loop-region l = record {
  most : max l.most (longest (drop l.region-index l.regions)) ≡ longest l.regions;
  few : l.most ≤ 3600;
  some : 0 < longest l.regions;
  short : AllByRecursion IsShort (drop l.region-index l.regions);
}
