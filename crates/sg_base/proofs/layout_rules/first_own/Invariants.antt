use Rattle.std.proofs.Common.{◌≡◌, drop}
use Rattle.sg_base.specs.Faults.{first_in}
use Rattle.sg_base.specs.Layout.{region_fault}
use Rattle.sg_base.proofs.layout_rules.first_own.Given as goal

abbrev pub invariant-loop-region : goal.invariant-loop-region
invariant-loop-region l = first_in region_fault (drop l.region-index l.regions) ≡ first_in region_fault l.regions
