use Rattle.std.proofs.Common.{◌≡◌, take, drop}
use Rattle.sg_base.specs.Faults.{double_of}
use Rattle.sg_base.specs.declared.layout.LayoutFault.TheVariants.{DoubleRegion}
use Rattle.sg_base.specs.Layout.{double_fault}
use Rattle.sg_base.proofs.layout_rules.doubled.Given as goal

abbrev pub invariant-loop-i : goal.invariant-loop-i
invariant-loop-i l = double_of (λ r. r.id) (λ id. DoubleRegion id) (take l.i l.regions) (drop l.i l.regions) ≡ double_fault l.regions
