use Rattle.std.specs.List.{AllByRecursion}
use Rattle.sg_base.specs.Layout.{HasId}
use Rattle.sg_base_tests.proofs.layouts.regions_of.Given as goal

abbrev pub invariant-loop-plan : goal.invariant-loop-plan
invariant-loop-plan g l = AllByRecursion HasId l.regions.items
