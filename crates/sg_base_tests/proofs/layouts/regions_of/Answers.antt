-- One more region with an id.
use Rattle.std.proofs.Common.{arith}
use Rattle.std.proofs.lemmas.List.Elements.{All-push, All-from_recursion, recursion_from_All}
use Rattle.sg_base.specs.Layout.{HasId}
use Rattle.sg_base_tests.proofs.layouts.regions_of.Goals as goal

pub loop-plan-preserved : goal.loop-plan-preserved
loop-plan-preserved g c =
    rw c.in_ok-push.ensures.items (recursion_from_All HasId _ (All-push HasId _ _ (All-from_recursion HasId _ c.loop-plan.invariant) (omega arith)))
