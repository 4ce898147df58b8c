use Rattle.std.proofs.Common.{refl, subst}
use Rattle.sg_outside.specs.Memory.{NextFails}
use Rattle.sg_outside.proofs.memory_door.MemDoorDoor.next.Goals as goal

-- the calls of the door are those of its view
pub returns-then-fails-clause-listed : goal.returns-then-fails-clause-listed
returns-then-fails-clause-listed c =
    (λ _. subst (λ door. NextFails door.calls) c.self.view_is (c.next_fails-fails.ensures.0 c.if-fails.true), λ _. refl)
