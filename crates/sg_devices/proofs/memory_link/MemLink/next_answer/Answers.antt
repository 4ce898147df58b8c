use Rattle.std.proofs.Common.{inl, refl, subst}
use Rattle.sg_outside.specs.Memory.{NextFails}
use Rattle.sg_devices.proofs.memory_link.MemLink.next_answer.Goals as goal

-- the calls of the link are those of its view
pub returns-then-next_fails-clause-listed : goal.returns-then-next_fails-clause-listed
returns-then-next_fails-clause-listed c =
    (λ _. inl (subst (λ link. NextFails link.calls) c.self.view_is (c.next_fails.ensures.0 c.if-next_fails.true)), λ _. refl)
