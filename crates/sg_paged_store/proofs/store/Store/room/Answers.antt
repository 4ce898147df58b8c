use Rattle.std.proofs.Common.{subst}
use Rattle.sg_store_state.specs.State.{State, IsKept}
use Rattle.sg_paged_store.proofs.store.Store.room.Goals as goal

pub returns-clause-kept : goal.returns-clause-kept
returns-clause-kept c = subst (λ (s : State). IsKept s.room s.text s.current s.staged) c.self.view_is c.self.invariant.0
