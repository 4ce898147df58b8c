use Rattle.std.proofs.Common.{◌≡◌, ◌+◌, ◌≤◌, ℕ, List, Option, IfSome, length, subst}
use Rattle.sg_disk.specs.declared.places.TheConstants.{DATA}
use Rattle.sg_staging.specs.Staged.{IsStagedIn}
use Rattle.sg_store_state.specs.State.{State}
use Rattle.sg_store_state.specs.Ready.{bytes_so_far}
use Rattle.sg_paged_store.proofs.ByteLemmas.{all_came}
use Rattle.sg_paged_store.proofs.store.Store.staged.Goals as goal

pub returns-clause-came : goal.returns-clause-came
returns-clause-came c bytes far = all_came c.args.self.now bytes (subst (λ (x : State). IsStagedIn x.room x.current x.staged) c.self.view_is c.self.invariant.0.placed) far
