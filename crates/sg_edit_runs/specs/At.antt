-- A server and its keeper, and what calls do to them.
use Rattle.std.specs.Prelude.{◌≡◌, ◌+◌, ◌-◌, ◌^◌, ◌≤◌, min, Bool, true, false, List, count_by}
use Rattle.std.specs.List.{AllByRecursion}
use Rattle.sg_base.specs.Rising.{IsRising}
use Rattle.sg_edit_runs.specs.declared.call.Call.{Call}
use Rattle.sg_edit_runs.specs.declared.call.Answer.{Answer}
use Rattle.sg_edit_runs.specs.declared.call.Answer.TheVariants as answer
use Rattle.sg_edit_runs.specs.Steps.{Step, state}
use Rattle.sg_edits.specs.Edited.{IsOrdered}
use Rattle.sg_keeper.specs.View.{Ran, View}
use Rattle.sg_records.specs.Clients.{IsClient, client_number}
use Rattle.sg_steps.specs.Calls.{Failed}
use Rattle.sg_steps.specs.declared.fault.CmsFault.TheVariants as fault
use Rattle.sg_steps.specs.State.{Content, Core, Stands}

-- a server whose rows, clients and epochs are as they may be kept, each by key
pub record IsKept (core : Core) : Type 0 where
  pub ordered : IsOrdered core
  pub clients : AllByRecursion IsClient core.clients
  pub by_client : IsRising client_number core.clients

-- the keeper tells its rows, and they stand for the server and this content
pub record IsAt (v : View) (core : Core) (content : Content) : Type 0 where
  pub told : v.told
  pub stands : Stands core content v.rows
  pub kept : IsKept core

-- from whatever state they are at, the server and its keeper come to one to which the call leads with this answer
abbrev pub Leads : View → Core → Call → Answer → View → Core → Type 0
Leads v old c a w new = (content : Content) → IsAt v old content →
    (end : Content) × Step (state old content) c a (state new end) × IsAt w new end

-- what an answer tells of the keeper: it failed in the call, or it didn't
abbrev pub Tells : Answer → View → View → Type 0
Tells (answer.Edited reply) v w = Ran 0 v w
Tells (answer.Put reply) v w = Ran 0 v w
Tells (answer.Enrolled reply) v w = Ran 0 v w
Tells (answer.Played reply) v w = Ran 0 v w
Tells answer.Loaded v w = Ran 0 v w
Tells (answer.Failed f) v w = Failed f v w
Tells (answer.BadRow key) v w = Ran 0 v w

-- the keeper failed
abbrev pub is_failure : Answer → Bool
is_failure (answer.Edited reply) = false
is_failure (answer.Put reply) = false
is_failure (answer.Enrolled reply) = false
is_failure (answer.Played reply) = false
is_failure answer.Loaded = false
is_failure (answer.Failed fault.Keeper) = true
is_failure (answer.Failed fault.Memory) = false
is_failure (answer.BadRow key) = false

-- the keeper's count rose by the number of failures at least, up to the last value of a u64; without one it stayed, and
-- no stop rose
pub record Counts (answers : List Answer) (v w : View) : Type 0 where
  pub rose : min (v.faults + count_by is_failure answers) (2 ^ 64 - 1) ≤ w.faults
  pub ran : count_by is_failure answers ≡ 0 → Ran 0 v w
