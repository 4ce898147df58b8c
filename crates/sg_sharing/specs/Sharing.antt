-- A store and a journal on one disk.
use Rattle.std.specs.Prelude.{◌≡◌}
use Rattle.sg_disk.specs.View.{View}
use Rattle.sg_disk.specs.Contents.{Contents}
use Rattle.sg_staging.specs.Staged.{IsStagedIn}
use Rattle.sg_store_state.specs.State.{State}
use Rattle.sg_store_state.specs.Ready.{IsReady as IsStoreReady}
use Rattle.sg_journal.specs.Ready.{IsReady as IsJournalReady}
use Rattle.sg_journal.specs.declared.journal.Journal.{Journal}

-- both are ready on a disk that is settled with these contents, and what the store has staged takes no byte twice
pub record AreReady (v : View) (s : State) (j : Journal) (p : Contents) : Type 0 where
  pub store : IsStoreReady v s p
  pub staged : IsStagedIn s.room s.current s.staged
  pub journal : IsJournalReady v j p

-- contents that differ in their plays and their floor alone
pub record HasSameSnapshot (p q : Contents) : Type 0 where
  pub display : p.display ≡ q.display
  pub epoch : p.epoch ≡ q.epoch
  pub room : p.room ≡ q.room
  pub number : p.number ≡ q.number
  pub text : p.text ≡ q.text
  pub files : p.files ≡ q.files

-- contents that have the same plays and the same floor
pub record HasSamePlays (p q : Contents) : Type 0 where
  pub epoch : q.epoch ≡ p.epoch
  pub plays : q.plays ≡ p.plays
  pub floor : q.floor ≡ p.floor
