-- A store and a journal stay ready together.
use Rattle.std.proofs.Common.{inl, inr, ℕ, ◌+◌, ◌*◌, List, refl, arith}
use Rattle.sg_base.specs.declared.play.PlayBody.{PlayBody}
use Rattle.sg_disk.specs.View.{View}
use Rattle.sg_disk.specs.Runs.{Keeps, Quiet, Within}
use Rattle.sg_disk.specs.Contents.{StoredFile, Contents, played, switched}
use Rattle.sg_disk.specs.declared.places.TheConstants.{DATA, JOURNAL, JOURNAL_LEN}
use Rattle.sg_disk.proofs.Keeping.{keeps_none, keeps_within, keeps_quiet}
use Rattle.sg_pages.specs.declared.maps.TheConstants.{MAP_LEN}
use Rattle.sg_contents.proofs.Standing.{settled_quiet}
use Rattle.sg_staging.specs.Staged.{IsStagedIn}
use Rattle.sg_store_state.specs.State.{State}
use Rattle.sg_store_state.specs.Ready.{IsReady as IsStoreReady}
use Rattle.sg_journal.specs.Ready.{IsReady as IsJournalReady}
use Rattle.sg_journal.specs.declared.journal.Journal.{Journal}
use Rattle.sg_journal.proofs.ReadyLemmas.{ready_keeps}
use Rattle.sg_sharing.specs.Sharing.{AreReady, HasSameSnapshot, HasSamePlays}
use Rattle.sg_sharing.proofs.KeepLemmas.{store_keeps}

-- contents with other plays, or another floor
same_snapshot : (p : Contents) (plays : List PlayBody) (floor : ℕ) → HasSameSnapshot p (record p { plays = plays; floor = floor })
same_snapshot p plays floor = record { display = refl; epoch = refl; room = refl; number = refl; text = refl; files = refl }

-- after an append, which writes the journal's area alone
pub after_append : (v w : View) (s : State) (j k : Journal) (p : Contents) (play : PlayBody) → AreReady v s j p → Within JOURNAL JOURNAL_LEN v w → IsJournalReady w k (played p play) → AreReady w s k (played p play)
after_append v w s j k p play both within journal = record {
  store = store_keeps v w s p (played p play) both.store both.staged journal.settled (record { display = refl; epoch = refl; room = refl; number = refl; text = refl; files = refl }) (keeps_within JOURNAL JOURNAL_LEN 0 JOURNAL v w (inl (omega arith)) within) (keeps_within JOURNAL JOURNAL_LEN DATA p.room v w (inr (omega arith)) within) (keeps_within JOURNAL JOURNAL_LEN (DATA + p.room) (2 * MAP_LEN) v w (inr (omega arith)) within);
  staged = both.staged;
  journal = journal;
}

-- after a call of the store that keeps the journal's area
pub after_store : (v w : View) (s t : State) (j : Journal) (p q : Contents) → AreReady v s j p → Keeps JOURNAL JOURNAL_LEN v w → HasSamePlays p q → IsStoreReady w t q → IsStagedIn t.room t.current t.staged → AreReady w t j q
after_store v w s t j p q both keeps same store staged = record {
  store = store;
  staged = staged;
  journal = ready_keeps v w j p q both.journal store.settled same.epoch same.plays same.floor keeps;
}

pub after_switch : (v w : View) (s t : State) (j : Journal) (p : Contents) (text : List ℕ) (files : List StoredFile) → AreReady v s j p → Keeps JOURNAL JOURNAL_LEN v w → IsStoreReady w t (switched p text files) → IsStagedIn t.room t.current t.staged → AreReady w t j (switched p text files)
after_switch v w s t j p text files both keeps store staged = after_store v w s t j p (switched p text files) both keeps (record { epoch = refl; plays = refl; floor = refl }) store staged

pub after_staging : (v w : View) (s t : State) (j : Journal) (p : Contents) → AreReady v s j p → Keeps JOURNAL JOURNAL_LEN v w → IsStoreReady w t p → IsStagedIn t.room t.current t.staged → AreReady w t j p
after_staging v w s t j p both keeps store staged = after_store v w s t j p p both keeps (record { epoch = refl; plays = refl; floor = refl }) store staged

-- after both were opened: the store first, and then the journal, which only reads
pub after_opening : (n : ℕ) (v w : View) (s : State) (p : Contents) (k : Journal) (floor : ℕ) → IsStoreReady v s p → IsStagedIn s.room s.current s.staged → Quiet n v w → IsJournalReady w k (record p { floor = floor }) → AreReady w s k (record p { floor = floor })
after_opening n v w s p k floor store staged quiet journal = record {
  store = store_keeps v w s p (record p { floor = floor }) store staged journal.settled (same_snapshot p p.plays floor) (keeps_quiet n 0 JOURNAL v w quiet) (keeps_quiet n DATA p.room v w quiet) (keeps_quiet n (DATA + p.room) (2 * MAP_LEN) v w quiet);
  staged = staged;
  journal = journal;
}

-- after an acknowledgement, which touches no disk
pub after_acknowledgement : (v : View) (s : State) (j k : Journal) (p : Contents) (floor : ℕ) → AreReady v s j p → IsJournalReady v k (record p { floor = floor }) → AreReady v s k (record p { floor = floor })
after_acknowledgement v s j k p floor both journal = record {
  store = store_keeps v v s p (record p { floor = floor }) both.store both.staged journal.settled (same_snapshot p p.plays floor) (keeps_none 0 JOURNAL v) (keeps_none DATA p.room v) (keeps_none (DATA + p.room) (2 * MAP_LEN) v);
  staged = both.staged;
  journal = journal;
}

-- after calls that only read
pub after_reading : (n : ℕ) (v w : View) (s : State) (j : Journal) (p : Contents) → AreReady v s j p → Quiet n v w → AreReady w s j p
after_reading n v w s j p both quiet = record {
  store = store_keeps v w s p p both.store both.staged (settled_quiet n v w p quiet both.store.settled) (same_snapshot p p.plays p.floor) (keeps_quiet n 0 JOURNAL v w quiet) (keeps_quiet n DATA p.room v w quiet) (keeps_quiet n (DATA + p.room) (2 * MAP_LEN) v w quiet);
  staged = both.staged;
  journal = ready_keeps v w j p p both.journal (settled_quiet n v w p quiet both.store.settled) refl refl refl (keeps_quiet n JOURNAL JOURNAL_LEN v w quiet);
}
