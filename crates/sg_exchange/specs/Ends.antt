-- How a batch of plays and an enrolment end.
use Rattle.std.specs.Prelude.{◌≡◌, ◌≢◌, ℕ, ◌≤◌, Bool, true, false, List, ◌++◌, codes, decimal}
use Rattle.std.specs.declared.option.Option.{Option}
use Rattle.std.specs.declared.option.Option.TheVariants.{None, Some}
use Rattle.sg_base.specs.declared.limits.TheConstants.{MAX_EPOCH}
use Rattle.sg_exchange.specs.declared.ends.BatchCause.{BatchCause}
use Rattle.sg_exchange.specs.declared.ends.BatchCause.TheVariants as batch
use Rattle.sg_exchange.specs.declared.ends.BatchEnd.{BatchEnd}
use Rattle.sg_exchange.specs.declared.ends.BatchEnd.TheVariants.{Sent, Stay}
use Rattle.sg_exchange.specs.declared.ends.EnrolCause.{EnrolCause}
use Rattle.sg_exchange.specs.declared.ends.EnrolCause.TheVariants as enrol
use Rattle.sg_exchange.specs.declared.ends.EnrolEnd.{EnrolEnd}
use Rattle.sg_exchange.specs.declared.ends.EnrolEnd.TheVariants.{Enrolled, Refused}
use Rattle.sg_exchange.specs.Heard.{Outcome, Whole, LinkFault, NotHttp, Cut, Status, Length}

-- a number after a text, with a closing brace
abbrev pub number_text : List ℕ → ℕ → List ℕ
number_text before n = before ++ (decimal n ++ codes "}")

-- the body of a good reply to a batch, by the number of the play that the server wants next
abbrev pub next_text : ℕ → List ℕ
next_text n = number_text (codes "{\"next\":") n

-- the body of a good reply to an enrolment, by the epoch that it gives
abbrev pub epoch_text : ℕ → List ℕ
epoch_text n = number_text (codes "{\"epoch\":") n

-- The bytes are the text of this number, which lies in the range, or of no number of the range.
abbrev pub Names : (ℕ → List ℕ) → ℕ → ℕ → List ℕ → Option ℕ → Type 0
Names text low high bytes None = (n : ℕ) → low ≤ n → n ≤ high → bytes ≢ text n
Names text low high bytes (Some n) = (bytes ≡ text n) × (low ≤ n) × (n ≤ high)

abbrev pub batch_end : Option ℕ → BatchEnd
batch_end None = Stay batch.BadNext
batch_end (Some n) = Sent n

-- How a batch ends whose first play has the number `first`, where `next` is the number of the next play to be recorded.
-- A batch takes a reply of any length.
abbrev pub BatchEnds : ℕ → ℕ → Outcome → BatchEnd → Type 0
BatchEnds first next (Whole body) end =
    (named : Option ℕ) × Names next_text first next body named × (end ≡ batch_end named)
BatchEnds first next LinkFault end = end ≡ Stay batch.LinkFault
BatchEnds first next NotHttp end = end ≡ Stay batch.NotHttp
BatchEnds first next (Cut got n body) end = end ≡ Stay (batch.Cut got n)
BatchEnds first next (Status status) end = end ≡ Stay (batch.Status status)
BatchEnds first next (Length got expected) end = ⊥

abbrev pub enrol_end : Option ℕ → EnrolEnd
enrol_end None = Refused enrol.BadReply
enrol_end (Some n) = Enrolled n

-- How an enrolment ends, which takes a reply of any length.
abbrev pub EnrolEnds : Outcome → EnrolEnd → Type 0
EnrolEnds (Whole body) end =
    (named : Option ℕ) × Names epoch_text 1 MAX_EPOCH body named × (end ≡ enrol_end named)
EnrolEnds LinkFault end = end ≡ Refused enrol.LinkFault
EnrolEnds NotHttp end = end ≡ Refused enrol.NotHttp
EnrolEnds (Cut got n body) end = end ≡ Refused (enrol.Cut got n)
EnrolEnds (Status status) end = end ≡ Refused (enrol.Status status)
EnrolEnds (Length got expected) end = ⊥

abbrev pub is_batch_link_fault : BatchEnd → Bool
is_batch_link_fault (Sent n) = false
is_batch_link_fault (Stay batch.LinkFault) = true
is_batch_link_fault (Stay batch.NotHttp) = false
is_batch_link_fault (Stay (batch.Cut got n)) = false
is_batch_link_fault (Stay (batch.Status status)) = false
is_batch_link_fault (Stay batch.BadNext) = false

abbrev pub is_enrol_link_fault : EnrolEnd → Bool
is_enrol_link_fault (Enrolled n) = false
is_enrol_link_fault (Refused enrol.LinkFault) = true
is_enrol_link_fault (Refused enrol.NotHttp) = false
is_enrol_link_fault (Refused (enrol.Cut got n)) = false
is_enrol_link_fault (Refused (enrol.Status status)) = false
is_enrol_link_fault (Refused enrol.BadReply) = false
