-- The lines of a player's timeline besides the shown line.
use Rattle.std.specs.Prelude.{ℕ, List, ◌++◌, codes, decimal, None, Some}
use Rattle.std.specs.declared.option.Option.{Option}
use Rattle.hex.specs.Hex.{encode_lower}
use Rattle.sg_base.specs.declared.ids.MediaId.{MediaId}
use Rattle.sg_manifest.specs.Faults.{name_of}
use Rattle.sg_exchange.specs.declared.ends.BatchCause.{BatchCause}
use Rattle.sg_exchange.specs.declared.ends.BatchCause.TheVariants as batch
use Rattle.sg_exchange.specs.declared.ends.BatchEnd.{BatchEnd}
use Rattle.sg_exchange.specs.declared.ends.BatchEnd.TheVariants as plays
use Rattle.sg_exchange.specs.declared.ends.EnrolCause.{EnrolCause}
use Rattle.sg_exchange.specs.declared.ends.EnrolCause.TheVariants as enrol
use Rattle.sg_timeline.specs.declared.step.Cause.{Cause}
use Rattle.sg_timeline.specs.declared.step.Cause.TheVariants as cause
use Rattle.sg_timeline.specs.declared.step.StepEnd.{StepEnd}
use Rattle.sg_timeline.specs.declared.step.StepEnd.TheVariants as step

-- words and a number
abbrev pub one_line : List ℕ → ℕ → List ℕ
one_line words n = words ++ (decimal n ++ codes "\n")

-- words and two numbers
abbrev pub two_line : List ℕ → ℕ → ℕ → List ℕ
two_line words n m = words ++ (decimal n ++ (codes " " ++ (decimal m ++ codes "\n")))

-- nothing is shown at a moment
abbrev pub nothing_line : ℕ → List ℕ
nothing_line moment = decimal moment ++ codes " nothing\n"

-- a play was recorded by this number
abbrev pub recorded_line : ℕ → List ℕ
recorded_line number = one_line (codes "recorded ") number

-- a play wasn't recorded
abbrev pub unrecorded_line : List ℕ
unrecorded_line = codes "unrecorded\n"

-- a snapshot became the current one, by its number and the MD5 of its manifest
abbrev pub switched_line : ℕ → List ℕ → List ℕ
switched_line number md5 =
    codes "sync switched " ++ (decimal number ++ (codes " " ++ (encode_lower md5 ++ codes "\n")))

-- why a step of a sync came no further
abbrev pub stay_line : Cause → List ℕ
stay_line cause.LinkFault = codes "sync stay link\n"
stay_line (cause.Cut got n) = two_line (codes "sync stay cut ") got n
stay_line (cause.Status status) = one_line (codes "sync stay status ") status
stay_line (cause.Manifest fault) = codes "sync stay manifest " ++ (name_of fault ++ codes "\n")
stay_line (cause.DigestDiffers media listed found) = one_line (codes "sync stay digest ") media.0
stay_line (cause.NoSpace need largest) = two_line (codes "sync stay nospace ") need largest
stay_line (cause.Length got expected) = two_line (codes "sync stay length ") got expected
stay_line cause.NotHttp = codes "sync stay nothttp\n"
stay_line cause.Spent = codes "sync stay spent\n"

-- what a step of a sync came to, where a line tells it
abbrev pub step_line : StepEnd → Option (List ℕ)
step_line (step.Listed pieces) = Some (one_line (codes "sync listed ") pieces)
step_line (step.Piece media at) = None
step_line (step.Sealed media) = Some (one_line (codes "sync sealed ") media.0)
step_line (step.Switched number md5) = Some (switched_line number md5)
step_line step.UpToDate = None
step_line (step.Stay why) = Some (stay_line why)

-- how a batch of plays ended
abbrev pub batch_line : BatchEnd → List ℕ
batch_line (plays.Sent next) = one_line (codes "plays sent ") next
batch_line (plays.Stay batch.LinkFault) = codes "plays stay link\n"
batch_line (plays.Stay (batch.Cut got n)) = two_line (codes "plays stay cut ") got n
batch_line (plays.Stay (batch.Status status)) = one_line (codes "plays stay status ") status
batch_line (plays.Stay batch.NotHttp) = codes "plays stay nothttp\n"
batch_line (plays.Stay batch.BadNext) = codes "plays stay badnext\n"

-- why a display was given no epoch
abbrev pub enrol_line : EnrolCause → List ℕ
enrol_line enrol.LinkFault = codes "enrol: link\n"
enrol_line (enrol.Cut got n) = two_line (codes "enrol: cut ") got n
enrol_line (enrol.Status status) = one_line (codes "enrol: status ") status
enrol_line enrol.NotHttp = codes "enrol: nothttp\n"
enrol_line enrol.BadReply = codes "enrol: badreply\n"

-- a store was made for an epoch of a display
abbrev pub formatted_line : ℕ → ℕ → List ℕ
formatted_line display epoch =
    codes "formatted display " ++ (decimal display ++ (codes " epoch " ++ (decimal epoch ++ codes "\n")))
