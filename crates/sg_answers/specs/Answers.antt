-- What becomes of a message: a step of the server and its outcome, or a fault that changes nothing.
use Rattle.std.specs.Prelude.{◌≡◌, ℕ, nat_lt, if◌then◌else◌, List, Option, None, Some, length, ⊤}
use Rattle.sg_base.specs.declared.ids.MediaId.{MediaId}
use Rattle.sg_edits.specs.declared.piece_reply.PieceReply.{PieceReply}
use Rattle.sg_edits.specs.Media.{asked}
use Rattle.sg_edits.specs.Pieces.{Put, piece_put, with_bytes}
use Rattle.sg_http.specs.declared.reply.Form.TheVariants.{Csv}
use Rattle.sg_keeper.specs.View.{Broke, Ran, Same, View}
use Rattle.sg_own_rows.specs.Own.{files_of}
use Rattle.sg_records.specs.declared.reply.Reply.{Reply}
use Rattle.sg_replies.specs.declared.refusal.Refusal.TheVariants as refusal
use Rattle.sg_replies.specs.declared.saying.Saying.TheVariants.{Refused}
use Rattle.sg_report.specs.Report.{IsReport}
use Rattle.sg_steps.specs.declared.replies.EnrolReply.{EnrolReply}
use Rattle.sg_steps.specs.declared.replies.EnrolReply.TheVariants as enrol
use Rattle.sg_steps.specs.Epochs.{enrolled, played, with_plays}
use Rattle.sg_steps.specs.State.{Content, Core, Stands}
use Rattle.sg_steps.specs.Step.{content_in, given_in, step}
use Rattle.sg_tables.specs.Entries.{Kept}
use Rattle.sg_views.specs.declared.piece.FileReply.{FileReply}
use Rattle.sg_views.specs.Pieces.{IsFileReply, file_reply, listed}
use Rattle.sg_views.specs.Views.{manifest_reply}
use Rattle.sg_answers.specs.declared.outcome.Outcome.{Outcome}
use Rattle.sg_answers.specs.declared.outcome.Outcome.TheVariants as outcome
use Rattle.sg_answers.specs.Calls.{Call, Refuse, OtherMethod, MakeEdit, PutPiece, Report, Enrol, Manifest, File, TakePlays}
use Rattle.sg_answers.specs.Outcomes.{enrol_saying, file_outcome, manifest_outcome, piece_saying, plays_saying}

-- ---- a step

-- What is known of a step's outcome whatever the keeper tells. What a piece is answered, and the bytes of a file, are
-- known by the keeper's rows alone.
abbrev pub Does : Call → Core → View → Outcome → Type 0
Does (Refuse reason) core v o = o ≡ outcome.Said (Refused reason)
Does (OtherMethod verb) core v o = o ≡ outcome.OtherMethod verb
Does (MakeEdit client seq edit) core v o = o ≡ outcome.Edited (step core client seq edit).reply
Does (PutPiece media offset bytes) core v o = (reply : PieceReply) × (o ≡ outcome.Said (piece_saying reply))
Does (Report from to) core v o = (text : List ℕ) × IsReport from to v text × (o ≡ outcome.Gives Csv text)
Does (Enrol display) core v o = o ≡ outcome.Said (enrol_saying (enrolled core display.0).reply)
Does (Manifest display) core v o = o ≡ manifest_outcome (manifest_reply display core.rows)
Does (File display media offset) core v o =
    (reply : FileReply) × IsFileReply (listed media (files_of display core.rows)) offset reply
    × (o ≡ file_outcome media reply)
Does (TakePlays display epoch first list) core v o =
    o ≡ outcome.Said (plays_saying (played core display.0 epoch first list).reply)

-- the server after a step; after a piece it has these rows
abbrev pub core_after : Call → List Kept → Core → Core
core_after (MakeEdit client seq edit) rows core = (step core client seq edit).core
core_after (PutPiece media offset bytes) rows core = record core { rows = rows }
core_after (Enrol display) rows core = (enrolled core display.0).core
core_after (TakePlays display epoch first list) rows core =
    record core { epochs = (played core display.0 epoch first list).epochs }
core_after call rows core = core

-- ---- a step over rows that stand for the server

-- a piece that is put to a server with this content
abbrev pub put_to : Core → Content → MediaId → ℕ → List ℕ → Put
put_to core content media offset bytes =
    piece_put (asked core.rows media offset bytes (content.bytes media.0) (λ n. None))

-- what the content decides of an outcome and of the server after it
abbrev pub DoesWith : Call → Core → Content → Outcome → Core → Type 0
DoesWith (PutPiece media offset bytes) core content o after =
    (o ≡ outcome.Said (piece_saying (put_to core content media offset bytes).reply))
    × (after.rows ≡ (put_to core content media offset bytes).rows)
DoesWith (File display media offset) core content o after =
    o ≡ file_outcome media (file_reply (listed media (files_of display core.rows)) offset (content.bytes media.0))
DoesWith call core content o after = ⊤

-- the content after it
abbrev pub content_after : Call → Core → Content → Content
content_after (MakeEdit client seq edit) core content = content_in (step core client seq edit).core.rows content
content_after (PutPiece media offset bytes) core content =
    with_bytes media.0 (put_to core content media offset bytes).stored content
content_after (TakePlays display epoch first list) core content =
    with_plays display.0 epoch (played core display.0 epoch first list).added content
content_after call core content = content

-- ---- calls of the keeper

abbrev pub one_if_none : Option Reply → ℕ
one_if_none None = 1
one_if_none (Some reply) = 0

abbrev pub one_if_given : EnrolReply → ℕ
one_if_given (enrol.Epoch epoch) = 1
one_if_given enrol.EpochsSpent = 0
one_if_given (enrol.Unknown display) = 0

-- how many calls of the keeper a step makes at least: one for an edit that is executed, an epoch that is given, a batch
-- with a new play, and a report
abbrev pub least_calls : Call → Core → ℕ
least_calls (MakeEdit client seq edit) core = one_if_none (given_in core.clients client seq)
least_calls (Enrol display) core = one_if_given (enrolled core display.0).reply
least_calls (TakePlays display epoch first list) core =
    if nat_lt 0 (length (played core display.0 epoch first list).added) then 1 else 0
least_calls (Report from to) core = 1
least_calls call core = 0

-- what is refused before any step leaves the keeper alone
abbrev pub IsSpared : Call → View → View → Type 0
IsSpared (Refuse reason) v v' = v'.stop ≡ v.stop
IsSpared (OtherMethod verb) v v' = v'.stop ≡ v.stop
IsSpared call v v' = ⊤

-- ---- a message

-- a step: its outcome, the server after it, and what becomes of the keeper
pub record Steps (call : Call) (core : Core) (v : View) (o : Outcome) (after : Core) (v' : View) : Type 0 where
  pub does : Does call core v o
  pub left : after ≡ core_after call after.rows core
  pub rows : (content : Content) → v.told → Stands core content v.rows
      → DoesWith call core content o after × Stands after (content_after call core content) v'.rows
  pub ran : Ran (least_calls call core) v v'
  pub spared : IsSpared call v v'

pub data Answers (call : Call) (core : Core) (v : View) (o : Outcome) (after : Core) (v' : View) : Type 0 where
  -- the step was made
  made : Steps call core v o after v' → Answers call core v o after v'
  -- the keeper failed, and nothing was changed
  keeper : o ≡ outcome.Said (Refused refusal.Keeper) → after ≡ core → Broke v v' → Same v v'
      → Answers call core v o after v'
  -- memory ran out, and nothing was changed
  memory : o ≡ outcome.Said (Refused refusal.Memory) → after ≡ core → Ran 0 v v' → Same v v'
      → Answers call core v o after v'
