-- Outcomes, and the answers that tell them.
use Rattle.std.specs.Prelude.{◌≡◌, ◌≢◌, ℕ, List, Option, None, Some}
use Rattle.sg_base.specs.declared.ids.MediaId.{MediaId}
use Rattle.sg_connection.specs.declared.answer.Answer.{Answer}
use Rattle.sg_connection.specs.Exchanges.{body_bytes}
use Rattle.sg_edits.specs.declared.piece_reply.PieceReply.{PieceReply}
use Rattle.sg_edits.specs.declared.piece_reply.PieceReply.TheVariants as piece
use Rattle.sg_http.specs.declared.message.Verb.{Verb}
use Rattle.sg_http.specs.declared.message.Verb.TheVariants.{Other}
use Rattle.sg_http.specs.declared.reply.Form.{Form}
use Rattle.sg_http.specs.declared.reply.Form.TheVariants.{Json, Octets}
use Rattle.sg_records.specs.Replies.{status_of as edit_status}
use Rattle.sg_replies.specs.Bodies.{reply_body, saying_status, saying_text}
use Rattle.sg_replies.specs.declared.refusal.Refusal.TheVariants as refusal
use Rattle.sg_replies.specs.declared.saying.Saying.{Saying}
use Rattle.sg_replies.specs.declared.saying.Saying.TheVariants as saying
use Rattle.sg_steps.specs.declared.replies.EnrolReply.{EnrolReply}
use Rattle.sg_steps.specs.declared.replies.EnrolReply.TheVariants as enrol
use Rattle.sg_steps.specs.declared.replies.PlaysReply.{PlaysReply}
use Rattle.sg_steps.specs.declared.replies.PlaysReply.TheVariants as plays
use Rattle.sg_views.specs.declared.manifest.ManifestReply.{ManifestReply}
use Rattle.sg_views.specs.declared.manifest.ManifestReply.TheVariants as manifest
use Rattle.sg_views.specs.declared.piece.FileReply.{FileReply}
use Rattle.sg_views.specs.declared.piece.FileReply.TheVariants as file
use Rattle.sg_answers.specs.declared.outcome.Outcome.{Outcome}
use Rattle.sg_answers.specs.declared.outcome.Outcome.TheVariants.{Edited, Said, OtherMethod, Gives}

-- ---- what the server answers, as an outcome

abbrev pub piece_saying : PieceReply → Saying
piece_saying (piece.Held next) = saying.Held next
piece_saying (piece.Complete media) = saying.Complete media
piece_saying (piece.Unknown media) = saying.Unknown media
piece_saying (piece.PieceOrder expected) = saying.PieceOrder expected
piece_saying (piece.PieceLength expected) = saying.PieceLength expected
piece_saying (piece.DigestDiffers found) = saying.DigestDiffers found

-- an unknown display and a wrong key are the same refusal
abbrev pub enrol_saying : EnrolReply → Saying
enrol_saying (enrol.Epoch epoch) = saying.Epoch epoch
enrol_saying enrol.EpochsSpent = saying.Refused refusal.EpochsSpent
enrol_saying (enrol.Unknown display) = saying.Refused refusal.Key

abbrev pub plays_saying : PlaysReply → Saying
plays_saying (plays.Next next) = saying.Next next
plays_saying (plays.Gap next) = saying.Gap next
plays_saying plays.NoEpoch = saying.Refused refusal.NoEpoch
plays_saying (plays.PlaysFull limit) = saying.PlaysFull limit

abbrev pub manifest_outcome : ManifestReply → Outcome
manifest_outcome (manifest.Text text) = Gives Json text
manifest_outcome manifest.Unknown = Said (saying.Refused refusal.Key)
manifest_outcome (manifest.TooLarge name count) = Said (saying.TooLarge name count)

abbrev pub file_outcome : MediaId → FileReply → Outcome
file_outcome media (file.Bytes bytes) = Gives Octets bytes
file_outcome media file.NotListed = Said (saying.NotListed media)
file_outcome media (file.PastEnd length) = Said (saying.PastEnd length)

-- ---- the answer that tells it

abbrev pub status_of : Outcome → ℕ
status_of (Edited reply) = edit_status reply
status_of (Said s) = saying_status s
status_of (OtherMethod verb) = 405
status_of (Gives form bytes) = 200

abbrev pub form_of : Outcome → Form
form_of (Gives form bytes) = form
form_of (Edited reply) = Json
form_of (Said s) = Json
form_of (OtherMethod verb) = Json

-- the method that the path takes, where another one was used
abbrev pub allow_of : Outcome → Option Verb
allow_of (OtherMethod verb) = Some verb
allow_of (Edited reply) = None
allow_of (Said s) = None
allow_of (Gives form bytes) = None

abbrev pub body_of : Outcome → List ℕ
body_of (Edited reply) = reply_body reply
body_of (Said s) = saying_text s
body_of (OtherMethod verb) = saying_text (saying.Refused refusal.Method)
body_of (Gives form bytes) = bytes

-- the answer tells an outcome
pub record Tells (a : Answer) (o : Outcome) : Type 0 where
  pub status : a.status ≡ status_of o
  pub form : a.form ≡ form_of o
  pub allow : a.allow ≡ allow_of o
  pub body : body_bytes a.body ≡ body_of o

-- an outcome that HTTP can tell: one that says that another method was used names the one to use, which is a known one
abbrev pub IsTellable : Outcome → Type 0
IsTellable (Edited reply) = Unit {0}
IsTellable (Said s) = saying_status s ≢ 405
IsTellable (OtherMethod verb) = verb ≢ Other
IsTellable (Gives form bytes) = Unit {0}
