-- The server's replies in JSON (RFC 8259), members in byte order of their names, with their statuses of HTTP (RFC 9110).
use Rattle.std.specs.Prelude.{ℕ, List, codes}
use Rattle.serde_json.specs.Data.{Data, member, no_members, object, string}
use Rattle.serde_json.specs.Written.{compact_text}
use Rattle.hex.specs.Hex.{encode_lower}
use Rattle.sg_base.specs.Names.{limit_name}
use Rattle.sg_base.specs.declared.kind.Kind.TheVariants.{Media}
use Rattle.sg_records.specs.Replies.{of_row, reply_json}
use Rattle.sg_records.specs.declared.reply.Reply.{Reply}
use Rattle.sg_replies.specs.declared.refusal.Refusal.{Refusal}
use Rattle.sg_replies.specs.declared.refusal.Refusal.TheVariants as refusal
use Rattle.sg_replies.specs.declared.saying.Saying.{Saying}
use Rattle.sg_replies.specs.declared.saying.Saying.TheVariants.{Held, Complete, Epoch, Next, Refused, Unknown, PieceOrder, PieceLength, DigestDiffers, TooLarge, NotListed, PastEnd, Gap, PlaysFull}
use Rattle.sg_rows.specs.Text.{whole}

-- ---- refusals that say their name alone

abbrev pub refusal_name : Refusal → List ℕ
refusal_name refusal.Body = codes "Body"
refusal_name refusal.Path = codes "Path"
refusal_name refusal.Method = codes "Method"
refusal_name refusal.Key = codes "Key"
refusal_name refusal.Range = codes "Range"
refusal_name refusal.NoEpoch = codes "NoEpoch"
refusal_name refusal.EpochsSpent = codes "EpochsSpent"
refusal_name refusal.Keeper = codes "Keeper"
refusal_name refusal.Memory = codes "Memory"

abbrev pub refusal_status : Refusal → ℕ
refusal_status refusal.Body = 400
refusal_status refusal.Path = 404
refusal_status refusal.Method = 405
refusal_status refusal.Key = 403
refusal_status refusal.Range = 422
refusal_status refusal.NoEpoch = 409
refusal_status refusal.EpochsSpent = 409
refusal_status refusal.Keeper = 503
refusal_status refusal.Memory = 507

-- ---- all others but those to edits

-- a number alone
abbrev pub number_json : List ℕ → ℕ → Data
number_json name n = object (member name (whole n) no_members)

-- a refusal with a number, whose name stands before its own
abbrev pub refused_json : List ℕ → ℕ → List ℕ → Data
refused_json name n refused = object (member name (whole n) (member (codes "refused") (string refused) no_members))

abbrev pub saying_json : Saying → Data
saying_json (Held next) = number_json (codes "held") next
saying_json (Complete media) = number_json (codes "complete") media.0
saying_json (Epoch n) = number_json (codes "epoch") n
saying_json (Next n) = number_json (codes "next") n
saying_json (Refused refusal) = object (member (codes "refused") (string (refusal_name refusal)) no_members)
saying_json (Unknown media) = of_row Media media.0 (string (codes "Unknown"))
saying_json (PieceOrder expected) = refused_json (codes "expected") expected (codes "PieceOrder")
saying_json (PieceLength expected) = refused_json (codes "expected") expected (codes "PieceLength")
saying_json (DigestDiffers found) = object
    (member (codes "found") (string (encode_lower found)) (member (codes "refused") (string (codes "DigestDiffers")) no_members))
saying_json (TooLarge name count) = object
    (member (codes "count") (whole count)
    (member (codes "limit") (string (limit_name name))
    (member (codes "refused") (string (codes "TooLarge")) no_members)))
saying_json (NotListed media) = refused_json (codes "media") media.0 (codes "NotListed")
saying_json (PastEnd length) = refused_json (codes "length") length (codes "PastEnd")
saying_json (Gap next) = refused_json (codes "next") next (codes "Gap")
saying_json (PlaysFull limit) = refused_json (codes "limit") limit (codes "PlaysFull")

abbrev pub saying_status : Saying → ℕ
saying_status (Held next) = 200
saying_status (Complete media) = 200
saying_status (Epoch n) = 200
saying_status (Next n) = 200
saying_status (Refused refusal) = refusal_status refusal
saying_status (Unknown media) = 404
saying_status (PieceOrder expected) = 409
saying_status (PieceLength expected) = 422
saying_status (DigestDiffers found) = 409
saying_status (TooLarge name count) = 409
saying_status (NotListed media) = 403
saying_status (PastEnd length) = 416
saying_status (Gap next) = 409
saying_status (PlaysFull limit) = 409

-- ---- bodies

-- the body of a reply
abbrev pub saying_text : Saying → List ℕ
saying_text saying = compact_text (saying_json saying)

-- the body of a reply to an edit
abbrev pub reply_body : Reply → List ℕ
reply_body reply = compact_text (reply_json reply)
