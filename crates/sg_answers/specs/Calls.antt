-- What a message asks for.
use Rattle.std.specs.Prelude.{ℕ, nat_lt, if◌then◌else◌, List, Option, None, Some, Result, Ok, Err}
use Rattle.serde_json.specs.Data.{Data}
use Rattle.sg_base.specs.declared.ids.DisplayId.{DisplayId}
use Rattle.sg_base.specs.declared.ids.MediaId.{MediaId}
use Rattle.sg_base.specs.declared.play.PlayBody.{PlayBody}
use Rattle.sg_bodies.specs.Bodies.{EditParts, PlaysParts, edit_body_in, json_at, plays_body_in}
use Rattle.sg_http.specs.declared.message.Verb.{Verb}
use Rattle.sg_http.specs.Messages.{Request}
use Rattle.sg_replies.specs.declared.refusal.Refusal.{Refusal}
use Rattle.sg_replies.specs.declared.refusal.Refusal.TheVariants as refusal
use Rattle.sg_routes.specs.declared.asked.Asked.{Asked}
use Rattle.sg_routes.specs.declared.asked.Asked.TheVariants as asked
use Rattle.sg_routes.specs.declared.asked.RouteFault.{RouteFault}
use Rattle.sg_routes.specs.declared.asked.RouteFault.TheVariants.{Path, Method}
use Rattle.sg_routes.specs.Asked.{ask}
use Rattle.sg_rows.specs.declared.fault.RowFault.{RowFault}
use Rattle.sg_steps.specs.declared.edit.Edit.{Edit}
use Rattle.sg_steps.specs.Edits.{edit_at}
use Rattle.sg_tables.specs.Entries.{Kept}
use Rattle.sg_answers.specs.Keys.{may_ask}

-- a step of the server, with all that it is given; or none, and why
pub data Call : Type 0 where
  Refuse : Refusal → Call
  OtherMethod : Verb → Call
  -- of a client, its number and the edit
  MakeEdit : ℕ → ℕ → Edit → Call
  PutPiece : MediaId → ℕ → List ℕ → Call
  Report : ℕ → ℕ → Call
  Enrol : DisplayId → Call
  Manifest : DisplayId → Call
  File : DisplayId → MediaId → ℕ → Call
  -- of a display and its epoch, the number of the first play, and the plays
  TakePlays : DisplayId → ℕ → ℕ → List PlayBody → Call

-- ---- bodies

abbrev pub edit_of : Result EditParts RowFault → Call
edit_of (Ok p) = MakeEdit p.client p.seq (edit_at p.edit)
edit_of (Err fault) = Refuse refusal.Body

abbrev pub edit_in : Option Data → Call
edit_in None = Refuse refusal.Body
edit_in (Some d) = edit_of (edit_body_in d)

abbrev pub plays_of : DisplayId → Result PlaysParts RowFault → Call
plays_of display (Ok p) = TakePlays display p.epoch p.first p.plays
plays_of display (Err fault) = Refuse refusal.Body

abbrev pub plays_in : DisplayId → Option Data → Call
plays_in display None = Refuse refusal.Body
plays_in display (Some d) = plays_of display (plays_body_in d)

-- ---- messages

-- what is asked for, with the body of its message; of most the body isn't looked at
abbrev pub call_for : Asked → List ℕ → Call
call_for asked.Edits body = edit_in (json_at body)
call_for (asked.Piece media offset) body = PutPiece media offset body
call_for (asked.Report from to) body = if nat_lt to from then Refuse refusal.Range else Report from to
call_for (asked.Enrol display) body = Enrol display
call_for (asked.Manifest display) body = Manifest display
call_for (asked.File display media offset) body = File display media offset
call_for (asked.Plays display) body = plays_in display (json_at body)

-- the path comes first, then the method, then the numbers in the path, then the key, then the body
abbrev pub call_by : List ℕ → List Kept → Result Asked RouteFault → Option (List ℕ) → List ℕ → Call
call_by operator rows (Err Path) key body = Refuse refusal.Path
call_by operator rows (Err (Method verb)) key body = OtherMethod verb
call_by operator rows (Ok asked) key body =
    if may_ask operator rows asked key then call_for asked body else Refuse refusal.Key

-- what a message asks for, by the operator's key and the rows of the server
abbrev pub call_of : List ℕ → List Kept → Request → Call
call_of operator rows m = call_by operator rows (ask m.method m.target) m.key m.body
