-- What a line asks, and what lines make of a server, one after another.
use Rattle.std.specs.Prelude.{ℕ, List, [], ◌∷◌, ◌++◌, Option, Some, None, Result, Ok, Err, IsSome, option_map}
use Rattle.serde_json.specs.Data.{Data}
use Rattle.sg_bodies.specs.Bodies.{EditParts, edit_body_in, json_at}
use Rattle.sg_edit_command.specs.declared.saying.Said.{Said}
use Rattle.sg_records.specs.declared.reply.Reply.{Reply}
use Rattle.sg_replies.specs.Bodies.{reply_body}
use Rattle.sg_rows.specs.declared.fault.RowFault.{RowFault}
use Rattle.sg_steps.specs.Edits.{edit_at}
use Rattle.sg_steps.specs.State.{Content, Core}
use Rattle.sg_steps.specs.Step.{Stepped, content_in, step}

-- ---- one line

abbrev pub said_of : EditParts → Said
said_of p = record { client = p.client; seq = p.seq; edit = edit_at p.edit }

abbrev pub said_in : Result EditParts RowFault → Option Said
said_in (Ok p) = Some (said_of p)
said_in (Err fault) = None

abbrev pub said_by : Option Data → Option Said
said_by None = None
said_by (Some d) = said_in (edit_body_in d)

-- the edit that a line says, as the body of a message that asks for it
abbrev pub said_at : List ℕ → Option Said
said_at line = said_by (json_at line)

-- a line that may be answered: it is empty, or says an edit
abbrev pub IsAnswerable : List ℕ → Type 0
IsAnswerable [] = Unit {0}
IsAnswerable (b ∷ bs) = IsSome (said_at (b ∷ bs))

abbrev pub step_said : Core → Said → Stepped
step_said core said = step core said.client said.seq said.edit

-- what a line is answered, and the server after it; an empty one is skipped
unfoldable pub line_step : Core → List ℕ → Option Stepped
line_step core [] = None
line_step core (b ∷ bs) = option_map (step_said core) (said_at (b ∷ bs))

-- ---- one line after another

abbrev pub core_then : Core → Option Stepped → Core
core_then core None = core
core_then core (Some stepped) = stepped.core

-- the server after lines
abbrev pub core_after : Core → List (List ℕ) → Core
core_after core [] = core
core_after core (line ∷ lines) = core_after (core_then core (line_step core line)) lines

abbrev pub content_then : Option Stepped → Content → Content
content_then None content = content
content_then (Some stepped) content = content_in stepped.core.rows content

-- and its content, which loses the bytes of each medium that an edit removes
abbrev pub content_after : Core → List (List ℕ) → Content → Content
content_after core [] content = content
content_after core (line ∷ lines) content = content_after (core_then core (line_step core line)) lines (content_then (line_step core line) content)

-- a reply is printed as the body of its message, and a line feed
abbrev pub reply_text : Reply → List ℕ
reply_text reply = reply_body reply ++ 10 ∷ []

abbrev pub reply_if : Option Stepped → List ℕ
reply_if None = []
reply_if (Some stepped) = reply_text stepped.reply

-- the replies to lines
abbrev pub replies : Core → List (List ℕ) → List ℕ
replies core [] = []
replies core (line ∷ lines) = reply_if (line_step core line) ++ replies (core_then core (line_step core line)) lines
