-- The command table: which words say which command.
use Rattle.std.specs.Prelude.{ℕ, ◌==◌, ◌%◌, nat_le, if◌then◌else◌, List, [], ◌∷◌, Option, Some, None, option_and_then, option_map, codes}
use Rattle.std.specs.Str.{bytes_eq}
use Rattle.clap.specs.Words.{Row, first_of}
use Rattle.sg_base.specs.declared.limits.TheConstants.{LAST_MOMENT, MAX_ROOM, ROOM_UNIT}
use Rattle.sg_base.specs.Texts.{is_key}
use Rattle.sg_values.specs.Values.{is_place, number_at}
use Rattle.sg_words.specs.Options.{given}
use Rattle.sg_words.specs.declared.command.Command.{Command}
use Rattle.sg_words.specs.declared.command.Command.TheVariants as command

-- a command with the values of its options
pub data Said : Type 0 where
  -- store, server, display, key, length of the data area
  Format : List ℕ → List ℕ → ℕ → List ℕ → ℕ → Said
  -- store, server, key, turns between two syncs, folder of a panel
  Play : List ℕ → List ℕ → List ℕ → ℕ → Option (List ℕ) → Said
  -- rows, address, key, connections
  Serve : List ℕ → List ℕ → List ℕ → ℕ → Said
  -- rows
  Edit : List ℕ → Said
  -- rows, first moment, moment after the last
  Report : List ℕ → ℕ → ℕ → Said
  Rehearse : Said
  -- number of the made run
  Made : ℕ → Said

abbrev pub said : Command → Said
said (command.Format store server display key room) = Format store.now server.now display key.now room
said (command.Play store server key every panel) = Play store.now server.now key.now every (option_map (λ p. p.now) panel)
said (command.Serve db listen key connections) = Serve db.now listen.now key.now connections
said (command.Edit db) = Edit db.now
said (command.Report db from to) = Report db.now from to
said command.Rehearse = Rehearse
said (command.Made number) = Made number

-- ---- values: a word that is none is as good as no word

abbrev pub place : Option (List ℕ) → Option (List ℕ)
place None = None
place (Some word) = if is_place word then Some word else None

-- the place that a word is, or that there is no word
abbrev pub place_if : Option (List ℕ) → Option (Option (List ℕ))
place_if None = Some None
place_if (Some word) = if is_place word then Some (Some word) else None

abbrev pub key : Option (List ℕ) → Option (List ℕ)
key None = None
key (Some word) = if is_key word then Some word else None

abbrev pub number : ℕ → ℕ → Option (List ℕ) → Option ℕ
number low high None = None
number low high (Some word) = number_at low high word

-- the number that a word is, or this one where there is no word
abbrev pub number_or : ℕ → ℕ → ℕ → Option (List ℕ) → Option ℕ
number_or low high other None = Some other
number_or low high other (Some word) = number_at low high word

abbrev pub moment : Option (List ℕ) → Option ℕ
moment word = number 0 LAST_MOMENT word

-- the length of a data area, which is a multiple of the least one
abbrev pub room_of : Option ℕ → Option ℕ
room_of None = None
room_of (Some n) = if n % ROOM_UNIT == 0 then Some n else None

abbrev pub room : Option (List ℕ) → Option ℕ
room word = room_of (number ROOM_UNIT MAX_ROOM word)

-- ---- commands by their values

abbrev pub format_of : Option (List ℕ) → Option (List ℕ) → Option ℕ → Option (List ℕ) → Option ℕ → Option Said
format_of None server display key room = None
format_of (Some store) None display key room = None
format_of (Some store) (Some server) None key room = None
format_of (Some store) (Some server) (Some display) None room = None
format_of (Some store) (Some server) (Some display) (Some key) None = None
format_of (Some store) (Some server) (Some display) (Some key) (Some room) = Some (Format store server display key room)

abbrev pub play_of : Option (List ℕ) → Option (List ℕ) → Option (List ℕ) → Option ℕ → Option (Option (List ℕ)) → Option Said
play_of None server key every panel = None
play_of (Some store) None key every panel = None
play_of (Some store) (Some server) None every panel = None
play_of (Some store) (Some server) (Some key) None panel = None
play_of (Some store) (Some server) (Some key) (Some every) None = None
play_of (Some store) (Some server) (Some key) (Some every) (Some panel) = Some (Play store server key every panel)

abbrev pub serve_of : Option (List ℕ) → Option (List ℕ) → Option (List ℕ) → Option ℕ → Option Said
serve_of None listen key connections = None
serve_of (Some db) None key connections = None
serve_of (Some db) (Some listen) None connections = None
serve_of (Some db) (Some listen) (Some key) None = None
serve_of (Some db) (Some listen) (Some key) (Some n) = Some (Serve db listen key n)

abbrev pub edit_of : Option (List ℕ) → Option Said
edit_of None = None
edit_of (Some db) = Some (Edit db)

abbrev pub report_of : Option (List ℕ) → Option ℕ → Option ℕ → Option Said
report_of None from to = None
report_of (Some db) None to = None
report_of (Some db) (Some from) None = None
report_of (Some db) (Some from) (Some to) = if nat_le from to then Some (Report db from to) else None

-- without a number the run is that of a script
abbrev pub rehearse_of : Option (List ℕ) → Option Said
rehearse_of None = Some Rehearse
rehearse_of (Some word) = option_map (λ n. Made n) (number_at 1 1000000 word)

-- ---- commands by their options

unfoldable pub format_in : List Row → Option Said
format_in rows =
    format_of (place (first_of (codes "store") rows)) (place (first_of (codes "server") rows)) (number 1 4294967295 (first_of (codes "display") rows))
    (key (first_of (codes "key") rows)) (room (first_of (codes "data") rows))

unfoldable pub play_in : List Row → Option Said
play_in rows =
    play_of (place (first_of (codes "store") rows)) (place (first_of (codes "server") rows)) (key (first_of (codes "key") rows))
    (number_or 0 1000000 1 (first_of (codes "every") rows)) (place_if (first_of (codes "panel") rows))

unfoldable pub serve_in : List Row → Option Said
serve_in rows =
    serve_of (place (first_of (codes "db") rows)) (place (first_of (codes "listen") rows)) (key (first_of (codes "key") rows))
    (number_or 1 1000000 1000000 (first_of (codes "connections") rows))

unfoldable pub edit_in : List Row → Option Said
edit_in rows = edit_of (place (first_of (codes "db") rows))

unfoldable pub report_in : List Row → Option Said
report_in rows = report_of (place (first_of (codes "db") rows)) (moment (first_of (codes "from") rows)) (moment (first_of (codes "to") rows))

unfoldable pub rehearse_in : List Row → Option Said
rehearse_in rows = rehearse_of (first_of (codes "made") rows)

-- ---- commands by their words

unfoldable pub format_words : List (List ℕ) → Option Said
format_words words =
    option_and_then format_in (given (codes "store" ∷ codes "server" ∷ codes "display" ∷ codes "key" ∷ codes "data" ∷ []) [] words)

unfoldable pub play_words : List (List ℕ) → Option Said
play_words words =
    option_and_then play_in (given (codes "store" ∷ codes "server" ∷ codes "key" ∷ []) (codes "every" ∷ codes "panel" ∷ []) words)

unfoldable pub serve_words : List (List ℕ) → Option Said
serve_words words =
    option_and_then serve_in (given (codes "db" ∷ codes "listen" ∷ codes "key" ∷ []) (codes "connections" ∷ []) words)

unfoldable pub edit_words : List (List ℕ) → Option Said
edit_words words = option_and_then edit_in (given (codes "db" ∷ []) [] words)

unfoldable pub report_words : List (List ℕ) → Option Said
report_words words = option_and_then report_in (given (codes "db" ∷ codes "from" ∷ codes "to" ∷ []) [] words)

unfoldable pub rehearse_words : List (List ℕ) → Option Said
rehearse_words words = option_and_then rehearse_in (given [] (codes "made" ∷ []) words)

-- ---- the table

-- the command of a name, with the words after it
abbrev pub said_by : List ℕ → List (List ℕ) → Option Said
said_by name words =
    if bytes_eq name (codes "format") then format_words words
    else (if bytes_eq name (codes "play") then play_words words
    else (if bytes_eq name (codes "serve") then serve_words words
    else (if bytes_eq name (codes "edit") then edit_words words
    else (if bytes_eq name (codes "report") then report_words words
    else (if bytes_eq name (codes "rehearse") then rehearse_words words else None)))))

-- The command that the words say, if they are in the table. The words of `preview` are none of these
abbrev pub said_in : List (List ℕ) → Option Said
said_in [] = None
said_in (name ∷ words) = said_by name words
