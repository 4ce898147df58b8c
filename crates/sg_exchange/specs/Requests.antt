-- The four requests of a player, as bytes.
use Rattle.std.specs.Prelude.{ℕ, List, [], ◌∷◌, ◌++◌, codes, decimal, None, Some}
use Rattle.std.specs.List.{flat_map}
use Rattle.sg_base.specs.declared.play.PlayBody.{PlayBody}
use Rattle.sg_http.specs.declared.message.Verb.TheVariants.{Get, Post}
use Rattle.sg_http.specs.Texts.{request_text}

-- what a server has of a display
abbrev pub display_path : ℕ → List ℕ → List ℕ
display_path display part = codes "/displays/" ++ (decimal display ++ part)

-- the bytes of a medium from an offset on
abbrev pub piece_part : ℕ → ℕ → List ℕ
piece_part media offset = codes "/files/" ++ (decimal media ++ (codes "/" ++ decimal offset))

-- a play by its four numbers
abbrev pub play_text : PlayBody → List ℕ
play_text play =
    codes "[" ++ (decimal play.event ++ (codes "," ++ (decimal play.layout ++ (codes "," ++ (decimal play.from
    ++ (codes "," ++ (decimal play.to ++ codes "]")))))))

-- a play after another one
abbrev pub next_play_text : PlayBody → List ℕ
next_play_text play = codes "," ++ play_text play

abbrev pub plays_text : List PlayBody → List ℕ
plays_text [] = []
plays_text (play ∷ plays) = play_text play ++ flat_map next_play_text plays

-- the body of a batch: the epoch, the number of the first play, and the plays
abbrev pub batch_text : ℕ → ℕ → List PlayBody → List ℕ
batch_text epoch first plays =
    codes "{\"epoch\":" ++ (decimal epoch ++ (codes ",\"first\":" ++ (decimal first
    ++ (codes ",\"plays\":[" ++ (plays_text plays ++ codes "]}")))))

-- ---- the requests of a display with a key

abbrev pub manifest_request : ℕ → List ℕ → List ℕ
manifest_request display key = request_text Get (display_path display (codes "/manifest")) key None

abbrev pub piece_request : ℕ → List ℕ → ℕ → ℕ → List ℕ
piece_request display key media offset = request_text Get (display_path display (piece_part media offset)) key None

abbrev pub batch_request : ℕ → List ℕ → ℕ → ℕ → List PlayBody → List ℕ
batch_request display key epoch first plays =
    request_text Post (display_path display (codes "/plays")) key (Some (batch_text epoch first plays))

-- its body is empty
abbrev pub enrol_request : ℕ → List ℕ → List ℕ
enrol_request display key = request_text Post (display_path display (codes "/enrol")) key (Some [])
