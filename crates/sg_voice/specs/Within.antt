-- What the code keeps of a list of plays that may be far longer than the hour. No public clause cites it.
use Rattle.std.specs.Prelude.{◌==◌, ℕ, ◌-◌, if◌then◌else◌, List, [], ◌∷◌}
use Rattle.sg_voice.specs.declared.play.Play.{Play}

-- the first plays, each beginning while there is room
abbrev pub within : ℕ → List Play → List Play
within room [] = []
within room (p ∷ ps) = if room == 0 then [] else p ∷ within (room - p.seconds) ps
