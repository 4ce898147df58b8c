use Rattle.std.proofs.Common.{◌≡◌, ◌++◌, take}
use Rattle.std.specs.List.{flat_map}
use Rattle.sg_exchange.specs.Requests.{next_play_text}
use Rattle.sg_exchange.proofs.requests.push_next_plays.Given as goal

abbrev pub invariant-loop-play : goal.invariant-loop-play
invariant-loop-play l = l.text.items ≡ l.initial.text.items ++ flat_map next_play_text (take l.play-index l.plays)
