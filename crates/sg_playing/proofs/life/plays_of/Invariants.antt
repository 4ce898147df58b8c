use Rattle.std.proofs.Common.{◌≡◌, ◌++◌, drop}
use Rattle.sg_playing.specs.Plays.{plays_from, plays_of}
use Rattle.sg_playing.proofs.life.plays_of.Given as goal

abbrev pub invariant-loop-turn : goal.invariant-loop-turn
invariant-loop-turn l = l.plays.items ++ plays_from l.playing (drop l.turn-index l.turns) ≡ plays_of l.turns
