use Rattle.std.proofs.Common.{map, take, string_bytes}
use Rattle.signage.specs.Words.{AreMoments}
use Rattle.signage.proofs.command.moments_of.Given as goal

abbrev pub invariant-loop-word : goal.invariant-loop-word
invariant-loop-word l = AreMoments (map (λ w. string_bytes w) (take l.word-index l.words)) l.moments.items
