use Rattle.std.proofs.Common.{◌++◌}
use Rattle.sg_placing.proofs.GapLemmas.{Longest}
use Rattle.sg_placing.proofs.gaps.longest_behind.Given as goal

abbrev pub invariant-loop-file : goal.invariant-loop-file
invariant-loop-file l = Longest l.room (l.current ++ l.staged) l.files l.before l.file-index l.longest
