use Rattle.sg_placing.proofs.GapLemmas.{Behind}
use Rattle.sg_placing.proofs.gaps.first_behind.Given as goal

abbrev pub invariant-loop-file : goal.invariant-loop-file
invariant-loop-file l = Behind l.files l.place l.limit l.file-index l.least
