use Rattle.std.proofs.Common.{◌≡◌, drop}
use Rattle.sg_missing.specs.Missing.{first_missing}
use Rattle.sg_missing.proofs.wanted.first_missing.Given as goal

abbrev pub invariant-loop-file : goal.invariant-loop-file
invariant-loop-file g l = first_missing (g.S.Staging.holds l.store) (drop l.file-index l.files) ≡ first_missing (g.S.Staging.holds l.store) l.files
