use Rattle.std.proofs.Common.{◌≡◌, ◌+◌, drop}
use Rattle.sg_manifest.specs.Reading.{common}
use Rattle.sg_manifest.proofs.text.common_length.Given as goal

abbrev pub invariant-loop-place : goal.invariant-loop-place
invariant-loop-place l = common (drop l.place l.one) (drop l.place l.other) + l.place ≡ common l.one l.other
