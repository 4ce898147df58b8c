use Rattle.std.proofs.Common.{◌≡◌, ◌≤◌, ◌+◌, ◌*◌, drop, length}
use Rattle.sg_missing.specs.Missing.{holding, missing}
use Rattle.sg_missing.proofs.wanted.count_missing.Given as goal

abbrev pub invariant-loop-file : goal.invariant-loop-file
invariant-loop-file g l = record {
  so_far : l.count + length (missing (holding (g.S.Staging.holds l.store) (g.S.Staging.part l.store)) (drop l.file-index l.files))
      ≡ length (missing (holding (g.S.Staging.holds l.store) (g.S.Staging.part l.store)) l.files);
  few : l.count ≤ 1024 * l.file-index;
}
