use Rattle.std.proofs.Common.{◌≤◌, arith}
use Rattle.sg_base.specs.declared.file.Listed.{Listed}
use Rattle.sg_missing_tests.proofs.FilePairs.{both_have, two_files}
use Rattle.sg_missing_tests.proofs.pieces.files.Goals as goal

pub returns-clause-files : goal.returns-clause-files
returns-clause-files c = two_files _ _ (omega arith) (omega arith) (omega arith)

pub returns-clause-short : goal.returns-clause-short
returns-clause-short c = both_have (λ (f : Listed). f.length ≤ 67108864) _ _ (omega arith) (omega arith)
