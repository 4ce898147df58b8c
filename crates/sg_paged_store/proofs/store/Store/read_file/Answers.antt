use Rattle.std.proofs.Common.{arith}
use Rattle.std.proofs.lemmas.Bool.Decides.{nat_tests}
use Rattle.sg_paged_store.proofs.FileLemmas.{none_read}
use Rattle.sg_paged_store.proofs.store.Store.read_file.Goals as goal

pub returns-then-is_empty-clause-bytes : goal.returns-then-is_empty-clause-bytes
returns-then-is_empty-clause-bytes g c p f ready has id = none_read c.args.into.now f.bytes c.args.offset (grind (arith, nat_tests, c.is_empty.ensures, c.if-is_empty.true))
