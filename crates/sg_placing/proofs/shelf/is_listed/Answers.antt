use Rattle.std.proofs.Common.{rules, tests}
use Rattle.std.proofs.lemmas.Iterator.{YieldsList-from_slice}
use Rattle.std.proofs.lemmas.Iterator.Search.{any_from_yields_List}
use Rattle.sg_base.specs.declared.file.Listed.{Listed}
use Rattle.sg_placing.specs.Placing.{same_file}
use Rattle.sg_placing.proofs.shelf.is_listed.Goals as goal

pub returns : goal.returns
returns c = any_from_yields_List (λ (f : Listed). same_file f c.args.file.now) _ _ _ c.any.ensures.ran (YieldsList-from_slice c.args.files.now cc) (λ x b q k. search (rules, tests))
