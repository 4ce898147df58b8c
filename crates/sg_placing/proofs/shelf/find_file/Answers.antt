use Rattle.std.proofs.Common.{◌∙◌, rules, tests}
use Rattle.std.proofs.lemmas.Iterator.{YieldsList-from_slice}
use Rattle.std.proofs.lemmas.Iterator.Search.{find_from_yields_List}
use Rattle.sg_placing.specs.Placing.{same_file}
use Rattle.sg_placing.specs.declared.placed.Placed.{Placed}
use Rattle.sg_placing.proofs.shelf.find_file.Goals as goal

pub returns : goal.returns
returns c = c.copied.ensures ∙ find_from_yields_List (λ (p : Placed). same_file p.file c.args.file.now) _ _ _ c.find.ensures.ran (YieldsList-from_slice c.args.files.now cc) (λ x b q k. search (rules, tests))
