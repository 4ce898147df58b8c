use Rattle.std.proofs.Common.{Bool, ◌∙◌}
use Rattle.sg_placing.specs.Placing.{same_file}
use Rattle.sg_placing.specs.declared.placed.Placed.{Placed}
use Rattle.sg_store.proofs.StageLemmas.{some_found, none_found}
use Rattle.sg_store.proofs.choice.find_whole.Goals as goal

pub returns-in-Some : goal.returns-in-Some
returns-in-Some c =
    let test : Placed → Bool = λ p. same_file p.file c.args.file.now in
    some_found test c.args.current.now c.args.staged.now c.in-Some.found c.in-Some.ensures

pub returns-in-None : goal.returns-in-None
returns-in-None c =
    let test : Placed → Bool = λ p. same_file p.file c.args.file.now in
    c.find_file-in-None.ensures ∙ none_found test c.args.current.now c.args.staged.now c.in-None.ensures
