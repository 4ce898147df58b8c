use Rattle.std.proofs.Common.{◌==◌, ◌∙◌, ap}
use Rattle.std.specs.List.{list_any}
use Rattle.std.proofs.lemmas.List.Sorted.{searched}
use Rattle.sg_own_rows.proofs.NumberLemmas.{found_by}
use Rattle.sg_own_rows.proofs.names.has.Goals as goal

pub returns : goal.returns
returns c =
    let numbers = c.args.numbers.now in
    c.is_ok.ensures.value
    ∙ (found_by numbers c.number.result c.binary_search.result (searched numbers c.number.result c.binary_search.result c.binary_search.ensures.position (λ i j le lt. c.requires i j 0 le lt))
    ∙ ap (λ x. list_any (λ n. n == x) numbers) c.number.ensures)
