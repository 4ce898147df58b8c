use Rattle.std.proofs.Common.{ℕ}
use Rattle.std.proofs.lemmas.List.Sorted.{IsNonDecreasingBy-from_sort}
use Rattle.sg_manifest.proofs.naming.ids_of.Goals as goal

pub returns-clause-rising : goal.returns-clause-rising
returns-clause-rising g c =
    let number : ℕ → ℕ = λ n. n in
    IsNonDecreasingBy-from_sort number c.sort_unstable.new.self.items c.sort_unstable.ensures.sorted
