use Rattle.std.proofs.Common.{ℕ, ◌<◌}
use Rattle.std.specs.List.{AllWithin}
use Rattle.sg_pages_tests.proofs.tests.are_pages.Given as goal

abbrev pub invariant-loop-page : goal.invariant-loop-page
invariant-loop-page l = AllWithin (λ (page : ℕ). page < l.count) l.pages 0 l.page-index
