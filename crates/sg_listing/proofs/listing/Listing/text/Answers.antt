use Rattle.std.proofs.Common.{ℕ, List, ◌≤◌, length, sym, subst}
use Rattle.sg_listing.proofs.FileLemmas.{manifest_some}
use Rattle.sg_listing.proofs.listing.Listing.text.Goals as goal

pub returns-clause-some : goal.returns-clause-some
returns-clause-some c = subst (λ (b : List ℕ). 1 ≤ length b) (sym c.as_slice.ensures.value) (manifest_some _ _ c.self.invariant)
