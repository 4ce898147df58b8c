use Rattle.std.proofs.Common.{◌≡◌, ℕ, ◌<◌, true, slice_index_or}
use Rattle.sg_base.specs.declared.file.Listed.{Listed}
use Rattle.sg_listing.proofs.listing.are_held.Given as goal

abbrev pub invariant-loop-file : goal.invariant-loop-file
invariant-loop-file g l = (k : ℕ) (d : Listed) → k < l.file-index → g.S.Staging.holds l.store (slice_index_or l.files k d) ≡ true
