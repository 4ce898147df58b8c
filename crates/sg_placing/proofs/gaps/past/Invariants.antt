use Rattle.std.proofs.Common.{◌≡◌, ℕ, ◌+◌, ◌≤◌}
use Rattle.std.specs.List.{AllWithin}
use Rattle.sg_disk.specs.Contents.{IsClear}
use Rattle.sg_disk.specs.declared.places.TheConstants.{DATA}
use Rattle.sg_placing.specs.Placing.{segment_of, AreClearOf}
use Rattle.sg_placing.proofs.gaps.past.Given as goal

abbrev pub invariant-loop-file : goal.invariant-loop-file
invariant-loop-file l = (l.at ≤ DATA + l.room) × (l.place ≤ l.at) × ((q : ℕ) → l.place ≤ q → AreClearOf l.files l.need q → l.at ≤ q) × (l.at ≡ l.place → AllWithin (λ p. IsClear l.place l.need (segment_of p)) l.files 0 l.file-index)
