-- A disk that tells its length and its count of faults, and nothing of what it holds.
use Rattle.std.specs.Prelude.{◌≡◌, ℕ, [], None, true}
use Rattle.sg_disk.specs.View.{View}
use Rattle.sg_disk.specs.declared.real.FileDisk.{FileDisk}

abbrev pub blind_view : ℕ → ℕ → View
blind_view size faults = record {
  size = size;
  told = ⊥;
  bytes = [];
  images = λ c. ⊥;
  moment = 0;
  since = λ t c. ⊥;
  faults = faults;
  stop = None;
  sized = λ told. absurd told;
  reads = λ told. told;
  counts_now = λ t c le now. now;
  only_now = λ c left. left;
}

-- a disk over a real file
abbrev pub file_view : {R F : Type 0} → FileDisk R F → View
file_view disk = blind_view disk.size disk.faults

-- a sync of it has failed
abbrev pub has_failed_sync : {R F : Type 0} → FileDisk R F → Type 0
has_failed_sync disk = disk.broken ≡ true
