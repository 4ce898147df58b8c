-- The bytes of a store that has just been formatted.
use Rattle.std.proofs.Common.{◌≡◌, ℕ, ◌+◌, ◌<◌, ◌≤◌, ◌^◌, List, [], length, slice_get, Some, refl, arith}
use Rattle.sg_base.specs.declared.play.PlayBody.{PlayBody}
use Rattle.sg_disk.specs.View.{range}
use Rattle.sg_disk.specs.Contents.{IsRoom, IsLawful, fresh}
use Rattle.sg_disk.specs.StandsFor.{IsHeader, IsOpen, HoldsPlays, gate, journal_of, StandsFor}
use Rattle.sg_base.specs.declared.limits.TheConstants.{JOURNAL_RECORDS}
use Rattle.sg_disk.specs.declared.places.TheConstants.{HEADER_LEN, SLOT_ZERO, SLOT_ONE, SLOT_LEN, DATA}

pub lawful_fresh : (display epoch room : ℕ) → (1 ≤ display) × (display < 2 ^ 32) → (1 ≤ epoch) × (epoch < 2 ^ 32) → IsRoom room → IsLawful (fresh display epoch room)
lawful_fresh display epoch room display_ok epoch_ok room_ok = record {
  display = display_ok;
  epoch = epoch_ok;
  room = room_ok;
  snapshot = (refl, refl);
  few = omega arith;
  floor = omega arith;
  plays = λ k d lt. absurd (omega (arith, lt));
}

-- a journal with every gate closed holds no play
pub no_plays : (epoch : ℕ) (area : List ℕ) → ((k : ℕ) → k < JOURNAL_RECORDS → gate area k ≡ 1 → ⊥) → HoldsPlays epoch 1 [] area
no_plays epoch area closed = record {
  starts = omega arith;
  within = omega arith;
  ring = omega arith;
  last = λ lt. absurd (omega (arith, lt));
  held = λ i play le is. absurd (nothing i play is);
  open_only = λ k lt opened. absurd (closed k lt opened);
}
  where
    nothing : (i : ℕ) (play : PlayBody) → slice_get [] i ≡ Some play → ⊥
    nothing i play is = cc

-- a header, and every other gate closed
pub fresh_stands : (display epoch room : ℕ) (c : List ℕ) → IsLawful (fresh display epoch room) → length c ≡ DATA + room → IsHeader display epoch room (range c 0 HEADER_LEN) → (IsOpen (range c SLOT_ZERO SLOT_LEN) → ⊥) → (IsOpen (range c SLOT_ONE SLOT_LEN) → ⊥) → ((k : ℕ) → k < JOURNAL_RECORDS → gate (journal_of c) k ≡ 1 → ⊥) → StandsFor (fresh display epoch room) c
fresh_stands display epoch room c lawful size header zero one closed = record {
  lawful = lawful;
  size = size;
  header = header;
  slots = (zero, one);
  journal = (1, omega arith, no_plays epoch (journal_of c) closed);
  files = λ k d lt. absurd (omega (arith, lt));
  seals = refl;
}
