-- The bytes of a store that has just been formatted.
use Rattle.std.proofs.Common.{◌≡◌, inr, ℕ, ◌*◌, ◌<◌, ◌≤◌, ◌^◌, List, length, refl, arith}
use Rattle.sg_disk.specs.View.{range}
use Rattle.sg_disk.specs.Contents.{IsRoom, fresh}
use Rattle.sg_disk.specs.StandsFor.{IsOpen, gate, journal_of}
use Rattle.sg_base.specs.declared.limits.TheConstants.{JOURNAL_RECORDS}
use Rattle.sg_disk.specs.declared.places.TheConstants.{HEADER_LEN, SLOT_ZERO, SLOT_ONE, SLOT_LEN}
use Rattle.sg_disk.proofs.Fresh.{no_plays}
use Rattle.std.specs.Prelude.{slice_index, ◌≢◌}
use Rattle.sg_contents.specs.Lawful.{IsLawful}
use Rattle.sg_contents.specs.StandsFor.{IsHeader, IsNew, StandsFor, disk_len, seals_of}
use Rattle.sg_contents.specs.declared.places.TheConstants.{SEALS, SEAL_LEN}

pub lawful_fresh : (display epoch room : ℕ) → (1 ≤ display) × (display < 2 ^ 32) → (1 ≤ epoch) × (epoch < 2 ^ 32) → IsRoom room → IsLawful (fresh display epoch room)
lawful_fresh display epoch room display_ok epoch_ok room_ok = record {
  display = display_ok;
  epoch = epoch_ok;
  room = room_ok;
  snapshot = (refl, refl);
  few = omega arith;
  floor = omega arith;
  plays = λ k d lt. absurd (omega (arith, lt));
}

-- a header, and every other gate closed
pub fresh_stands : (display epoch room : ℕ) (c : List ℕ) → IsLawful (fresh display epoch room) → length c ≡ disk_len room → IsHeader display epoch room (range c 0 HEADER_LEN) → IsNew (range c 0 HEADER_LEN) → (IsOpen (range c SLOT_ZERO SLOT_LEN) → ⊥) → (IsOpen (range c SLOT_ONE SLOT_LEN) → ⊥) → ((k : ℕ) → k < JOURNAL_RECORDS → gate (journal_of c) k ≡ 1 → ⊥) → ((k : ℕ) → k < SEALS → slice_index (seals_of room c) (SEAL_LEN * k) ≢ 1) → StandsFor (fresh display epoch room) c
fresh_stands display epoch room c lawful size header new zero one closed shut = record {
  lawful = lawful;
  header = header;
  format = inr record { version = new; size = size; slots = (zero, one); sealed = record { none = refl; shut = shut } };
  journal = (1, omega arith, no_plays epoch (journal_of c) closed);
  files = λ k d lt. absurd (omega (arith, lt));
}
