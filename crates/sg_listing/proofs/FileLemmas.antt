-- The files of a valid snapshot are as a store asks them to be.
use Rattle.std.proofs.Common.{◌≡◌, ℕ, ◌<◌, ◌≤◌, Bool, true, false, List, length, map, get_or, sym, subst, arith}
use Rattle.std.specs.List.{All, AllPairs, AllByRecursion}
use Rattle.std.specs.List.Sorted.{IsStrictlyIncreasing}
use Rattle.std.proofs.lemmas.List.{length-map, get_or-map}
use Rattle.std.proofs.lemmas.List.Kept.{AllPairs-from_increasing}
use Rattle.sg_base.specs.declared.file.Listed.{Listed}
use Rattle.sg_base.proofs.RisingLemmas.{all_at}
use Rattle.sg_rows.specs.Rows.{IsListed}
use Rattle.sg_intake.specs.Listings.{IsListing}
use Rattle.sg_manifest.specs.Snapshot.{SnapshotRow, IsSnapshot}
use Rattle.sg_manifest.specs.Text.{IsManifest, text}

ascending : (key : Listed → ℕ) (files : List Listed) → IsStrictlyIncreasing (map key files) → AllPairs (λ (f g : Listed). key f < key g) files
ascending key files rising = λ i j d lt within.
    let pairs = AllPairs-from_increasing (map key files) rising i j (key d) lt (subst (λ (n : ℕ). j < n) (sym (length-map files key)) within) in
    subst (λ (n : ℕ). n < key (get_or files j d)) (get_or-map key files i d (key d) (omega (arith, lt, within)))
    (subst (λ (n : ℕ). get_or (map key files) i (key d) < n) (get_or-map key files j d (key d) within) pairs)

pub listing_of : (s : SnapshotRow) → IsSnapshot s → IsListing s.files
listing_of s valid = record {
  are = record {
    some = λ k d lt. (all_at IsListed s.files k d lt valid.rows.files).some;
    ascending = ascending (λ f. f.media.0) s.files valid.order.files;
  };
  ids = λ k d lt. let id = (all_at IsListed s.files k d lt valid.rows.files).media.some in omega arith;
  short = λ k d lt. (all_at IsListed s.files k d lt valid.rows.files).few;
  few = valid.few.files;
}

-- a text of a manifest has a byte
text_some : (s : SnapshotRow) → 1 ≤ length (text s)
unfolding text
text_some s = omega arith

pub manifest_some : (bytes : List ℕ) (s : SnapshotRow) → IsManifest bytes s → 1 ≤ length bytes
manifest_some bytes s manifest = subst (λ (b : List ℕ). 1 ≤ length b) (sym manifest.is) (text_some s)

-- one that isn't held
pub not_all : (holds : Listed → Bool) (files : List Listed) (i : ℕ) (d : Listed) → i < length files → holds (get_or files i d) ≡ false
    → All (λ (f : Listed). holds f ≡ true) files → ⊥
not_all holds files i d lt not all = let held = all i d lt in absurd (cc)
