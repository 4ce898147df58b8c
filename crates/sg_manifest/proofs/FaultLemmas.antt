-- A row's fault by its place, and what is read behind another reading.
use Rattle.std.proofs.Common.{◌≡◌, ℕ, true, false, Result, Err, refl}
use Rattle.sg_rows.specs.declared.fault.RowFault.{RowFault}
use Rattle.sg_rows.specs.declared.fault.RowFault.TheVariants as row
use Rattle.sg_rows.specs.Faults.{◌>>=◌, has_cause as row_has_cause}
use Rattle.sg_manifest.specs.declared.fault.ManifestFault.{ManifestFault}
use Rattle.sg_manifest.specs.Faults.{fault_in, in_entry, has_cause, nests_memory}

pub record Tells {A : Type 0} (e : ManifestFault) (r : Result A ManifestFault) : Type 0 where
  pub is : has_cause e ≡ true → r ≡ Err e
  pub own : nests_memory e ≡ false

-- a row's fault at its place
pub entry_exit : {A : Type 0} (list index : ℕ) (f : RowFault) (r : Result A RowFault) → (row_has_cause f ≡ true → r ≡ Err f) → Tells (fault_in list index f) (in_entry list index r)
entry_exit list index row.Memory r h = record { is = λ e. absurd (cc); own = refl }
entry_exit list index f r h = record { is = λ e. rw (h refl) refl; own = refl }

-- behind a reading that failed nothing is read
pub behind : {A B : Type 0} (e : ManifestFault) (r : Result A ManifestFault) (k : A → Result B ManifestFault) → Tells e r → Tells e (r >>= k)
behind e r k h = record { is = λ c. rw (h.is c) refl; own = h.own }
