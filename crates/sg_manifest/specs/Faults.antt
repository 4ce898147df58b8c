-- What a function that reads a manifest answers.
use Rattle.std.specs.Prelude.{◌≡◌, ℕ, List, codes, Bool, true, false, Result, Ok, Err}
use Rattle.sg_rows.specs.declared.fault.RowFault.{RowFault}
use Rattle.sg_rows.specs.declared.fault.RowFault.TheVariants as row
use Rattle.sg_manifest.specs.declared.fault.ManifestFault.{ManifestFault}
use Rattle.sg_manifest.specs.declared.fault.ManifestFault.TheVariants.{NotJson, BadField, Limit, Dangling, Double, Version, NotCanonical, Memory}

-- a row's fault by its list and index; want of memory is the manifest's own
abbrev pub fault_in : ℕ → ℕ → RowFault → ManifestFault
fault_in list index row.Memory = Memory
fault_in list index fault = BadField list index fault

-- what a row's reading gives, by its list and index
abbrev pub in_entry : {A : Type 0} → ℕ → ℕ → Result A RowFault → Result A ManifestFault
in_entry list index (Ok x) = Ok x
in_entry list index (Err fault) = Err (BadField list index fault)

-- a fault of the bytes, and no want of memory
abbrev pub has_cause : ManifestFault → Bool
has_cause Memory = false
has_cause _ = true

-- want of memory inside a row's fault
abbrev pub nests_memory : ManifestFault → Bool
nests_memory (BadField list index row.Memory) = true
nests_memory _ = false

-- the answer is what is read, under f, unless memory ran out: that is the one free answer, and it is never a row's fault
abbrev pub Gives : {X A : Type 0} → (X → A) → Result X ManifestFault → Result A ManifestFault → Type 0
Gives f (Ok x) reading = reading ≡ Ok (f x)
Gives f (Err e) reading = (has_cause e ≡ true → reading ≡ Err e) × (nests_memory e ≡ false)

-- a fault's name, without its fields
abbrev pub name_of : ManifestFault → List ℕ
name_of NotJson = codes "NotJson"
name_of (BadField list index fault) = codes "BadField"
name_of (Limit name count) = codes "Limit"
name_of (Dangling kind id) = codes "Dangling"
name_of (Double kind id) = codes "Double"
name_of (Version number) = codes "Version"
name_of (NotCanonical place) = codes "NotCanonical"
name_of Memory = codes "Memory"
