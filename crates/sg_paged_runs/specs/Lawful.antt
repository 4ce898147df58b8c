-- What a store asks of each call.
use Rattle.std.specs.Prelude.{◌≡◌, ◌+◌, ◌%◌, ◌<◌, ◌≤◌, List, length, All, AllPairs, IsSomeAnd, None, true, false}
use Rattle.sg_base.specs.declared.file.Listed.{Listed}
use Rattle.sg_base.specs.declared.limits.TheConstants.{MANIFEST_FILES, MANIFEST_TEXT, MAX_FILE_LEN}
use Rattle.sg_disk.specs.declared.places.TheConstants.{PAGE}
use Rattle.sg_store_state.specs.State.{State, is_held}
use Rattle.sg_paged_runs.specs.declared.call.Call.{Call}
use Rattle.sg_paged_runs.specs.declared.call.Call.TheVariants.{Begin, Bytes, Seal, Keep, Switch, Open}

-- the files of a switch: at most 512, by strictly ascending id, each held
pub record AreHeld (s : State) (files : List Listed) : Type 0 where
  pub few : length files ≤ MANIFEST_FILES
  pub ascending : AllPairs (λ f g. f.media.0 < g.media.0) files
  pub held : All (λ f. is_held s f ≡ true) files

-- a file that may be begun: within its limits, not held, with nothing half staged and room on the shelf
pub record MayBegin (s : State) (file : Listed) : Type 0 where
  pub media : 1 ≤ file.media.0
  pub some : 1 ≤ file.length
  pub long : file.length ≤ MAX_FILE_LEN
  pub new : is_held s file ≡ false
  pub idle : s.staged.half ≡ None
  pub few : length s.staged.sealed.files < MANIFEST_FILES

abbrev pub IsLawful : State → Call → Type 0
IsLawful s (Begin file) = MayBegin s file
-- so many bytes more belong to the half staged file, and to the page that the next of them goes to
IsLawful s (Bytes bytes) = IsSomeAnd s.staged.half
    (λ h. (h.count + length bytes ≤ h.file.length) × (h.count % PAGE + length bytes ≤ PAGE))
-- all its bytes have come
IsLawful s Seal = IsSomeAnd s.staged.half (λ h. h.count ≡ h.file.length)
IsLawful s (Keep files) = Unit {0}
IsLawful s (Switch manifest files) = AreHeld s files × (1 ≤ length manifest)
    × (length manifest ≤ MANIFEST_TEXT)
IsLawful s Open = Unit {0}
