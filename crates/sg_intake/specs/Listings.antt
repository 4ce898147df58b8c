-- The files that a manifest may list.
use Rattle.std.specs.Prelude.{ℕ, ◌≤◌, List, All, length}
use Rattle.sg_base.specs.declared.file.Listed.{Listed}
use Rattle.sg_base.specs.declared.limits.TheConstants.{MANIFEST_FILES, MAX_FILE_LEN}
use Rattle.sg_missing.specs.Missing.{AreFiles}

-- by ascending id, of a byte at least, each with an id of one at least and no longer than a file may be, and no
-- more than there may be
pub record IsListing (files : List Listed) : Type 0 where
  pub are : AreFiles files
  pub ids : All (λ (f : Listed). 1 ≤ f.media.0) files
  pub short : All (λ (f : Listed). f.length ≤ MAX_FILE_LEN) files
  pub few : length files ≤ MANIFEST_FILES
