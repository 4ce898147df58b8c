-- What calls make of a stage.
use Rattle.std.specs.Prelude.{◌≡◌, ℕ, ◌+◌, ◌/◌, ◌≤◌, Bool, List, [], ◌∷◌, ◌++◌, length, take, map, filter, find, Option, None, Some, IsSomeAnd, if◌then◌else◌}
use Rattle.std.specs.List.{list_any}
use Rattle.md5.specs.Md5.{md5}
use Rattle.sg_base.specs.declared.file.Listed.{Listed}
use Rattle.sg_disk.specs.Contents.{StoredFile, all_taken, switched}
use Rattle.sg_disk.specs.Contents.{Pages}
use Rattle.sg_disk.specs.declared.places.TheConstants.{PAGE}
use Rattle.sg_placing.specs.Placing.{same_file}
use Rattle.sg_pages.specs.Pages.{needed, free_pages}
use Rattle.sg_contents.specs.StandsFor.{StandsFor}
use Rattle.sg_paged_runs.specs.Stage.{Stage}
use Rattle.sg_paged_runs.specs.declared.call.Call.{Call}
use Rattle.sg_paged_runs.specs.declared.call.Call.TheVariants.{Begin, Bytes, Seal, Keep, Switch, Open}

-- the files that are whole: those of the snapshot, and those that are sealed
abbrev pub whole_of : Stage → List StoredFile
whole_of stage = stage.contents.files ++ stage.sealed

-- a file in pages, of which no byte has come
abbrev pub begun_in : List ℕ → Listed → StoredFile
begun_in pages file = record { listed = file; stand = Pages pages; bytes = [] }

-- the pages that no whole file touches, lowest first
abbrev pub free_of : Stage → List ℕ
free_of stage = free_pages (all_taken (whole_of stage)) (stage.contents.room / PAGE)

-- whether a file is one of the listed ones: it has the id, the length and the MD5 of one of them
abbrev pub is_among : List Listed → StoredFile → Bool
is_among listed f = list_any (λ l. same_file l f.listed) listed

-- a half staged file, if it is one of the listed ones
abbrev pub kept : List Listed → Option StoredFile → Option StoredFile
kept listed None = None
kept listed (Some f) = if is_among listed f then Some f else None

-- the first of these files that is the listed one
abbrev pub found_in : List StoredFile → Listed → Option StoredFile
found_in files listed = find (λ f. same_file f.listed listed) files

-- A call takes a stage to the next one
abbrev pub Step : Stage → Call → Stage → Type 0
-- Begin: an empty file stands half staged in the lowest free pages, as many as it needs
Step old (Begin file) new = (needed file.length ≤ length (free_of old)) × (old.half ≡ None)
    × (new ≡ record old { half = Some (begun_in (take (needed file.length) (free_of old)) file) })
-- Bytes: they go behind those that have come
Step old (Bytes bytes) new = IsSomeAnd old.half
    (λ f. (length f.bytes + length bytes ≤ f.listed.length)
    × (new ≡ record old { half = Some (record f { bytes = f.bytes ++ bytes }) }))
-- Seal: the half staged file has its length and its MD5, and goes behind the sealed ones
Step old Seal new = IsSomeAnd old.half (λ f. (length f.bytes ≡ f.listed.length)
    × (md5 f.bytes ≡ f.listed.md5)
    × (new ≡ record old { sealed = old.sealed ++ f ∷ []; half = None }))
-- Keep: of the staged files those stay that are listed
Step old (Keep listed) new = new
    ≡ record old { sealed = filter (is_among listed) old.sealed; half = kept listed old.half }
-- Switch: the contents have the manifest and the listed files, each of which was whole, and nothing is staged
Step old (Switch manifest listed) new = (files : List StoredFile)
    × (map (found_in (whole_of old)) listed ≡ map Some files)
    × (new ≡ record { contents = switched old.contents manifest files; sealed = []; half = None })
-- Open: nothing is staged
Step old Open new = new ≡ record old { sealed = []; half = None }

-- the calls take a stage to another one, each a step
abbrev pub Runs : Stage → List Call → Stage → Type 0
Runs start [] end = end ≡ start
Runs start (call ∷ calls) end = (mid : Stage) × Step start call mid × Runs mid calls end

-- The bytes of a disk stand for the contents after the first n of these calls: in their order, none left out and none in part
pub record StandsForSome (start : Stage) (calls : List Call) (c : List ℕ) : Type 0 where
  pub n : ℕ
  pub stage : Stage
  pub within : n ≤ length calls
  pub runs : Runs start (take n calls) stage
  pub stands : StandsFor stage.contents c
