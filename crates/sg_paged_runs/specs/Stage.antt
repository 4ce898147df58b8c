-- What a caller sees of a store and the disk that it was opened on.
use Rattle.std.specs.Prelude.{◌≡◌, ℕ, List, Option}
use Rattle.sg_disk.specs.View.{View}
use Rattle.sg_disk.specs.Contents.{StoredFile, Contents}
use Rattle.sg_contents.specs.StandsFor.{StandsFor}
use Rattle.sg_store_state.specs.State.{State}
use Rattle.sg_store_state.specs.Ready.{sealed_files, half_file, Knows, HasStaged, IsReady}

-- the contents for which the disk stands, the files that are staged and sealed beside them, and the half staged one with the
-- bytes that have come of it
pub record Stage : Type 0 where
  pub contents : Contents
  pub sealed : List StoredFile
  pub half : Option StoredFile

-- the store is ready on the disk with the contents of the stage, and has staged what the stage has
pub record IsAt (v : View) (s : State) (stage : Stage) : Type 0 where
  pub ready : IsReady v s stage.contents
  pub sealed : sealed_files s v.bytes ≡ stage.sealed
  pub half : half_file s v.bytes ≡ stage.half

-- the same of the bytes that a read gives, for the calls that touch no disk
pub record Shows (s : State) (c : List ℕ) (stage : Stage) : Type 0 where
  pub stands : StandsFor stage.contents c
  pub knows : Knows s stage.contents c
  pub staged : HasStaged s c
  pub sealed : sealed_files s c ≡ stage.sealed
  pub half : half_file s c ≡ stage.half
