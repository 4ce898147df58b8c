-- The files of contents on a shelf.
use Rattle.std.specs.Prelude.{List, map}
use Rattle.sg_disk.specs.Contents.{StoredFile}
use Rattle.sg_placing.specs.Placing.{placed_of}
use Rattle.sg_pages.specs.Shelves.{FileAt, Shelved}
use Rattle.sg_contents.specs.Lawful.{all_pages}

-- a file, without its bytes
abbrev pub file_at_of : StoredFile → FileAt
file_at_of f = record { file = f.listed; stand = f.stand }

-- the shelf of these files
abbrev pub shelf_of : List StoredFile → Shelved
shelf_of files = record { files = map placed_of files; pages = all_pages files }
