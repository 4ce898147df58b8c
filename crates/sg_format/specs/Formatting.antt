-- The header that a new store gets.
use Rattle.std.specs.Prelude.{ℕ, List, ◌++◌, codes}
use Rattle.sg_disk.specs.StandsFor.{le32, le64}

-- from byte 4 on: version 2, the mark, display, epoch, the length of the data area, and the second mark
unfoldable pub new_header : ℕ → ℕ → ℕ → List ℕ
new_header display epoch room = le32 2
    ++ (codes "SGNSTORE" ++ (le32 display ++ (le32 epoch ++ (le64 room ++ codes "SGNSTOR2"))))
