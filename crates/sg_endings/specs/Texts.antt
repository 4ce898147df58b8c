-- The last lines that several commands share.
use Rattle.std.specs.Prelude.{ℕ, List, ◌++◌, codes, decimal}
use Rattle.sg_base.specs.declared.key.Key.{Key}

-- the input has too many bytes
unfoldable pub too_long : List ℕ
too_long = codes "input: too long\n"

-- a line of the input isn't of its form
unfoldable pub bad_line : ℕ → List ℕ
bad_line number = codes "input: line " ++ decimal number ++ codes "\n"

-- the source failed
unfoldable pub read_fault : List ℕ
read_fault = codes "fault: read\n"

-- memory ran out
unfoldable pub memory_fault : List ℕ
memory_fault = codes "fault: memory\n"

-- the keeper failed
unfoldable pub keeper_fault : List ℕ
keeper_fault = codes "fault: keeper\n"

-- the first row by key that may not be kept
unfoldable pub bad_row : Key → List ℕ
bad_row key = codes "rows: bad " ++ decimal key.kind ++ codes " " ++ decimal key.a ++ codes " " ++ decimal key.b ++ codes "\n"
