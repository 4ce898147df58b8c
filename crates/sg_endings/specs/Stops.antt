-- The status and the line of a command that ends without having done its work.
use Rattle.std.specs.Prelude.{ℕ, List}
use Rattle.sg_endings.specs.declared.stop.Stop.{Stop}
use Rattle.sg_endings.specs.declared.stop.Stop.TheVariants.{TooLong, Line, Read, Memory, Keeper, BadRow}
use Rattle.sg_endings.specs.Texts.{too_long, bad_line, read_fault, memory_fault, keeper_fault, bad_row}

abbrev pub status_of : Stop → ℕ
status_of TooLong = 3
status_of (Line number) = 3
status_of Read = 4
status_of Memory = 9
status_of Keeper = 12
status_of (BadRow key) = 15

abbrev pub text_of : Stop → List ℕ
text_of TooLong = too_long
text_of (Line number) = bad_line number
text_of Read = read_fault
text_of Memory = memory_fault
text_of Keeper = keeper_fault
text_of (BadRow key) = bad_row key
