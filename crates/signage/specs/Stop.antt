-- The ends of a command that have a text of their own: status and line.
use Rattle.std.specs.Prelude.{ℕ, List}
use Rattle.sg_endings.specs.Texts.{too_long, read_fault, memory_fault}
use Rattle.signage.specs.declared.stop.Stop.{Stop}
use Rattle.signage.specs.declared.stop.Stop.TheVariants.{Usage, TooLong, NoManifest, Read, Memory}
use Rattle.signage.specs.Texts.{usage, no_manifest}

abbrev pub status_of : Stop → ℕ
status_of Usage = 2
status_of TooLong = 3
status_of (NoManifest fault) = 3
status_of Read = 4
status_of Memory = 9

abbrev pub text_of : Stop → List ℕ
text_of Usage = usage
text_of TooLong = too_long
text_of (NoManifest fault) = no_manifest fault
text_of Read = read_fault
text_of Memory = memory_fault
