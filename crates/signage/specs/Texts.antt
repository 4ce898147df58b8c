-- The texts with which commands end, beside those that several share.
use Rattle.std.specs.Prelude.{ℕ, List, ◌++◌, codes}
use Rattle.sg_manifest.specs.declared.fault.ManifestFault.{ManifestFault}
use Rattle.sg_manifest.specs.Faults.{name_of}

-- status 2: the words aren't in the command table
unfoldable pub usage : List ℕ
usage = codes "usage: signage preview|format|play|serve|edit|report|rehearse\n"

-- status 3: the input is no manifest
unfoldable pub no_manifest : ManifestFault → List ℕ
no_manifest fault = codes "input: manifest " ++ (name_of fault ++ codes "\n")
