-- The name of a manifest's fault is short.
use Rattle.std.proofs.Common.{◌≤◌, length, arith}
use Rattle.sg_manifest.specs.declared.fault.ManifestFault.{ManifestFault}
use Rattle.sg_manifest.specs.declared.fault.ManifestFault.TheVariants.{BadField, Dangling, Double, Limit, Memory, NotCanonical, NotJson, Version}
use Rattle.sg_manifest.specs.Faults.{name_of}

pub name_short : (fault : ManifestFault) → length (name_of fault) ≤ 16
name_short NotJson = omega arith
name_short (BadField list index fault) = omega arith
name_short (Limit name count) = omega arith
name_short (Dangling kind id) = omega arith
name_short (Double kind id) = omega arith
name_short (Version number) = omega arith
name_short (NotCanonical place) = omega arith
name_short Memory = omega arith
