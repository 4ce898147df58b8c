use Rattle.std.proofs.Common.{◌≡◌, drop}
use Rattle.sg_base.specs.Faults.{first_in}
use Rattle.sg_manifest.specs.Reading.{missing_media}
use Rattle.sg_manifest.proofs.naming.in_layout.Given as goal

abbrev pub invariant-loop-region : goal.invariant-loop-region
invariant-loop-region l = first_in (missing_media l.files) (drop l.region-index l.region-items) ≡ first_in (missing_media l.files) l.region-items
