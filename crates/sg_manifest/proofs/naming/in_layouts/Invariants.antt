use Rattle.std.proofs.Common.{◌≡◌, drop}
use Rattle.sg_base.specs.Faults.{first_in}
use Rattle.sg_manifest.specs.Reading.{missing_file}
use Rattle.sg_manifest.proofs.naming.in_layouts.Given as goal

abbrev pub invariant-loop-layout : goal.invariant-loop-layout
invariant-loop-layout l = first_in (missing_file l.files) (drop l.layout-index l.layouts) ≡ first_in (missing_file l.files) l.layouts
