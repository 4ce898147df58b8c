use Rattle.std.proofs.Common.{◌≡◌, drop}
use Rattle.sg_base.specs.Faults.{first_in}
use Rattle.sg_base.specs.declared.kind.Kind.TheVariants.{Media}
use Rattle.sg_manifest.specs.Reading.{missing}
use Rattle.sg_manifest.proofs.naming.in_region.Given as goal

abbrev pub invariant-loop-item : goal.invariant-loop-item
invariant-loop-item l = first_in (λ i. missing Media l.files i.media.0) (drop l.item-index l.item-items) ≡ first_in (λ i. missing Media l.files i.media.0) l.item-items
