use Rattle.std.proofs.Common.{◌≡◌, drop}
use Rattle.sg_base.specs.Faults.{first_in}
use Rattle.sg_base.specs.declared.kind.Kind.TheVariants.{Layout}
use Rattle.sg_manifest.specs.Reading.{missing}
use Rattle.sg_manifest.proofs.naming.in_campaign.Given as goal

abbrev pub invariant-loop-layout : goal.invariant-loop-layout
invariant-loop-layout l = first_in (λ x. missing Layout l.layouts x.0) (drop l.layout-index l.layout-items) ≡ first_in (λ x. missing Layout l.layouts x.0) l.layout-items
