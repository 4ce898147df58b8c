use Rattle.std.proofs.Common.{◌≡◌, drop}
use Rattle.sg_base.specs.Faults.{first_in}
use Rattle.sg_manifest.specs.Reading.{missing_layout}
use Rattle.sg_manifest.proofs.naming.in_campaigns.Given as goal

abbrev pub invariant-loop-campaign : goal.invariant-loop-campaign
invariant-loop-campaign l = first_in (missing_layout l.layouts) (drop l.campaign-index l.campaigns) ≡ first_in (missing_layout l.layouts) l.campaigns
