use Rattle.std.proofs.Common.{rules}
use Rattle.json.specs.Print.{escape_byte}
use Rattle.sg_rows.proofs.campaign.CampaignManifestRow.put.Goals as goal

pub returns : goal.returns
unfolding escape_byte
returns g c = let list = simp c.as_slice.ensures at c.in_ok-put_list.ensures in search rules
