use Rattle.std.proofs.Common.{◌∙◌, ap}
use Rattle.serde_json.specs.Written.{has_float}
use Rattle.sg_records.proofs.SavedLemmas.{client_no_float}
use Rattle.sg_records.proofs.client.write_client.Goals as goal

pub write-requires : goal.write-requires
write-requires c = ap has_float c.in_ok-value.ensures ∙ client_no_float c.args.client.now
