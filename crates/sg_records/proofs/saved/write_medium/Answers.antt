use Rattle.std.proofs.Common.{ap}
use Rattle.serde_json.specs.Written.{has_float}
use Rattle.sg_records.proofs.saved.write_medium.Goals as goal

pub write-requires : goal.write-requires
write-requires c = ap has_float c.in_ok-value.ensures
