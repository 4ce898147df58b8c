use Rattle.sg_records.proofs.ReplyLemmas.{kind_is_named}
use Rattle.sg_records.proofs.members.kind_named.Goals as goal

pub returns : goal.returns
returns c = kind_is_named c.args.name.now c.of_name.result c.of_name.ensures.found c.of_name.ensures.only
