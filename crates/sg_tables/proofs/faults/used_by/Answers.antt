use Rattle.std.proofs.Common.{◌∙◌, ap}
use Rattle.sg_base.specs.Faults.{first_in}
use Rattle.sg_tables.specs.Refusals.{use_fault}
use Rattle.sg_tables.proofs.CountLemmas.{first_of_kind}
use Rattle.sg_tables.proofs.faults.used_by.Goals as goal

pub returns : goal.returns
returns c =
    c.first_user.ensures
    ∙ (ap (first_in (use_fault c.args.id c.args.kind)) c.of_kind.ensures ∙ first_of_kind c.args.id c.args.kind c.args.entries.now.items)
