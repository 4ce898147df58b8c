use Rattle.std.proofs.Common.{◌∙◌, ap, sym}
use Rattle.std.specs.Option.{option_copied}
use Rattle.sg_steps.proofs.EpochLemmas.{last_found, none_found}
use Rattle.sg_steps.proofs.epochs.last_epoch.Goals as goal

pub returns-in-Some : goal.returns-in-Some
returns-in-Some c =
    last_found c.args.display c.args.epochs.now.items c.epochs_of.result.now c.in-Some.last.now c.epochs_of.ensures.value c.epochs_of.ensures.rising
    (sym c.last.ensures.value ∙ ap option_copied c.in-Some.is)

pub returns-in-None : goal.returns-in-None
returns-in-None c =
    none_found c.args.display c.args.epochs.now.items c.epochs_of.result.now c.epochs_of.ensures.value (sym c.last.ensures.value ∙ ap option_copied c.in-None.is)
