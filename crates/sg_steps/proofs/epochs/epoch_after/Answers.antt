use Rattle.std.proofs.Common.{◌∙◌, ap, sym}
use Rattle.std.specs.Prelude.{option_map}
use Rattle.std.specs.List.{slice_get}
use Rattle.std.specs.Option.{option_copied}
use Rattle.sg_steps.specs.Epochs.{is_after, triple_of}
use Rattle.sg_tables.proofs.BetweenLemmas.{first_passes}
use Rattle.sg_steps.proofs.epochs.epoch_after.Goals as goal

pub returns-in-Some : goal.returns-in-Some
returns-in-Some c =
    let first = c.first.ensures.value ∙ (ap (λ l. slice_get l 0) c.epochs_after.ensures ∙ first_passes (is_after c.args.display c.args.epoch) c.args.epochs.now.items) in
    ap (option_map triple_of) (sym (ap option_copied c.in-Some.is) ∙ first)

pub returns-in-None : goal.returns-in-None
returns-in-None c =
    let first = c.first.ensures.value ∙ (ap (λ l. slice_get l 0) c.epochs_after.ensures ∙ first_passes (is_after c.args.display c.args.epoch) c.args.epochs.now.items) in
    ap (option_map triple_of) (sym (ap option_copied c.in-None.is) ∙ first)
