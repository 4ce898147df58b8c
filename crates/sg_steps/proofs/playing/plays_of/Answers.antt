use Rattle.std.proofs.Common.{◌∙◌, ◌≤◌, ap, sym}
use Rattle.std.specs.Option.{option_copied}
use Rattle.sg_base.specs.Ranks.{rank_of}
use Rattle.sg_steps.proofs.EpochLemmas.{all_found}
use Rattle.sg_steps.proofs.playing.plays_of.Goals as goal

pub returns-in-Some-clause-few : goal.returns-in-Some-clause-few
returns-in-Some-clause-few c =
    all_found (λ e. e.plays ≤ c.args.limit) (rank_of c.rank.result) c.in-Some.known.now c.args.epochs.now.items c.requires
    (sym c.find.ensures.element ∙ ap option_copied c.in-Some.is)
