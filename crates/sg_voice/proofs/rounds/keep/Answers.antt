use Rattle.std.proofs.Common.{rules, ◌*◌, nat_lt}
use Rattle.std.proofs.lemmas.Fn.{filter_same}
use Rattle.sg_voice.specs.declared.play.Interrupt.{Interrupt}
use Rattle.sg_voice.proofs.rounds.keep.Goals as goal

pub returns-clause-items : goal.returns-clause-items
returns-clause-items c = filter_same _ (λ (i : Interrupt). nat_lt (c.args.round * i.seconds) i.share) _ (λ x b f' k. search rules) _ _ c.retain.ensures.filtered
