use Rattle.std.proofs.Common.{◌==◌, ◌^◌, ◌<◌, List, subst, ap, sym, ◌∙◌, sum, map, filter}
use Rattle.sg_voice.specs.declared.play.Slot.{Slot}
use Rattle.sg_voice.specs.Hour.{event_seconds}
use Rattle.sg_voice.proofs.SecondLemmas.{sum_is, seconds_fit, shown_all}
use Rattle.sg_voice.proofs.hour.seconds_of.Goals as goal

pub sum_of-requires : goal.sum_of-requires
sum_of-requires c =
    subst (λ (ss : List Slot). sum (map (λ (s : Slot). s.seconds) (filter (λ s. s.event == c.args.event) ss)) < 2 ^ 32)
    (sym (c.as_slice.ensures.value ∙ c.from.view_is)) (seconds_fit c.args.event c.args.from.now c.requires.built)

pub returns-clause-value : goal.returns-clause-value
returns-clause-value c =
    c.sum_of.ensures ∙ (sum_is c.args.event c.as_slice.result.now ∙ ap (λ (ss : List Slot). event_seconds c.args.event ss) (c.as_slice.ensures.value ∙ c.from.view_is))

pub returns-clause-shown : goal.returns-clause-shown
returns-clause-shown c =
    c.sum_of.ensures ∙ (sum_is c.args.event c.as_slice.result.now
    ∙ (ap (λ (ss : List Slot). event_seconds c.args.event ss) (c.as_slice.ensures.value ∙ c.from.view_is)
    ∙ shown_all c.args.event c.args.from.now c.requires.built))
