-- What is listed is what is played, and the hour that is built of it is that of all plays.
use Rattle.std.proofs.Common.{◌++◌, List, None, ap, sym, subst, ◌∙◌, arith}
use Rattle.std.specs.List.{AllByRecursion}
use Rattle.std.proofs.lemmas.Bool.Decides.{nat_tests}
use Rattle.sg_voice.specs.declared.play.Play.{Play}
use Rattle.sg_voice.specs.declared.play.Interrupt.{Interrupt}
use Rattle.sg_voice.specs.Hour.{IsPlay, IsInterrupt, slots_of}
use Rattle.sg_layer.specs.Shown.{LayerValue, entries_of, plays_at, interrupts_at}
use Rattle.sg_layer.specs.Segment.{IsSoonest}
use Rattle.sg_layer.proofs.FrontLemmas.{front_all, front_slots}
use Rattle.sg_layer.proofs.SoundLemmas.{plays_sound, interrupts_sound, listed_plays, listed_interrupts}
use Rattle.sg_layer.proofs.SegmentLemmas.{soonest_both, soonest_later}
use Rattle.sg_layer.proofs.layer.fill.Goals as goal

pub build_loop-requires-clause-normal : goal.build_loop-requires-clause-normal
build_loop-requires-clause-normal g c =
    let l : LayerValue = record { normal = c.args.normal.now; interrupts = c.args.interrupts.now; default = c.args.default; kept = None } in
    let front = listed_plays l c.args.t c.as_slice-2.result.now c.list_plays.new.plays.items (c.as_slice-2.ensures.value ∙ c.ask-end-2.ensures.marks) c.list_plays.ensures.items in
    subst (λ (ps : List Play). AllByRecursion IsPlay ps) (sym c.as_slice-then-not-is_empty.ensures.value) (front_all IsPlay c.list_plays.new.plays.items (plays_at l c.args.t) front (plays_sound l c.args.t c.requires.layer))

pub build_loop-requires-clause-interrupts : goal.build_loop-requires-clause-interrupts
build_loop-requires-clause-interrupts g c =
    let l : LayerValue = record { normal = c.args.normal.now; interrupts = c.args.interrupts.now; default = c.args.default; kept = None } in
    let listed = listed_interrupts l c.args.t c.as_slice.result.now c.list_interrupts.new.interrupts.items (c.as_slice.ensures.value ∙ c.ask-end.ensures.marks) c.list_interrupts.ensures.items in
    subst (λ (is : List Interrupt). AllByRecursion IsInterrupt is) (sym (c.as_slice-then-not-is_empty-2.ensures.value ∙ listed)) (interrupts_sound l c.args.t c.requires.layer)

pub returns-then-not-is_empty-clause-holds : goal.returns-then-not-is_empty-clause-holds
returns-then-not-is_empty-clause-holds g c =
    let l : LayerValue = record { normal = c.args.normal.now; interrupts = c.args.interrupts.now; default = c.args.default; kept = None } in
    let t = c.args.t in
    let end = c.ask-end-2.result in
    let front = listed_plays l t c.as_slice-2.result.now c.list_plays.new.plays.items (c.as_slice-2.ensures.value ∙ c.ask-end-2.ensures.marks) c.list_plays.ensures.items in
    let listed = listed_interrupts l t c.as_slice.result.now c.list_interrupts.new.interrupts.items (c.as_slice.ensures.value ∙ c.ask-end.ensures.marks) c.list_interrupts.ensures.items in
    let built = c.build_loop.ensures.slots ∙ (ap (λ (ps : List Play). slots_of ps c.as_slice-then-not-is_empty-2.result.now) c.as_slice-then-not-is_empty.ensures.value ∙ ap (λ (is : List Interrupt). slots_of c.list_plays.new.plays.items is) (c.as_slice-then-not-is_empty-2.ensures.value ∙ listed)) in
    record {
      soonest = subst (λ z. IsSoonest z (entries_of l) t end) c.hour_end.ensures.value (soonest_both c.hour_end.result c.ask-end.result end t l.interrupts l.normal c.ask-end.ensures.soonest c.ask-end-2.ensures.soonest);
      plays = front;
      hour = λ some. built ∙ front_slots c.list_plays.new.plays.items (plays_at l t) (interrupts_at l t) front;
    }

pub returns-else-not-is_empty-clause-holds : goal.returns-else-not-is_empty-clause-holds
returns-else-not-is_empty-clause-holds g c =
    let l : LayerValue = record { normal = c.args.normal.now; interrupts = c.args.interrupts.now; default = c.args.default; kept = None } in
    let t = c.args.t in
    let end = c.ask-end-2.result in
    let front = listed_plays l t c.as_slice-2.result.now c.list_plays.new.plays.items (c.as_slice-2.ensures.value ∙ c.ask-end-2.ensures.marks) c.list_plays.ensures.items in
    record {
      soonest = subst (λ z. IsSoonest z (entries_of l) t end) c.hour_end.ensures.value (soonest_both c.hour_end.result c.ask-end.result end t l.interrupts l.normal c.ask-end.ensures.soonest c.ask-end-2.ensures.soonest);
      plays = front;
      hour = λ some. absurd (grind (arith, nat_tests, c.is_empty.ensures, c.if-not-is_empty.false, some));
    }

pub returns-then-not-is_empty-clause-later : goal.returns-then-not-is_empty-clause-later
returns-then-not-is_empty-clause-later g c =
    soonest_later c.hour_end.result (c.args.interrupts.now ++ c.args.normal.now) c.args.t c.ask-end-2.result (soonest_both c.hour_end.result c.ask-end.result c.ask-end-2.result c.args.t c.args.interrupts.now c.args.normal.now c.ask-end.ensures.soonest c.ask-end-2.ensures.soonest) c.hour_end.ensures.later

pub returns-else-not-is_empty-clause-later : goal.returns-else-not-is_empty-clause-later
returns-else-not-is_empty-clause-later g c =
    soonest_later c.hour_end.result (c.args.interrupts.now ++ c.args.normal.now) c.args.t c.ask-end-2.result (soonest_both c.hour_end.result c.ask-end.result c.ask-end-2.result c.args.t c.args.interrupts.now c.args.normal.now c.ask-end.ensures.soonest c.ask-end-2.ensures.soonest) c.hour_end.ensures.later
