use Rattle.std.proofs.Common.{◌≡◌, ℕ, ◌-◌, ◌<◌, List, subst, ap, sym, ◌∙◌, arith}
use Rattle.std.specs.List.{AllByRecursion}
use Rattle.sg_voice.specs.declared.play.Play.{Play}
use Rattle.sg_voice.specs.Hour.{IsPlay, total, interrupt_plays, normal_count, mixed_plays, placed}
use Rattle.sg_voice.proofs.SoundLemmas.{all_within, interrupt_plays_sound}
use Rattle.sg_voice.proofs.WithinLemmas.{within_all}
use Rattle.sg_voice.proofs.MixLemmas.{placed_within}
use Rattle.sg_voice.proofs.TileLemmas.{plays_full, plays_mixed}
use Rattle.sg_voice.proofs.hour.build.Goals as goal

abbrev AllPlays : List Play → Type 0
AllPlays ps = AllByRecursion IsPlay ps

pub lay-requires-clause-each : goal.lay-requires-clause-each
lay-requires-clause-each c =
    subst AllPlays (sym (c.as_slice.ensures.value ∙ c.gather-room.ensures.items))
    (all_within IsPlay 3600 (interrupt_plays c.args.interrupts.now) (interrupt_plays_sound c.args.interrupts.now c.requires.interrupts))

pub returns-then-room-eq0-clause-items : goal.returns-then-room-eq0-clause-items
returns-then-room-eq0-clause-items c =
    let bs = interrupt_plays c.args.interrupts.now in
    let full : 3600 - total bs ≡ 0 = omega (arith, c.gather-room.ensures.left, c.if-room-eq0.true) in
    let put = λ (ps : List Play). placed 0 ps in
    c.lay.ensures.items
    ∙ (ap put (c.as_slice.ensures.value ∙ c.gather-room.ensures.items)
    ∙ (placed_within 0 bs ∙ ap put (sym (plays_full c.args.normal.now bs full))))

pub mix-requires-clause-plays : goal.mix-requires-clause-plays
mix-requires-clause-plays c =
    subst AllPlays (sym (c.as_slice-2.ensures.value ∙ c.gather-room.ensures.items))
    (all_within IsPlay 3600 (interrupt_plays c.args.interrupts.now) (interrupt_plays_sound c.args.interrupts.now c.requires.interrupts))

pub returns-clause-items : goal.returns-clause-items
returns-clause-items c =
    let ns = c.args.normal.now in
    let bs = interrupt_plays c.args.interrupts.now in
    let room : 0 < 3600 - total bs = omega (arith, c.gather-room.ensures.left, c.if-room-eq0.false) in
    let kept = c.as_slice-2.ensures.value ∙ (c.gather-room.ensures.items ∙ within_all 3600 bs (omega arith)) in
    let count = c.fill-n.ensures.value ∙ ap (λ (r : ℕ). normal_count ns r) c.gather-room.ensures.left in
    c.mix.ensures.items
    ∙ (ap (λ (ps : List Play). placed 0 (mixed_plays c.fill-n.result ns ps)) kept
    ∙ (ap (λ (n : ℕ). placed 0 (mixed_plays n ns bs)) count
    ∙ ap (λ (ps : List Play). placed 0 ps) (sym (plays_mixed ns bs room))))
