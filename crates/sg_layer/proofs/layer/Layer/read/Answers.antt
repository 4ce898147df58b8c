-- What is held for the second of the segment is what the layer shows.
use Rattle.std.proofs.Common.{◌≡◌, true, sym, subst, ◌∙◌, ap, arith}
use Rattle.std.proofs.lemmas.Bool.Decides.{nat_tests}
use Rattle.sg_layer.specs.Shown.{LayerValue, slot_at, IsSlotAt}
use Rattle.sg_layer.specs.Segment.{is_inside}
use Rattle.sg_layer.proofs.SegmentLemmas.{held_at, shown_none, shown_some, hour_tiles, shown_closed}
use Rattle.sg_layer.proofs.layer.Layer.read.Goals as goal

pub returns-then-is_empty-clause-value : goal.returns-then-is_empty-clause-value
returns-then-is_empty-clause-value c =
    let l : LayerValue = record { normal = c.self.inside.normal.items; interrupts = c.self.inside.interrupts.items; default = c.self.inside.default; kept = c.self.inside.kept } in
    let held = held_at l c.args.t c.self.inside.room c.self.invariant (subst (λ (v : LayerValue). is_inside v.kept c.args.t ≡ true) (sym c.self.view_is) c.requires) in
    shown_none l c.args.t c.self.inside.room held (grind (arith, nat_tests, c.is_empty.ensures, c.if-is_empty.true)) ∙ ap (λ (v : LayerValue). slot_at v c.args.t) c.self.view_is

pub slot_at-requires-clause-built : goal.slot_at-requires-clause-built
slot_at-requires-clause-built c =
    let l : LayerValue = record { normal = c.self.inside.normal.items; interrupts = c.self.inside.interrupts.items; default = c.self.inside.default; kept = c.self.inside.kept } in
    let held = held_at l c.args.t c.self.inside.room c.self.invariant (subst (λ (v : LayerValue). is_inside v.kept c.args.t ≡ true) (sym c.self.view_is) c.requires) in
    hour_tiles l c.args.t c.self.inside.room c.self.invariant.layer held (grind (arith, nat_tests, c.is_empty.ensures, c.if-is_empty.false))

pub returns-clause-value : goal.returns-clause-value
returns-clause-value c =
    let l : LayerValue = record { normal = c.self.inside.normal.items; interrupts = c.self.inside.interrupts.items; default = c.self.inside.default; kept = c.self.inside.kept } in
    let held = held_at l c.args.t c.self.inside.room c.self.invariant (subst (λ (v : LayerValue). is_inside v.kept c.args.t ≡ true) (sym c.self.view_is) c.requires) in
    shown_some l c.args.t c.self.inside.room c.place_in_hour.result c.slot_at.result held (grind (arith, nat_tests, c.is_empty.ensures, c.if-is_empty.false)) c.place_in_hour.ensures.value c.slot_at.ensures.value ∙ ap (λ (v : LayerValue). slot_at v c.args.t) c.self.view_is

pub returns-clause-closed : goal.returns-clause-closed
returns-clause-closed c =
    let l : LayerValue = record { normal = c.self.inside.normal.items; interrupts = c.self.inside.interrupts.items; default = c.self.inside.default; kept = c.self.inside.kept } in
    let held = held_at l c.args.t c.self.inside.room c.self.invariant (subst (λ (v : LayerValue). is_inside v.kept c.args.t ≡ true) (sym c.self.view_is) c.requires) in
    subst (λ (v : LayerValue). IsSlotAt v c.args.t c.slot_at.result) c.self.view_is
    (shown_closed l c.args.t c.self.inside.room c.place_in_hour.result c.slot_at.result c.self.invariant.layer held (grind (arith, nat_tests, c.is_empty.ensures, c.if-is_empty.false)) c.place_in_hour.ensures.value c.slot_at.ensures.one c.slot_at.ensures.begun c.slot_at.ensures.lasts)
