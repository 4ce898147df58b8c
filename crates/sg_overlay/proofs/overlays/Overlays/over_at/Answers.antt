-- The layer that is asked is the one above the picture.
use Rattle.std.proofs.Common.{◌≡◌, ℕ, false, length, Some, subst, ap, sym, ◌∙◌, arith}
use Rattle.std.specs.List.{Contains}
use Rattle.sg_layer.specs.Shown.{LayerValue, entries_of, slot_at, IsSlotAt}
use Rattle.sg_layer.specs.Segment.{is_inside}
use Rattle.sg_manifest.specs.Snapshot.{layout_ids}
use Rattle.sg_resolver.specs.Ready.{Adopted}
use Rattle.sg_overlay.specs.Over.{overlay_events, over}
use Rattle.sg_overlay.proofs.OverLemmas.{over_some, over_none, over_there, overlay_count}
use Rattle.sg_overlay.proofs.overlays.Overlays.over_at.Goals as goal

pub returns-clause-value : goal.returns-clause-value
returns-clause-value g c =
    let s = c.self.inside.catalog in
    let l = c.self.inside.layer in
    let there = sym c.in-Some.is ∙ (c.slot_at.ensures.value ∙ ap (λ (v : LayerValue). slot_at v c.args.t) c.self.invariant.layer_is) in
    ap (λ z. Some z) c.show_of.ensures ∙ (over_some s l.kept c.args.t c.in-Some.slot there ∙ ap (λ (r : Adopted). over r.snapshot c.args.t) c.self.view_is)

pub returns-in_default-clause-value : goal.returns-in_default-clause-value
returns-in_default-clause-value g c =
    let s = c.self.inside.catalog in
    let l = c.self.inside.layer in
    let slot = c.slot_at.ensures.value ∙ ap (λ (v : LayerValue). slot_at v c.args.t) c.self.invariant.layer_is in
    over_none s l.kept c.args.t c.slot_at.result c.in_default.not-Some slot ∙ ap (λ (r : Adopted). over r.snapshot c.args.t) c.self.view_is

pub returns-clause-known : goal.returns-clause-known
returns-clause-known g c =
    let s = c.self.inside.catalog in
    let l = c.self.inside.layer in
    let there = sym c.in-Some.is ∙ (c.slot_at.ensures.value ∙ ap (λ (v : LayerValue). slot_at v c.args.t) c.self.invariant.layer_is) in
    let closed : IsSlotAt l c.args.t c.in-Some.slot = c.in-Some.ensures.closed in
    let here = subst (λ (v : LayerValue). IsSlotAt v c.args.t c.in-Some.slot) c.self.invariant.layer_is closed in
    let found = over_there s l.kept c.args.t c.in-Some.slot c.self.invariant.valid there here in
    let known = subst (λ (n : ℕ). Contains (layout_ids s) n) (sym (ap (λ z. z.layout) c.show_of.ensures)) found in
    subst (λ (r : Adopted). Contains (layout_ids r.snapshot) c.show_of.result.layout) c.self.view_is known

pub returns-clause-ticks : goal.returns-clause-ticks
returns-clause-ticks g c = λ outside.
    let l = c.self.inside.layer in
    let away : is_inside l.kept c.args.t ≡ false = subst (λ (r : Adopted). is_inside r.kept c.args.t ≡ false) (sym c.self.view_is) outside in
    let count = ap (λ (v : LayerValue). length (entries_of v)) c.self.invariant.layer_is ∙ overlay_count c.self.inside.catalog l.kept in
    let same = ap (λ (r : Adopted). length (overlay_events r.snapshot)) c.self.view_is in
    omega (arith, (c.slot_at.ensures.anew away).1, count, same)

pub returns-in_default-clause-ticks : goal.returns-in_default-clause-ticks
returns-in_default-clause-ticks g c = λ outside.
    let l = c.self.inside.layer in
    let away : is_inside l.kept c.args.t ≡ false = subst (λ (r : Adopted). is_inside r.kept c.args.t ≡ false) (sym c.self.view_is) outside in
    let count = ap (λ (v : LayerValue). length (entries_of v)) c.self.invariant.layer_is ∙ overlay_count c.self.inside.catalog l.kept in
    let same = ap (λ (r : Adopted). length (overlay_events r.snapshot)) c.self.view_is in
    omega (arith, (c.slot_at.ensures.anew away).1, count, same)
