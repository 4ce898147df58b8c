-- The layer that is asked is the picture's, which always has a slot.
use Rattle.std.proofs.Common.{◌≡◌, ℕ, false, length, subst, ap, sym, ◌∙◌, arith}
use Rattle.std.specs.List.{Contains}
use Rattle.sg_layer.specs.Shown.{LayerValue, entries_of, IsSlotAt}
use Rattle.sg_layer.specs.Shown.{slot_at as slot_at_of}
use Rattle.sg_layer.specs.Segment.{is_inside}
use Rattle.sg_manifest.specs.Snapshot.{layout_ids}
use Rattle.sg_resolver.specs.Lists.{picture_events}
use Rattle.sg_resolver.specs.Ready.{Adopted}
use Rattle.sg_resolver.specs.Shown.{shown}
use Rattle.sg_resolver.proofs.ShownLemmas.{never_none, shown_is, shown_there, entries_count}
use Rattle.sg_resolver.proofs.resolver.Resolver.show_at.Goals as goal

pub unreachable-requires : goal.unreachable-requires
unreachable-requires g c =
    let s = c.self.inside.catalog in
    let l = c.self.inside.layer in
    let none = sym c.in-None.is ∙ (c.slot_at.ensures.value ∙ ap (λ (v : LayerValue). slot_at_of v c.args.t) c.self.invariant.layer_is) in
    never_none s l.kept c.args.t none

pub returns-clause-value : goal.returns-clause-value
returns-clause-value g c =
    let s = c.self.inside.catalog in
    let l = c.self.inside.layer in
    let there = sym c.in-Some.is ∙ (c.slot_at.ensures.value ∙ ap (λ (v : LayerValue). slot_at_of v c.args.t) c.self.invariant.layer_is) in
    c.show_of.ensures ∙ (shown_is s l.kept c.args.t c.in-Some.slot there ∙ ap (λ (r : Adopted). shown r.snapshot c.args.t) c.self.view_is)

pub returns-clause-known : goal.returns-clause-known
returns-clause-known g c =
    let s = c.self.inside.catalog in
    let l = c.self.inside.layer in
    let closed : IsSlotAt l c.args.t c.in-Some.slot = c.in-Some.ensures.closed in
    let here = subst (λ (v : LayerValue). IsSlotAt v c.args.t c.in-Some.slot) c.self.invariant.layer_is closed in
    let there = shown_there s l.kept c.args.t c.in-Some.slot c.self.invariant.valid here in
    let known = subst (λ (n : ℕ). Contains (layout_ids s) n) (sym (ap (λ z. z.layout) c.show_of.ensures)) there in
    subst (λ (r : Adopted). Contains (layout_ids r.snapshot) c.show_of.result.layout) c.self.view_is known

pub returns-clause-ticks : goal.returns-clause-ticks
returns-clause-ticks g c = λ outside.
    let s = c.self.inside.catalog in
    let l = c.self.inside.layer in
    let away : is_inside l.kept c.args.t ≡ false = subst (λ (r : Adopted). is_inside r.kept c.args.t ≡ false) (sym c.self.view_is) outside in
    let ticks = (c.slot_at.ensures.anew away).1 in
    let count = ap (λ (v : LayerValue). length (entries_of v)) c.self.invariant.layer_is ∙ entries_count s l.kept in
    let same = ap (λ (r : Adopted). length (picture_events r.snapshot)) c.self.view_is in
    omega (arith, ticks, count, same)
