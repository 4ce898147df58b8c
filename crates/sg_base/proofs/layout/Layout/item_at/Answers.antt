-- The region that the code reads is the one that the clauses name.
use Rattle.std.proofs.Common.{◌≡◌, ap, ◌∙◌}
use Rattle.std.proofs.lemmas.Option.{get_or_from_slice_get}
use Rattle.sg_base.specs.Layout.{LayoutRow, region_fault}
use Rattle.sg_base.proofs.FaultLemmas.{none_at}
use Rattle.sg_base.proofs.LayoutLemmas.{layout_bounds}
use Rattle.sg_base.proofs.layout.Layout.item_at.Goals as goal

pub shown_at-requires : goal.shown_at-requires
shown_at-requires c =
    let same : c.as_slice.result.now ≡ c.args.self.now.regions = c.as_slice.ensures ∙ ap (λ (l : LayoutRow). l.regions) c.self.view_is in
    none_at region_fault c.as_slice.result.now c.args.region c.index-as_slice-region.result (rw c.as_slice.ensures (layout_bounds c.self.inside.regions c.self.invariant.sound).own) (rw same c.requires) c.index-as_slice-region.is

pub returns-clause-value : goal.returns-clause-value
returns-clause-value c = λ r is.
    let same : c.as_slice.result.now ≡ c.args.self.now.regions = c.as_slice.ensures ∙ ap (λ (l : LayoutRow). l.regions) c.self.view_is in
    let this : c.index-as_slice-region.result ≡ r = c.index-as_slice-region.is ∙ rw same (get_or_from_slice_get c.args.self.now.regions c.args.region r c.index-as_slice-region.result is) in
    rw (← this) c.shown_at.ensures.value

pub returns-clause-covers : goal.returns-clause-covers
returns-clause-covers c = λ r is.
    let same : c.as_slice.result.now ≡ c.args.self.now.regions = c.as_slice.ensures ∙ ap (λ (l : LayoutRow). l.regions) c.self.view_is in
    let this : c.index-as_slice-region.result ≡ r = c.index-as_slice-region.is ∙ rw same (get_or_from_slice_get c.args.self.now.regions c.args.region r c.index-as_slice-region.result is) in
    rw (← this) c.shown_at.ensures.covers
