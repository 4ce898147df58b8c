-- The seconds stand in the order of the layouts, so those of the layout that is found stand at its place.
use Rattle.std.proofs.Common.{ℕ, List, [], get_or, Option, refl, ap, sym, subst, ◌∙◌}
use Rattle.std.specs.Option.{option_map_or}
use Rattle.sg_base.specs.Layout.{LayoutRow, longest}
use Rattle.sg_manifest.specs.Snapshot.{SnapshotRow}
use Rattle.sg_base.specs.Index.{IsIndexOf}
use Rattle.sg_resolver.specs.Rows.{regions_of}
use Rattle.sg_resolver.proofs.Found.{none_found, told_at, ids_ordered}
use Rattle.sg_resolver.proofs.catalog.Catalog.seconds.Goals as goal

pub index_of-requires : goal.index_of-requires
index_of-requires c =
    ids_ordered (λ (r : LayoutRow). r.id.0) c.self.inside.snapshot.layouts c.as_slice.result.now (c.as_slice.ensures.value ∙ c.self.invariant.layouts) c.self.invariant.valid.order.layouts

pub returns-in-Some : goal.returns-in-Some
returns-in-Some c =
    let rows = c.self.inside.snapshot.layouts in
    let k = c.in-Some.place in
    let x = c.index.result.now in
    let F : Option LayoutRow → ℕ = λ o. longest (option_map_or (λ l. l.regions) o []) in
    let place = subst (λ (o : Option ℕ). IsIndexOf c.as_slice.result.now c.args.id o) c.in-Some.is c.index_of.ensures in
    let told = told_at (λ (l : LayoutRow). l.id.0) (λ l. longest l.regions) F (λ l. refl) rows c.as_slice.result.now c.args.id k x (c.as_slice.ensures.value ∙ c.self.invariant.layouts) c.self.invariant.valid.order.layouts place in
    let at = c.index.ensures ∙ ap (λ (xs : List ℕ). get_or xs k x) c.self.invariant.seconds in
    at ∙ (sym told ∙ ap (λ (s : SnapshotRow). longest (regions_of s c.args.id)) c.self.view_is)

pub returns-in-None : goal.returns-in-None
returns-in-None c =
    let missing = subst (λ (o : Option ℕ). IsIndexOf c.as_slice.result.now c.args.id o) c.in-None.is c.index_of.ensures in
    let none = none_found (λ (l : LayoutRow). l.id.0) c.self.inside.snapshot.layouts c.as_slice.result.now c.args.id (c.as_slice.ensures.value ∙ c.self.invariant.layouts) missing in
    let F : Option LayoutRow → ℕ = λ o. longest (option_map_or (λ l. l.regions) o []) in
    sym (ap F none) ∙ ap (λ (s : SnapshotRow). longest (regions_of s c.args.id)) c.self.view_is
