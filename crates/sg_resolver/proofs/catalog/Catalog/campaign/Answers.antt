-- The row at the place of its id is the one that is found, and without a place none is.
use Rattle.std.proofs.Common.{ℕ, eqb, List, find, get_or, Option, ap, sym, subst, ◌∙◌}
use Rattle.sg_base.specs.declared.campaign.Campaign.{Campaign}
use Rattle.sg_manifest.specs.Snapshot.{SnapshotRow}
use Rattle.sg_base.specs.Index.{IsIndexOf}
use Rattle.sg_resolver.proofs.Found.{found_at, none_found, ids_ordered}
use Rattle.sg_resolver.proofs.catalog.Catalog.campaign.Goals as goal

pub index_of-requires : goal.index_of-requires
index_of-requires c =
    ids_ordered (λ (r : Campaign). r.id.0) c.self.inside.snapshot.campaigns c.as_slice.result.now (c.as_slice.ensures.value ∙ c.self.invariant.campaigns) c.self.invariant.valid.order.campaigns

pub returns-in-Some : goal.returns-in-Some
returns-in-Some c =
    let rows = c.self.inside.snapshot.campaigns in
    let k = c.in-Some.place in
    let x = c.index-campaigns-place.result in
    let place = subst (λ (o : Option ℕ). IsIndexOf c.as_slice.result.now c.args.id o) c.in-Some.is c.index_of.ensures in
    let at = c.index-campaigns-place.is ∙ ap (λ (xs : List Campaign). get_or xs k x) c.campaigns.ensures.value in
    let found = found_at (λ (r : Campaign). r.id.0) rows c.as_slice.result.now c.args.id k x (c.as_slice.ensures.value ∙ c.self.invariant.campaigns) c.self.invariant.valid.order.campaigns place at in
    sym found ∙ ap (λ (s : SnapshotRow). find (λ r. eqb r.id.0 c.args.id) s.campaigns) c.self.view_is

pub returns-in-None : goal.returns-in-None
returns-in-None c =
    let missing = subst (λ (o : Option ℕ). IsIndexOf c.as_slice.result.now c.args.id o) c.in-None.is c.index_of.ensures in
    let none = none_found (λ (r : Campaign). r.id.0) c.self.inside.snapshot.campaigns c.as_slice.result.now c.args.id (c.as_slice.ensures.value ∙ c.self.invariant.campaigns) missing in
    sym none ∙ ap (λ (s : SnapshotRow). find (λ r. eqb r.id.0 c.args.id) s.campaigns) c.self.view_is
