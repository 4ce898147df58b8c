use Rattle.std.proofs.Common.{◌≡◌, ◌∙◌, ap, sym, subst}
use Rattle.std.specs.Prelude.{None, All}
use Rattle.std.specs.List.{AllByRecursion}
use Rattle.sg_base.specs.declared.kind.Kind.TheVariants as kind
use Rattle.sg_manifest.specs.Snapshot.{IsSnapshot}
use Rattle.sg_own_rows.specs.Own.{own_snapshot, too_large}
use Rattle.sg_own_rows.proofs.SnapshotLemmas.{valid_own}
use Rattle.sg_tables.specs.Counts.{IsShort}
use Rattle.sg_tables.specs.Refusals.{IsThere}
use Rattle.sg_tables.specs.Rows.{at, number_at, references}
use Rattle.sg_tables.proofs.KeptLemmas.{kept_at}
use Rattle.sg_own_rows.proofs.own.rows_of.Goals as goal

pub returns-clause-valid : goal.returns-clause-valid
returns-clause-valid c = λ valid display.
    let d = c.args.display.now in
    let rows = c.args.tables.now.rows in
    let known = c.in_ok-names.ensures in
    let short = subst (λ r. All IsShort (references r)) c.requires.row c.requires.bounded.named in
    let closed = kept_at (λ e. AllByRecursion (IsThere rows) (references e.row)) (number_at (at kind.Display d.id.0)) c.args.entry.now rows known.closed c.requires.there in
    let there = subst (λ r. AllByRecursion (IsThere rows) (references r)) c.requires.row closed in
    let fits : too_large (own_snapshot d rows) ≡ None = sym (ap too_large c.in_ok-draft.ensures) ∙ (sym c.too_large.ensures ∙ c.in-None.is) in
    subst IsSnapshot (sym c.in_ok-draft.ensures) (valid_own d rows display valid known.rising known.closed known.fits short there fits)
