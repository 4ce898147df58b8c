use Rattle.std.proofs.Common.{◌≡◌, false, refl, ◌∙◌, ap, sym, subst}
use Rattle.sg_base.specs.declared.row.Row.{Row}
use Rattle.sg_base.specs.declared.row.Row.TheVariants as row
use Rattle.sg_base.specs.declared.kind.Kind.TheVariants as kind
use Rattle.sg_tables.specs.Counts.{AreCounted}
use Rattle.sg_tables.specs.Entries.{Kept}
use Rattle.sg_tables.specs.Refusals.{row_at}
use Rattle.sg_tables.specs.Rows.{at}
use Rattle.sg_tables.specs.Tables.{holding, with_medium}
use Rattle.sg_tables.proofs.MediumLemmas.{changed_medium}
use Rattle.sg_tables.proofs.tables.Tables.receive.Goals as goal

pub replace-requires : goal.replace-requires
replace-requires c =
    let change = (holding c.args.received) in
    let inside = c.self.inside in
    let entry_is = λ (e : Kept) (is : e.row ≡ row.Media c.in-Some.file). c.medium.ensures ∙ ap (λ (r : Row). record { row = r; received = c.args.received; complete = false }) (sym is) in
    let changed = changed_medium change c.args.media inside.entries.items inside.counts.items inside.bytes c.in-Some.file c.medium.result c.self.invariant (sym c.medium_of.ensures.file ∙ c.in-Some.is) entry_is (λ e. refl) in
    changed.there

pub invariant_of-self : goal.invariant_of-self
invariant_of-self c =
    let change = (holding c.args.received) in
    let inside = c.self.inside in
    let entry_is = λ (e : Kept) (is : e.row ≡ row.Media c.in-Some.file). c.medium.ensures ∙ ap (λ (r : Row). record { row = r; received = c.args.received; complete = false }) (sym is) in
    let changed = changed_medium change c.args.media inside.entries.items inside.counts.items inside.bytes c.in-Some.file c.medium.result c.self.invariant (sym c.medium_of.ensures.file ∙ c.in-Some.is) entry_is (λ e. refl) in
    subst (λ rows. AreCounted rows inside.counts.items inside.bytes) (sym c.replace.ensures.items) changed.counted

pub returns-in-Some : goal.returns-in-Some
returns-in-Some c =
    let change = (holding c.args.received) in
    let inside = c.self.inside in
    let entry_is = λ (e : Kept) (is : e.row ≡ row.Media c.in-Some.file). c.medium.ensures ∙ ap (λ (r : Row). record { row = r; received = c.args.received; complete = false }) (sym is) in
    let changed = changed_medium change c.args.media inside.entries.items inside.counts.items inside.bytes c.in-Some.file c.medium.result c.self.invariant (sym c.medium_of.ensures.file ∙ c.in-Some.is) entry_is (λ e. refl) in
    c.replace.ensures.items ∙ (changed.items ∙ ap (with_medium change c.args.media) (ap (λ t. t.rows) c.self.view_is))

pub returns-in_default : goal.returns-in_default
returns-in_default c =
    absurd (c.requires (sym (ap (row_at (at kind.Media c.args.media.0)) (ap (λ t. t.rows) c.self.view_is)) ∙ c.medium_of.ensures.missing c.in_default.is))
