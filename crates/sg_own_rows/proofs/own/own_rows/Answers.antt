use Rattle.std.proofs.Common.{◌≡◌, ◌^◌, ◌<◌, Some, ◌∙◌, ap, sym, subst, arith}
use Rattle.std.specs.Option.{option_copied}
use Rattle.sg_base.specs.declared.kind.Kind.TheVariants as kind
use Rattle.sg_base.specs.declared.row.Row.TheVariants as row
use Rattle.sg_own_rows.proofs.OwnLemmas.{display_id}
use Rattle.sg_tables.specs.Refusals.{row_at}
use Rattle.sg_edit_rows.specs.EditRows.{IsRow}
use Rattle.sg_rows.specs.declared.form.RowForm.TheVariants.{Edit}
use Rattle.sg_tables.specs.Rows.{at, number_at}
use Rattle.sg_tables.proofs.KeptLemmas.{kept_at}
use Rattle.sg_own_rows.proofs.own.own_rows.Goals as goal

pub rows_of-requires-clause-there : goal.rows_of-requires-clause-there
rows_of-requires-clause-there c =
    let rows = c.args.tables.now.rows in
    let found = sym c.display_entry.ensures ∙ ap option_copied c.in-Some.is in
    let same = display_id c.args.display.0 rows c.in-Some.entry.now c.in-Display.row (omega arith) c.row.ensures.bounded found (sym c.row.ensures.value ∙ c.in-Display.is) in
    subst (λ n. row_at (at kind.Display n) rows ≡ Some c.in-Some.entry.now) same found

pub returns-in-Display-clause-valid : goal.returns-in-Display-clause-valid
returns-in-Display-clause-valid c = λ valid.
    let rows = c.args.tables.now.rows in
    let found = sym c.display_entry.ensures ∙ ap option_copied c.in-Some.is in
    let entry = kept_at (λ e. IsRow Edit e.row) (number_at (at kind.Display c.args.display.0)) c.in-Some.entry.now rows valid found in
    c.rows_of.ensures.valid valid (subst (IsRow Edit) (sym c.row.ensures.value ∙ c.in-Display.is) entry)
