use Rattle.std.proofs.Common.{◌∙◌, ap, sym}
use Rattle.std.specs.Prelude.{filter}
use Rattle.std.specs.Option.{option_copied}
use Rattle.sg_base.specs.declared.kind.Kind.TheVariants as kind
use Rattle.sg_own_rows.specs.Numbers.{picked}
use Rattle.sg_own_rows.specs.Own.{all_in, display_in, display_of, file_in, files_of_display, named_by, own_layouts}
use Rattle.sg_own_rows.proofs.OwnLemmas.{all_filter, picked_same}
use Rattle.sg_tables.specs.Counts.{IsBounded}
use Rattle.sg_tables.specs.Refusals.{is_of}
use Rattle.sg_own_rows.proofs.own.own_files.Goals as goal

pub returns-in_ok-files-in-Display : goal.returns-in_ok-files-in-Display
returns-in_ok-files-in-Display c =
    let rows = c.args.tables.now.rows in
    let d = c.in-Display.row in
    let names = c.in_ok-names-in-Display in
    let bounded = all_filter IsBounded (is_of kind.Media) rows names.ensures.fits in
    let found = sym c.display_entry.ensures ∙ ap option_copied c.in-Some.is in
    let it = ap (λ o. files_of_display rows (display_in o)) found ∙ ap (λ r. files_of_display rows (display_of r)) (sym c.row.ensures.value ∙ c.in-Display.is) in
    c.in_ok-files-in-Display.ensures
    ∙ (ap (all_in file_in)
    (ap (λ l. picked l c.rows_of.result.now) c.deref.ensures.value
    ∙ (ap (picked names.names.by_layouts.items) c.rows_of.ensures.value
    ∙ picked_same (named_by (own_layouts d rows)) names.names.by_layouts.items (filter (is_of kind.Media) rows) names.ensures.names.of_layouts bounded))
    ∙ sym it)
