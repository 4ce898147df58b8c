use Rattle.std.proofs.Common.{Some, ◌∙◌, ap, sym}
use Rattle.std.specs.Prelude.{option_map, slice_get}
use Rattle.std.specs.Option.{option_copied}
use Rattle.sg_tables.specs.Entries.{Kept}
use Rattle.sg_tables.specs.Rows.{id_in}
use Rattle.sg_tables.specs.Tables.{is_above}
use Rattle.sg_tables.proofs.BetweenLemmas.{first_passes}
use Rattle.sg_tables.proofs.kinds.next_id.Goals as goal

pub returns-in-Some : goal.returns-in-Some
returns-in-Some c =
    let first = c.first.ensures.value ∙ (ap (λ l. slice_get l 0) c.above.ensures ∙ first_passes (is_above c.args.kind c.args.id) c.args.entries.now.items) in
    ap (λ i. Some i.id) c.id.ensures.value ∙ ap (option_map (λ (e : Kept). id_in e.row)) (sym (ap option_copied c.in-Some.is) ∙ first)

pub returns-in-None : goal.returns-in-None
returns-in-None c =
    let first = c.first.ensures.value ∙ (ap (λ l. slice_get l 0) c.above.ensures ∙ first_passes (is_above c.args.kind c.args.id) c.args.entries.now.items) in
    ap (option_map (λ (e : Kept). id_in e.row)) (sym (ap option_copied c.in-None.is) ∙ first)
