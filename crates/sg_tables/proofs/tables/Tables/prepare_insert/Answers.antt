use Rattle.std.proofs.Common.{◌∙◌, ap, sym}
use Rattle.sg_tables.specs.declared.change.TableChange.TheVariants.{Insert}
use Rattle.sg_tables.specs.Refusals.{refusal}
use Rattle.sg_tables.proofs.tables.Tables.prepare_insert.Goals as goal

pub returns-in-Some-clause-refused : goal.returns-in-Some-clause-refused
returns-in-Some-clause-refused c = λ _.
    let row = ap (λ e. e.row) c.in_ok-entry.ensures ∙ c.in_ok-clone.ensures.cases in
    let rows = ap (λ t. t.rows) c.self.view_is in
    sym (ap (λ r. refusal c.args.self.now.rows (Insert r)) row)
    ∙ (sym (ap (λ l. refusal l (Insert c.in_ok-entry.entry.row)) rows) ∙ (sym c.insert_fault.ensures ∙ c.in-Some.is))
