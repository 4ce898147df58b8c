use Rattle.std.proofs.Common.{◌≡◌, ◌∙◌, Option, Some, None, ap, sym}
use Rattle.sg_loading.proofs.MediumLemmas.{put_there}
use Rattle.sg_base.specs.Rising.{put}
use Rattle.sg_tables.specs.declared.change.TableChange.TheVariants.{Insert}
use Rattle.sg_tables.specs.declared.change.TableRefusal.{TableRefusal}
use Rattle.sg_tables.specs.Entries.{Kept, after, fresh, number_of_kept}
use Rattle.sg_tables.specs.Refusals.{refusal, row_at}
use Rattle.sg_tables.specs.Rows.{id_of}
use Rattle.sg_tables.specs.Tables.{change_of}
use Rattle.sg_tables.proofs.CountLemmas.{is_new}
use Rattle.sg_loading.proofs.rows.let_in.Goals as goal

pub bring-requires-clause-there : goal.bring-requires-clause-there
bring-requires-clause-there c none =
    let rows = c.args.tables.now.rows in
    let row = c.args.saved.now.row in
    let asked = c.in-Ok.ensures.change ∙ ap (λ r. Insert r) c.row.ensures in
    let is = c.commit.ensures ∙ (ap (λ r. after r (change_of c.in-Ok.prepared)) c.prepare_insert.ensures.rows ∙ ap (after rows) asked) in
    let gone : ◌≡◌ {A = Option Kept} (Some (fresh row)) None = sym (put_there (fresh row) rows) ∙ (ap (row_at (id_of row)) (sym is) ∙ none) in
    cc

pub returns-in-Ok-clause-taken : goal.returns-in-Ok-clause-taken
returns-in-Ok-clause-taken c _ =
    let rows = c.args.tables.now.rows in
    let row = c.args.saved.now.row in
    let asked = c.in-Ok.ensures.change ∙ ap (λ r. Insert r) c.row.ensures in
    let is = c.commit.ensures ∙ (ap (λ r. after r (change_of c.in-Ok.prepared)) c.prepare_insert.ensures.rows ∙ ap (after rows) asked) in
    let allowed = ap (refusal rows) (sym asked) ∙ (ap (λ r. refusal r (change_of c.in-Ok.prepared)) (sym c.prepare_insert.ensures.rows) ∙ c.in-Ok.ensures.prepared.allowed) in
    (allowed, c.bring.ensures rows (is_new rows row allowed) is)

pub returns-in_ok-unless_memory-in-Err-clause-refused : goal.returns-in_ok-unless_memory-in-Err-clause-refused
returns-in_ok-unless_memory-in-Err-clause-refused c _ none =
    let some = c.in-Err.ensures.refused c.in_ok-unless_memory-in-Err.ensures in
    let both : ◌≡◌ {A = Option TableRefusal} (Some c.in-Err.fault) None = sym some ∙ (ap (λ r. refusal c.args.tables.now.rows (Insert r)) c.row.ensures ∙ none) in
    cc
