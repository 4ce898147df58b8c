use Rattle.std.proofs.Common.{◌∙◌, ap, sym, arith}
use Rattle.std.specs.Option.{option_copied}
use Rattle.sg_base.specs.Rising.{found}
use Rattle.sg_tables.specs.Entries.{number_of_kept}
use Rattle.sg_tables.specs.Tables.{file_in, file_of}
use Rattle.sg_tables.proofs.MediumLemmas.{no_medium}
use Rattle.sg_tables.proofs.tables.medium_of.Goals as goal

pub returns-in-Some-clause-missing : goal.returns-in-Some-clause-missing
returns-in-Some-clause-missing c none =
    let rows = c.args.entries.now.items in
    let there = sym (ap (λ k. found number_of_kept k rows) (c.rank.ensures ∙ c.key.ensures)) ∙ (sym c.find.ensures.element ∙ ap option_copied c.in-Some.is) in
    let file = ap file_in there ∙ (ap file_of (sym c.row.ensures.value) ∙ (sym c.file_of.ensures ∙ none)) in
    no_medium c.args.media rows (omega arith) c.requires file
