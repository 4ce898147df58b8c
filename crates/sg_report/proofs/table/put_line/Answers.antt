use Rattle.std.proofs.Common.{◌∷◌, [], ℕ, List, subst, arith, rules}
use Rattle.std.specs.Fmt.{decimal}
use Rattle.std.specs.Io.KnownBytes.{Appends}
use Rattle.std.proofs.lemmas.Grind.{common_steps}
use Rattle.csv.specs.Writing.{default_writer, row_text, text_written}
use Rattle.sg_report.proofs.TableLemmas.{line_row}
use Rattle.sg_report.proofs.table.put_line.Goals as goal

pub returns-in-Ok-clause-text : goal.returns-in-Ok-clause-text
returns-in-Ok-clause-text g c =
    let old = text_written g.W.Write.contents c.args.writer.now in
    let new = text_written g.W.Write.contents c.write_fields.new.self in
    let fields : List (List ℕ) = decimal c.args.line.display ∷ decimal c.args.line.layout ∷ decimal c.args.line.count ∷ decimal c.args.line.seconds ∷ [] in
    let row : Appends old new (row_text default_writer fields) = first_of (search rules, grind (arith, common_steps)) in
    subst (λ (text : List ℕ). Appends old new text) (line_row c.args.line (omega arith) (omega arith) (omega arith) (omega arith)) row
