use Rattle.std.proofs.Common.{◌≡◌, ◌∙◌, ◌∷◌, ◌++◌, [], ℕ, List, ap, subst, sym, Some, codes}
use Rattle.std.specs.Prelude.{Option}
use Rattle.std.specs.Io.KnownBytes.{Appends}
use Rattle.csv.specs.Writing.{row_text, writer_setup}
use Rattle.csv.specs.declared.writer.QuoteStyle.TheVariants as style
use Rattle.csv.specs.declared.writer.WriterBuilder.{WriterBuilder}
use Rattle.sg_report.specs.Lines.{head_text}
use Rattle.sg_report.proofs.TableLemmas.{appends_first, head_row}
use Rattle.sg_report.proofs.table.headed.Goals as goal

pub returns-in-Ok-clause-text : goal.returns-in-Ok-clause-text
returns-in-Ok-clause-text c =
    let w = c.from_writer-writer.ensures in
    let old : Option (List ℕ) = Some (c.from_writer-writer.result.wtr.inner.items ++ c.from_writer-writer.result.wtr.buf) in
    let new : Option (List ℕ) = Some (c.write_fields.new.self.wtr.inner.items ++ c.write_fields.new.self.wtr.buf) in
    let fields : List (List ℕ) = codes "display" ∷ codes "layout" ∷ codes "count" ∷ codes "seconds" ∷ [] in
    let wrote = c.in-Ok.ensures.bytes w.fields w.wrote (λ e. let no : style.Necessary ≡ style.NonNumeric = sym (ap (λ (b : WriterBuilder). b.style) w.cfg) ∙ e in cc) in
    let row : Appends old new (row_text (writer_setup c.from_writer-writer.result) fields) = wrote in
    let head : Appends old new head_text = subst (λ (text : List ℕ). Appends old new text) (ap (λ (b : WriterBuilder). row_text b fields) w.cfg ∙ head_row) row in
    let inner : c.from_writer-writer.result.wtr.inner.items ≡ [] = ap (λ v. v.items) w.wtr ∙ c.new.ensures.items in
    appends_first old new head_text (λ i. Some (inner i ++ w.empty i)) head
