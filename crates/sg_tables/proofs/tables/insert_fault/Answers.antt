use Rattle.std.proofs.Common.{◌≡◌, None, ◌∙◌, ap, sym, subst}
use Rattle.sg_tables.specs.Refusals.{bytes_fault, count_fault, exists_fault, references_fault, row_at}
use Rattle.sg_tables.proofs.CountLemmas.{passed}
use Rattle.sg_tables.proofs.tables.insert_fault.Goals as goal

pub returns : goal.returns
returns c =
    let rows = c.args.entries.now.items in
    let row = c.args.entry.now.row in
    let at = c.id-id.ensures.value in
    let new = subst (λ id. exists_fault id (row_at id rows) ≡ None) at (sym c.exists.ensures ∙ c.in_default.is) in
    let named = subst (λ ids. references_fault rows ids ≡ None) c.references.ensures.value (sym c.named.ensures ∙ c.in_default-named.is) in
    let few = subst (λ id. count_fault id.kind rows ≡ None) at (sym c.full.ensures ∙ c.in_default-full.is) in
    c.heavy.ensures
    ∙ (ap (λ r. bytes_fault r c.args.bytes) c.row.ensures.value ∙ (ap (bytes_fault row) c.requires.bytes ∙ sym (passed _ _ _ _ new named few)))
