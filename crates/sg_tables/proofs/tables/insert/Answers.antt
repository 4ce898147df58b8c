use Rattle.std.proofs.Common.{◌≡◌, ℕ, ◌+◌, ◌<◌, ◌^◌, length, ◌∙◌, ap, sym, subst}
use Rattle.sg_tables.specs.Counts.{AreCounted, counted, times}
use Rattle.sg_tables.proofs.CountLemmas.{counted_fits, counted_insert}
use Rattle.sg_tables.proofs.tables.insert.Goals as goal

pub add_all-requires-clause-fits : goal.add_all-requires-clause-fits
add_all-requires-clause-fits c n =
    let counts = c.args.counts.now.items in
    subst (λ ids. counted n counts + length ids < 2 ^ 128) (sym c.references.ensures.value)
    (counted_fits c.args.entries.now.items counts c.args.bytes.now n _ c.requires.counted c.references.ensures.bounded.references)

pub returns-clause-counted : goal.returns-clause-counted
returns-clause-counted c =
    let counts = c.args.counts.now.items in
    let new = c.add_all.new.counts.items in
    let added = subst (λ ids. (n : ℕ) → counted n new ≡ counted n counts + times n ids) c.references.ensures.value c.add_all.ensures in
    let bytes = ap (λ b. c.args.bytes.now + b) (c.declared_by.ensures.value ∙ ap Rattle.sg_tables.specs.Refusals.bytes_of c.row.ensures.value) in
    subst (λ rows. AreCounted rows new (c.args.bytes.now + c.declared_by.result)) (sym c.put.ensures.items)
    (counted_insert c.args.entry c.args.entries.now.items counts new c.args.bytes.now _ c.requires.counted c.references.ensures.bounded c.requires.allowed added bytes)
