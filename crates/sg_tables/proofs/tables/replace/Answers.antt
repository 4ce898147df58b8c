use Rattle.std.proofs.Common.{◌≡◌, ℕ, ◌+◌, ◌≤◌, length, ◌∙◌, ap, sym, subst, arith}
use Rattle.std.specs.Option.{option_copied}
use Rattle.sg_base.specs.Rising.{found}
use Rattle.sg_tables.specs.Counts.{AreCounted, counted, times}
use Rattle.sg_tables.specs.Entries.{number_of_kept}
use Rattle.sg_tables.specs.Rows.{number_at}
use Rattle.sg_tables.proofs.CountLemmas.{counted_fits, counted_of, counted_replace}
use Rattle.sg_tables.proofs.tables.replace.Goals as goal

pub take_all-requires : goal.take_all-requires
take_all-requires c n =
    let rows = c.args.entries.now.items in
    let rank = c.rank.ensures ∙ (c.key.ensures ∙ ap number_at c.id.ensures.value) in
    let there = sym (ap (λ k. found number_of_kept k rows) rank) ∙ (sym c.find.ensures.element ∙ ap option_copied c.in-Some.is) in
    subst (λ ids. times n ids ≤ counted n c.args.counts.now.items) (sym c.references.ensures.value)
    (counted_of _ c.in-Some.old.now rows c.args.counts.now.items c.args.bytes n c.requires.counted there)

pub add_all-requires-clause-fits : goal.add_all-requires-clause-fits
add_all-requires-clause-fits c n =
    let counts = c.args.counts.now.items in
    let ids = c.references-in-Some.ensures in
    let long = ap length ids.value in
    let fits = counted_fits c.args.entries.now.items counts c.args.bytes n _ c.requires.counted ids.bounded.references in
    let taken = c.take_all.ensures.named n in
    omega (arith, long, fits, taken)

pub returns-in-Some-clause-counted : goal.returns-in-Some-clause-counted
returns-in-Some-clause-counted c =
    let rows = c.args.entries.now.items in
    let rank = c.rank.ensures ∙ (c.key.ensures ∙ ap number_at c.id.ensures.value) in
    let there = sym (ap (λ k. found number_of_kept k rows) rank) ∙ (sym c.find.ensures.element ∙ ap option_copied c.in-Some.is) in
    let counts = c.args.counts.now.items in
    let mid = c.take_all.new.counts.items in
    let new = c.add_all.new.counts.items in
    let ids = c.references-in-Some.ensures in
    let taken = subst (λ l. (n : ℕ) → counted n mid + times n l ≡ counted n counts) c.references.ensures.value c.take_all.ensures.named in
    let added = subst (λ l. (n : ℕ) → counted n new ≡ counted n mid + times n l) ids.value c.add_all.ensures in
    subst (λ es. AreCounted es new c.args.bytes) (sym c.replace.ensures.items)
    (counted_replace c.in-Some.old.now c.args.entry rows counts mid new c.args.bytes c.requires.counted ids.bounded c.requires.asked c.requires.allowed there taken added)
