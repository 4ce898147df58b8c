use Rattle.std.proofs.Common.{◌≡◌, ℕ, ◌+◌, ◌-◌, ◌≤◌, ◌∙◌, ap, sym, subst, arith}
use Rattle.std.specs.Option.{option_copied}
use Rattle.sg_base.specs.Rising.{found, without}
use Rattle.sg_base.proofs.RisingLemmas.{without_missing}
use Rattle.sg_tables.specs.Counts.{AreCounted, counted, times}
use Rattle.sg_tables.specs.Entries.{number_of_kept}
use Rattle.sg_tables.specs.Refusals.{bytes_of, row_at, unknown_fault, user_fault}
use Rattle.sg_base.proofs.FaultLemmas.{first_none}
use Rattle.sg_tables.proofs.KeptLemmas.{unused}
use Rattle.sg_tables.proofs.CountLemmas.{counted_of, counted_remove, declared_of}
use Rattle.sg_tables.proofs.tables.remove.Goals as goal

pub take_all-requires : goal.take_all-requires
take_all-requires c n =
    let rows = c.args.entries.now.items in
    let rank = c.rank-rank.ensures ∙ c.key.ensures in
    let there = sym (ap (λ k. found number_of_kept k rows) rank) ∙ (sym c.find.ensures.element ∙ ap option_copied c.in-Some.is) in
    subst (λ ids. times n ids ≤ counted n c.args.counts.now.items) (sym c.references.ensures.value)
    (counted_of _ c.in-Some.entry.now rows c.args.counts.now.items c.args.bytes.now n c.requires.counted there)

pub overflow_sub-bytes : goal.overflow_sub-bytes
overflow_sub-bytes c =
    let rows = c.args.entries.now.items in
    let rank = c.rank-rank.ensures ∙ c.key.ensures in
    let there = sym (ap (λ k. found number_of_kept k rows) rank) ∙ (sym c.find.ensures.element ∙ ap option_copied c.in-Some.is) in
    subst (λ b. b ≤ c.args.bytes.now) (sym (c.declared_by.ensures.value ∙ ap bytes_of c.row.ensures.value))
    (declared_of _ c.in-Some.entry.now rows c.args.counts.now.items c.args.bytes.now c.requires.counted there)

pub returns-in-None-clause-rows : goal.returns-in-None-clause-rows
returns-in-None-clause-rows c =
    let rows = c.args.entries.now.items in
    let rank = c.rank-rank.ensures ∙ c.key.ensures in
    let none = sym (ap (λ k. found number_of_kept k rows) rank) ∙ (sym c.find.ensures.element ∙ ap option_copied c.in-None.is) in
    sym (without_missing number_of_kept _ rows none)

pub returns-in-Some-clause-counted : goal.returns-in-Some-clause-counted
returns-in-Some-clause-counted c =
    let rows = c.args.entries.now.items in
    let rank = c.rank-rank.ensures ∙ c.key.ensures in
    let there = sym (ap (λ k. found number_of_kept k rows) rank) ∙ (sym c.find.ensures.element ∙ ap option_copied c.in-Some.is) in
    let counts = c.args.counts.now.items in
    let new = c.take_all.new.counts.items in
    let bytes = c.declared_by.ensures.value ∙ ap bytes_of c.row.ensures.value in
    let fits = declared_of _ c.in-Some.entry.now rows counts c.args.bytes.now c.requires.counted there in
    let taken = subst (λ ids. (n : ℕ) → counted n new + times n ids ≡ counted n counts) c.references.ensures.value c.take_all.ensures.named in
    let gone = c.remove.ensures.items ∙ ap (λ k. without number_of_kept k rows) rank in
    let id = c.args.id in
    let no_user = (first_none (unknown_fault id (row_at id rows)) (user_fault id rows) c.requires.allowed).1 in
    let none = unused id rows (omega arith) c.requires.counted.bounded no_user in
    subst (λ es. AreCounted es new (c.args.bytes.now - c.declared_by.result)) (sym gone)
    (counted_remove _ c.in-Some.entry.now rows counts new c.args.bytes.now _ c.requires.counted none there taken (omega (arith, bytes, fits)))
