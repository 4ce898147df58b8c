use Rattle.std.proofs.Common.{inr, ◌∙◌, sym, arith, subst, refl}
use Rattle.std.specs.Prelude.{Option, ℕ, ◌+◌}
use Rattle.sg_journal.proofs.EntryLemmas.{Scanned, own_held, read_entry, scanned_start, scanned_over, scanned_end}
use Rattle.sg_journal.proofs.entries.next_start.Goals as goal
use Rattle.sg_journal.proofs.entries.next_start.Goals.{in-Some, in_default}

pub start_of-requires-clause-own : goal.start_of-requires-clause-own
start_of-requires-clause-own c e is =
    own_held c.args.entries.now c.loop-entry.entry-index e c.requires (omega (arith, c.requires.count)) (read_entry c.args.entries.now c.loop-entry.entry-index c.entry-item.result (omega arith) c.entry-item.is ∙ is)

pub loop-entry-preserved : goal.loop-entry-preserved
loop-entry-preserved c =
    let entries = c.args.entries.now in
    let above = c.args.above in
    let k = c.loop-entry.entry-index in
    elim c.match-start_of.branch [
      | in-Some w ↦
          let e = w.in-Some.ensures.number w.in-Some.number refl in
          subst (λ (best : Option ℕ). Scanned entries above (k + 1) best) (sym w.best-is)
          (scanned_start entries above k w.in-Some.number w.lower.result c.loop-entry.best w.in-Some.ensures.start (inr (e.0, read_entry entries k c.entry-item.result (omega arith) c.entry-item.is ∙ e.1, e.2)) w.lower.ensures c.loop-entry.invariant)
      | in_default w ↦
          subst (λ (best : Option ℕ). Scanned entries above (k + 1) best) (sym w.best-is)
          (scanned_over entries above k c.loop-entry.best c.entry-item.result (read_entry entries k c.entry-item.result (omega arith) c.entry-item.is) (w.in_default.ensures.none refl) c.loop-entry.invariant)
    ]

pub returns : goal.returns
returns c = scanned_end c.args.entries.now c.args.above c.loop-entry.best c.requires (subst (λ (k : ℕ). Scanned c.args.entries.now c.args.above k c.loop-entry.best) (omega (arith, c.requires.count)) c.loop-entry.invariant)
