use Rattle.sg_journal.proofs.EntryLemmas.{Scanned}
use Rattle.sg_journal.proofs.entries.next_start.Given as goal

abbrev pub invariant-loop-entry : goal.invariant-loop-entry
invariant-loop-entry l = Scanned l.entries l.above l.entry-index l.best
