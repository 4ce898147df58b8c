use Rattle.std.proofs.Common.{arith}
use Rattle.sg_journal.proofs.EntryLemmas.{whole_run}
use Rattle.sg_journal.proofs.entries.fill.Goals as goal

pub returns-clause-run : goal.returns-clause-run
returns-clause-run c = whole_run c.args.entries.now c.args.first c.loop.plays.items c.requires.entries c.requires.first.0 (omega arith) c.loop.invariant.fits c.loop.invariant.each
