use Rattle.std.proofs.Common.{refl, arith}
use Rattle.sg_journal.proofs.JournalSteps.{gate_within, full_round, closing_moments, closing_ready}
use Rattle.sg_journal.proofs.journal.Journal.close.Goals as goal

pub returns-in_err-write_synced-clause-within : goal.returns-in_err-write_synced-clause-within
returns-in_err-write_synced-clause-within g c = gate_within _ c.place.result _ _ c.place.ensures c.write_synced.ensures.within

pub returns-in_err-write_synced-clause-any_moment : goal.returns-in_err-write_synced-clause-any_moment
returns-in_err-write_synced-clause-any_moment g c =
    closing_moments (g.D.Disk.view c.args.disk.now) (g.D.Disk.view c.write_synced.new.disk) c.args.self.now c.place.result (full_round c.args.self.now (omega arith) (omega arith)) c.place.ensures c.write_synced.ensures.within

pub returns-clause-any_moment : goal.returns-clause-any_moment
returns-clause-any_moment g c =
    closing_moments (g.D.Disk.view c.args.disk.now) (g.D.Disk.view c.write_synced.new.disk) c.args.self.now c.place.result (full_round c.args.self.now (omega arith) (omega arith)) c.place.ensures c.write_synced.ensures.within

pub returns-clause-within : goal.returns-clause-within
returns-clause-within g c = gate_within _ c.place.result _ _ c.place.ensures c.write_synced.ensures.within

pub returns-clause-ready : goal.returns-clause-ready
returns-clause-ready g c =
    closing_ready (g.D.Disk.view c.args.disk.now) (g.D.Disk.view c.write_synced.new.disk) c.args.self.now _ c.place.result (full_round c.args.self.now (omega arith) (omega arith)) refl refl refl refl c.place.ensures c.requires.disk c.write_synced.ensures.within c.in_ok-write_synced.ensures.written c.in_ok-write_synced.ensures.durable c.in_ok-write_synced.ensures.ran.told
