use Rattle.std.proofs.Common.{inl, [], ◌∷◌, arith}
use Rattle.sg_disk.specs.View.{Written, Torn}
use Rattle.sg_disk.specs.Runs.{Broke}
use Rattle.sg_disk.proofs.Moments.{ran_one, ran_broke}
use Rattle.sg_store.proofs.FreshLemmas.{on_err}
use Rattle.sg_disk.specs.declared.places.TheConstants.{JOURNAL, JOURNAL_LEN, SLOT_ONE, SLOT_ZERO}
use Rattle.sg_store.proofs.FreshLemmas.{zeros_kept, slots_cleared}
use Rattle.sg_store.proofs.fresh.clear.Goals as goal

pub returns-clause-zero : goal.returns-clause-zero
returns-clause-zero g c told =
    let v = g.D.Disk.view c.write_at.new.self in
    let w = g.D.Disk.view c.write_at-2.new.self in
    let x = g.D.Disk.view c.write_at-3.new.self in
    let y = g.D.Disk.view c.clear_journal.new.disk in
    let both = slots_cleared v w x (g.D.Disk.view c.args.disk.now) told c.in_ok-write_at.ensures.passed.told (omega arith) c.write_at-2.ensures.size c.in_ok-write_at-2.ensures.passed c.in_ok-write_at-3.ensures.passed in
    let here = c.in_ok-write_at-3.ensures.passed.told (c.in_ok-write_at-2.ensures.passed.told (c.in_ok-write_at.ensures.passed.told told)) in
    zeros_kept SLOT_ZERO 1 JOURNAL JOURNAL_LEN x.bytes y.bytes (c.in_ok-clear_journal.ensures.torn here) (inl (omega arith)) both.0

pub returns-clause-one : goal.returns-clause-one
returns-clause-one g c told =
    let v = g.D.Disk.view c.write_at.new.self in
    let w = g.D.Disk.view c.write_at-2.new.self in
    let x = g.D.Disk.view c.write_at-3.new.self in
    let y = g.D.Disk.view c.clear_journal.new.disk in
    let both = slots_cleared v w x (g.D.Disk.view c.args.disk.now) told c.in_ok-write_at.ensures.passed.told (omega arith) c.write_at-2.ensures.size c.in_ok-write_at-2.ensures.passed c.in_ok-write_at-3.ensures.passed in
    let here = c.in_ok-write_at-3.ensures.passed.told (c.in_ok-write_at-2.ensures.passed.told (c.in_ok-write_at.ensures.passed.told told)) in
    zeros_kept SLOT_ONE 1 JOURNAL JOURNAL_LEN x.bytes y.bytes (c.in_ok-clear_journal.ensures.torn here) (inl (omega arith)) both.1

pub returns-in_err-clear_journal-clause-broke : goal.returns-in_err-clear_journal-clause-broke
returns-in_err-clear_journal-clause-broke g c =
    let u = g.D.Disk.view c.args.disk.now in
    let v = g.D.Disk.view c.write_at.new.self in
    let w = g.D.Disk.view c.write_at-2.new.self in
    let x = g.D.Disk.view c.write_at-3.new.self in
    let y = g.D.Disk.view c.clear_journal.new.disk in
    let first = ran_one (Written 0 (0 ∷ [])) (Torn 0 1) u v c.in_ok-write_at.ensures.passed in
    let second = ran_one (Written SLOT_ZERO (0 ∷ [])) (Torn SLOT_ZERO 1) v w c.in_ok-write_at-2.ensures.passed in
    let third = ran_one (Written SLOT_ONE (0 ∷ [])) (Torn SLOT_ONE 1) w x c.in_ok-write_at-3.ensures.passed in
    on_err c.from_residual-in_err-clear_journal.result (Broke u y) (ran_broke 1 u v y first (ran_broke 1 v w y second (ran_broke 1 w x y third c.in_err-clear_journal.ensures.broke)))
