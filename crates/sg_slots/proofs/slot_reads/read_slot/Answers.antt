use Rattle.std.proofs.Common.{arith}
use Rattle.std.proofs.lemmas.Result.{err_from_is_err_and}
use Rattle.sg_disk.proofs.Moments.{ran_joined, ran_broke, ran_fewer}
use Rattle.sg_slots.proofs.RefusalLemmas.{ended_damaged}
use Rattle.sg_slots.proofs.slot_reads.read_slot.Goals as goal

pub returns-in_err-check_head-clause-ended : goal.returns-in_err-check_head-clause-ended
returns-in_err-check_head-clause-ended g c =
    let v = g.D.Disk.view c.args.disk.now in
    let a = g.D.Disk.view c.read_head.new.disk in
    let p = err_from_is_err_and c.from_residual-in_err-check_head.result c.from_residual-in_err-check_head.ensures.1 in
    rw (p.1, p.2) (ended_damaged (Unit {0}) c.in_err-check_head.field-0.0 v a c.in_err-check_head.ensures.only (ran_fewer 1 0 v a (omega arith) c.in_ok-head.ensures.quiet.ran))

pub returns-in_err-read_table-clause-ended : goal.returns-in_err-read_table-clause-ended
returns-in_err-read_table-clause-ended g c =
    let v = g.D.Disk.view c.args.disk.now in
    let a = g.D.Disk.view c.read_head.new.disk in
    let b = g.D.Disk.view c.read_table.new.disk in
    let p = err_from_is_err_and c.from_residual-in_err-read_table.result c.from_residual-in_err-read_table.ensures.1 in
    rw (p.1, p.2) (ran_broke 1 v a b c.in_ok-head.ensures.quiet.ran c.in_err-read_table.ensures.broke)

pub returns-in_err-read_entries-clause-ended : goal.returns-in_err-read_entries-clause-ended
returns-in_err-read_entries-clause-ended g c =
    let v = g.D.Disk.view c.args.disk.now in
    let a = g.D.Disk.view c.read_head.new.disk in
    let b = g.D.Disk.view c.read_table.new.disk in
    let p = err_from_is_err_and c.from_residual-in_err-read_entries.result c.from_residual-in_err-read_entries.ensures.1 in
    rw (p.1, p.2) (ended_damaged (Unit {0}) c.in_err-read_entries.field-0.0 v b c.in_err-read_entries.ensures.only (ran_fewer 2 0 v b (omega arith) (ran_joined 1 1 v a b c.in_ok-head.ensures.quiet.ran c.in_ok-read_table.ensures.quiet.ran)))
