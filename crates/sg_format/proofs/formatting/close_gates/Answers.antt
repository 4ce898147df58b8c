use Rattle.std.proofs.Common.{arith}
use Rattle.sg_format.proofs.FormatLemmas.{slots_closed}
use Rattle.sg_format.proofs.formatting.close_gates.Goals as goal

pub returns-clause-zero : goal.returns-clause-zero
returns-clause-zero g c told =
    let v = g.D.Disk.view c.write_at.new.self in
    let w = g.D.Disk.view c.write_at-2.new.self in
    let x = g.D.Disk.view c.write_at-3.new.self in
    let both = slots_closed v w x (c.in_ok-write_at.ensures.passed.told told) (omega arith) c.write_at-2.ensures.size c.in_ok-write_at-2.ensures.passed c.in_ok-write_at-3.ensures.passed in
    both.0

pub returns-clause-one : goal.returns-clause-one
returns-clause-one g c told =
    let v = g.D.Disk.view c.write_at.new.self in
    let w = g.D.Disk.view c.write_at-2.new.self in
    let x = g.D.Disk.view c.write_at-3.new.self in
    let both = slots_closed v w x (c.in_ok-write_at.ensures.passed.told told) (omega arith) c.write_at-2.ensures.size c.in_ok-write_at-2.ensures.passed c.in_ok-write_at-3.ensures.passed in
    both.1
