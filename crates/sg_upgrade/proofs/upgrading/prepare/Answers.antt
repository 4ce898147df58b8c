use Rattle.std.proofs.Common.{inr, ℕ, ◌+◌, ◌-◌, List, codes, ◌∙◌, ap, arith}
use Rattle.sg_disk.specs.View.{View, range}
use Rattle.sg_disk.specs.declared.places.TheConstants.{DATA}
use Rattle.sg_disk.proofs.Ranges.{range_put}
use Rattle.sg_upgrade.specs.declared.places.TheConstants.{WHOLE, SECOND_MARK}
use Rattle.sg_upgrade.proofs.ClearLemmas.{zeros_outside}
use Rattle.sg_upgrade.proofs.UpgradeLemmas.{still_sized, still_behind, still_mark, still_joined, stays_resized, stays_resized_failed, stays_mark, stays_behind, stays_joined}
use Rattle.sg_upgrade.proofs.upgrading.prepare.Goals as goal

pub returns-in_err-resize-clause-any_moment : goal.returns-in_err-resize-clause-any_moment
returns-in_err-resize-clause-any_moment g c long = stays_resized_failed c.args.room (g.D.Disk.view c.args.disk.now) (g.D.Disk.view c.resize.new.self) long c.in_err-resize.ensures.failed

pub returns-in_err-clear_behind-clause-any_moment : goal.returns-in_err-clear_behind-clause-any_moment
returns-in_err-clear_behind-clause-any_moment g c long =
    let u = g.D.Disk.view c.args.disk.now in
    let v = g.D.Disk.view c.resize.new.self in
    let w = g.D.Disk.view c.clear_behind.new.disk in
    stays_joined c.args.room u v w (stays_resized c.args.room u v long c.in_ok-resize.ensures.passed) (stays_behind c.args.room (WHOLE - DATA) v w c.clear_behind.ensures.within)

pub returns-in_err-write_synced-clause-any_moment : goal.returns-in_err-write_synced-clause-any_moment
returns-in_err-write_synced-clause-any_moment g c long =
    let u = g.D.Disk.view c.args.disk.now in
    let v = g.D.Disk.view c.resize.new.self in
    let w = g.D.Disk.view c.clear_behind.new.disk in
    let x = g.D.Disk.view c.write_synced.new.disk in
    stays_joined c.args.room u w x (stays_joined c.args.room u v w (stays_resized c.args.room u v long c.in_ok-resize.ensures.passed) (stays_behind c.args.room (WHOLE - DATA) v w c.clear_behind.ensures.within)) (stays_mark c.args.room w x c.write_synced.ensures.within)

pub returns-clause-any_moment : goal.returns-clause-any_moment
returns-clause-any_moment g c long =
    let u = g.D.Disk.view c.args.disk.now in
    let v = g.D.Disk.view c.resize.new.self in
    let w = g.D.Disk.view c.clear_behind.new.disk in
    let x = g.D.Disk.view c.write_synced.new.disk in
    stays_joined c.args.room u w x (stays_joined c.args.room u v w (stays_resized c.args.room u v long c.in_ok-resize.ensures.passed) (stays_behind c.args.room (WHOLE - DATA) v w c.clear_behind.ensures.within)) (stays_mark c.args.room w x c.write_synced.ensures.within)

pub returns-clause-still : goal.returns-clause-still
returns-clause-still g c told long =
    let u : View = g.D.Disk.view c.args.disk.now in
    let v : View = g.D.Disk.view c.resize.new.self in
    let w : View = g.D.Disk.view c.clear_behind.new.disk in
    let x : View = g.D.Disk.view c.write_synced.new.disk in
    let told_1 = c.in_ok-resize.ensures.passed.told told in
    let told_2 = c.in_ok-clear_behind.ensures.ran.told told_1 in
    still_joined c.args.room u.bytes w.bytes x.bytes
    (still_joined c.args.room u.bytes v.bytes w.bytes (still_sized c.args.room u.bytes v.bytes (long u.bytes (u.reads told)) (c.in_ok-resize.ensures.passed.bytes told)) (still_behind c.args.room (WHOLE - DATA) v.bytes w.bytes (c.clear_behind.ensures.within.bytes told_1)))
    (still_mark c.args.room w.bytes x.bytes (c.write_synced.ensures.within.bytes told_2))

pub returns-clause-mark : goal.returns-clause-mark
returns-clause-mark g c told =
    let w : View = g.D.Disk.view c.clear_behind.new.disk in
    let told_1 = c.in_ok-resize.ensures.passed.told told in
    let told_2 = c.in_ok-clear_behind.ensures.ran.told told_1 in
    ap (λ (b : List ℕ). range b SECOND_MARK 8) (c.in_ok-write_synced.ensures.written told_2) ∙ range_put w.bytes SECOND_MARK (codes "SGNSTOR2") (omega (arith, w.sized told_2, c.clear_behind.ensures.size, c.in_ok-resize.ensures.size))

pub returns-clause-zeros : goal.returns-clause-zeros
returns-clause-zeros g c told =
    let w : View = g.D.Disk.view c.clear_behind.new.disk in
    let x : View = g.D.Disk.view c.write_synced.new.disk in
    let told_1 = c.in_ok-resize.ensures.passed.told told in
    let told_2 = c.in_ok-clear_behind.ensures.ran.told told_1 in
    zeros_outside (DATA + c.args.room) (WHOLE - DATA) SECOND_MARK 8 w.bytes x.bytes (c.write_synced.ensures.within.bytes told_2) (inr (omega arith)) (c.in_ok-clear_behind.ensures.zeros told_1)
