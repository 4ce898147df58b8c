use Rattle.std.proofs.Common.{ℕ, List, get_or, ◌∙◌, ap, arith}
use Rattle.sg_disk.specs.View.{View}
use Rattle.sg_disk.specs.Runs.{Broke}
use Rattle.sg_disk.proofs.Ranges.{byte_put}
use Rattle.sg_disk.proofs.Moments.{ran_broke}
use Rattle.sg_upgrade.proofs.UpgradeLemmas.{on_err, new_but, upgrading_still, upgrading_version}
use Rattle.sg_upgrade.proofs.upgrading.upgrade.Goals as goal

pub returns-in_err-prepare-clause-any_moment : goal.returns-in_err-prepare-clause-any_moment
returns-in_err-prepare-clause-any_moment g c told long = upgrading_still c.args.room (g.D.Disk.view c.args.disk.now) (g.D.Disk.view c.prepare.new.disk) (c.prepare.ensures.any_moment long)

pub returns-in_err-write_synced-clause-any_moment : goal.returns-in_err-write_synced-clause-any_moment
returns-in_err-write_synced-clause-any_moment g c told long =
    let u : View = g.D.Disk.view c.args.disk.now in
    let v : View = g.D.Disk.view c.prepare.new.disk in
    let w : View = g.D.Disk.view c.write_synced.new.disk in
    let here = c.in_ok-prepare.ensures.ran.told told in
    upgrading_version c.args.room u v w told (c.in_ok-prepare.ensures.stable told) (c.in_ok-prepare.ensures.still told long) (v.sized here ∙ c.in_ok-prepare.ensures.size) (c.in_ok-prepare.ensures.mark told) (c.in_ok-prepare.ensures.zeros told) (c.prepare.ensures.any_moment long) c.write_synced.ensures.within

pub returns-clause-any_moment : goal.returns-clause-any_moment
returns-clause-any_moment g c told long =
    let u : View = g.D.Disk.view c.args.disk.now in
    let v : View = g.D.Disk.view c.prepare.new.disk in
    let w : View = g.D.Disk.view c.write_synced.new.disk in
    let here = c.in_ok-prepare.ensures.ran.told told in
    upgrading_version c.args.room u v w told (c.in_ok-prepare.ensures.stable told) (c.in_ok-prepare.ensures.still told long) (v.sized here ∙ c.in_ok-prepare.ensures.size) (c.in_ok-prepare.ensures.mark told) (c.in_ok-prepare.ensures.zeros told) (c.prepare.ensures.any_moment long) c.write_synced.ensures.within

pub returns-clause-whole : goal.returns-clause-whole
returns-clause-whole g c told long =
    let u : View = g.D.Disk.view c.args.disk.now in
    let v : View = g.D.Disk.view c.prepare.new.disk in
    let w : View = g.D.Disk.view c.write_synced.new.disk in
    let here = c.in_ok-prepare.ensures.ran.told told in
    new_but c.args.room u.bytes v.bytes w.bytes (c.in_ok-prepare.ensures.still told long) (v.sized here ∙ c.in_ok-prepare.ensures.size) (c.in_ok-prepare.ensures.mark told) (c.in_ok-prepare.ensures.zeros told) (c.write_synced.ensures.within.bytes here)

pub returns-clause-version : goal.returns-clause-version
returns-clause-version g c told =
    let v : View = g.D.Disk.view c.prepare.new.disk in
    let here = c.in_ok-prepare.ensures.ran.told told in
    ap (λ (b : List ℕ). get_or b 4 0) (c.in_ok-write_synced.ensures.written here) ∙ byte_put v.bytes 4 2 (omega (arith, v.sized here, c.in_ok-prepare.ensures.size))

pub returns-in_err-write_synced-clause-broke : goal.returns-in_err-write_synced-clause-broke
returns-in_err-write_synced-clause-broke g c =
    let u : View = g.D.Disk.view c.args.disk.now in
    let v : View = g.D.Disk.view c.prepare.new.disk in
    let w : View = g.D.Disk.view c.write_synced.new.disk in
    on_err c.from_residual-in_err-write_synced.result (Broke u w) (ran_broke 3 u v w c.in_ok-prepare.ensures.ran c.in_err-write_synced.ensures.broke)
