use Rattle.std.proofs.Common.{ℕ, ◌≡◌, List, sym, ◌∙◌, ap, subst, arith}
use Rattle.sg_disk.specs.View.{View, Only}
use Rattle.sg_upgrade.specs.Upgrading.{AreLong, IsNewBut}
use Rattle.sg_paged_slots.specs.declared.headers.Header.{Header}
use Rattle.sg_store_state.proofs.RenewLemmas.{format_new, fits_long, stable_read, long_only, renewing, renewed}
use Rattle.sg_paged_store.proofs.renewal.renew.Goals as goal

pub returns-then-not-header-clause-stands : goal.returns-then-not-header-clause-stands
returns-then-not-header-clause-stands g c told only is p standing =
    (standing, format_new p (g.D.Disk.view c.args.disk.now).bytes standing (sym (ap (λ (h : Header). h.old) is) ∙ c.if-not-header.true))

pub returns-in_err-upgrade-clause-any_moment : goal.returns-in_err-upgrade-clause-any_moment
returns-in_err-upgrade-clause-any_moment g c told only is p standing =
    let v : View = g.D.Disk.view c.args.disk.now in
    let m : View = g.D.Disk.view c.read_slots.new.disk in
    let w : View = g.D.Disk.view c.upgrade.new.disk in
    let h : Header = c.args.header.now in
    let here = c.in_ok-read_slots.ensures.quiet.ran.told told in
    let same : m.bytes ≡ v.bytes = c.in_ok-read_slots.ensures.quiet.bytes told in
    let one : Only m.bytes m = subst (λ (b : List ℕ). Only b m) (sym same) (stable_read v m v.bytes only c.in_ok-read_slots.ensures.any_moment) in
    let large = fits_long v.size h c.requires.size in
    let long : AreLong h.format.room m = long_only m 0 h.format.room here one (omega (arith, large, c.in_ok-read_slots.ensures.size)) in
    renewing v m w h p only c.in_ok-read_slots.ensures.any_moment (c.upgrade.ensures.any_moment here long) c.if-not-header.false is standing

pub returns-clause-any_moment : goal.returns-clause-any_moment
returns-clause-any_moment g c told only is p standing =
    let v : View = g.D.Disk.view c.args.disk.now in
    let m : View = g.D.Disk.view c.read_slots.new.disk in
    let w : View = g.D.Disk.view c.upgrade.new.disk in
    let h : Header = c.args.header.now in
    let here = c.in_ok-read_slots.ensures.quiet.ran.told told in
    let same : m.bytes ≡ v.bytes = c.in_ok-read_slots.ensures.quiet.bytes told in
    let one : Only m.bytes m = subst (λ (b : List ℕ). Only b m) (sym same) (stable_read v m v.bytes only c.in_ok-read_slots.ensures.any_moment) in
    let large = fits_long v.size h c.requires.size in
    let long : AreLong h.format.room m = long_only m 0 h.format.room here one (omega (arith, large, c.in_ok-read_slots.ensures.size)) in
    renewing v m w h p only c.in_ok-read_slots.ensures.any_moment (c.upgrade.ensures.any_moment here long) c.if-not-header.false is standing

pub returns-clause-stands : goal.returns-clause-stands
returns-clause-stands g c told only is p standing =
    let v : View = g.D.Disk.view c.args.disk.now in
    let m : View = g.D.Disk.view c.read_slots.new.disk in
    let w : View = g.D.Disk.view c.upgrade.new.disk in
    let h : Header = c.args.header.now in
    let here = c.in_ok-read_slots.ensures.quiet.ran.told told in
    let same : m.bytes ≡ v.bytes = c.in_ok-read_slots.ensures.quiet.bytes told in
    let one : Only m.bytes m = subst (λ (b : List ℕ). Only b m) (sym same) (stable_read v m v.bytes only c.in_ok-read_slots.ensures.any_moment) in
    let large = fits_long v.size h c.requires.size in
    let long : AreLong h.format.room m = long_only m 0 h.format.room here one (omega (arith, large, c.in_ok-read_slots.ensures.size)) in
    renewed v m w h p same (c.in_ok-upgrade.ensures.whole here long) (c.in_ok-upgrade.ensures.version here) c.if-not-header.false is standing

pub returns-clause-upgraded : goal.returns-clause-upgraded
returns-clause-upgraded g c told only old =
    let v : View = g.D.Disk.view c.args.disk.now in
    let m : View = g.D.Disk.view c.read_slots.new.disk in
    let w : View = g.D.Disk.view c.upgrade.new.disk in
    let h : Header = c.args.header.now in
    let here = c.in_ok-read_slots.ensures.quiet.ran.told told in
    let same : m.bytes ≡ v.bytes = c.in_ok-read_slots.ensures.quiet.bytes told in
    let one : Only m.bytes m = subst (λ (b : List ℕ). Only b m) (sym same) (stable_read v m v.bytes only c.in_ok-read_slots.ensures.any_moment) in
    let large = fits_long v.size h c.requires.size in
    let long : AreLong h.format.room m = long_only m 0 h.format.room here one (omega (arith, large, c.in_ok-read_slots.ensures.size)) in
    subst (λ (b : List ℕ). IsNewBut h.format.room b w.bytes) same (c.in_ok-upgrade.ensures.whole here long)

pub returns-in_err-read_slots-clause-long : goal.returns-in_err-read_slots-clause-long
returns-in_err-read_slots-clause-long g c place found is = omega (arith, fits_long (g.D.Disk.view c.args.disk.now).size c.args.header.now c.requires.size, c.read_slots.ensures.size)
