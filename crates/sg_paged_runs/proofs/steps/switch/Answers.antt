use Rattle.std.proofs.Common.{inl, inr, arith}
use Rattle.sg_paged_runs.proofs.StepLemmas.{switches, switch_moments}
use Rattle.sg_disk.specs.declared.places.TheConstants.{JOURNAL, JOURNAL_LEN}
use Rattle.sg_disk.proofs.Keeping.{one_keeps}
use Rattle.sg_paged_runs.proofs.steps.switch.Goals as goal

pub returns-in_err-switch-clause-any_moment : goal.returns-in_err-switch-clause-any_moment
returns-in_err-switch-clause-any_moment g c old at =
    switch_moments (g.D.Disk.view c.args.disk.now) (g.D.Disk.view c.switch.new.disk) c.args.store.now old c.args.manifest.now c.args.files.now (c.may_switch.ensures.held c.if-not-may_switch.false) c.switch.ensures.any_moment at

pub returns-clause-any_moment : goal.returns-clause-any_moment
returns-clause-any_moment g c old at =
    switch_moments (g.D.Disk.view c.args.disk.now) (g.D.Disk.view c.switch.new.disk) c.args.store.now old c.args.manifest.now c.args.files.now (c.may_switch.ensures.held c.if-not-may_switch.false) c.switch.ensures.any_moment at

pub returns-clause-stepped : goal.returns-clause-stepped
returns-clause-stepped g c old at =
    switches (g.D.Disk.view c.args.disk.now) (g.D.Disk.view c.switch.new.disk) c.args.store.now c.switch.new.self old c.args.manifest.now c.args.files.now (c.may_switch.ensures.held c.if-not-may_switch.false) c.in_ok-switch.ensures.ready c.in_ok-switch.ensures.idle at

pub returns-clause-journal : goal.returns-clause-journal
returns-clause-journal g c told one =
    one_keeps JOURNAL JOURNAL_LEN (g.D.Disk.view c.args.disk.now) (g.D.Disk.view c.switch.new.disk) told one (c.switch.ensures.keeps JOURNAL JOURNAL_LEN (inr (omega arith)) (inl (omega arith)))
