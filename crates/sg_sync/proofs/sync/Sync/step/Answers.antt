use Rattle.std.proofs.Common.{subst}
use Rattle.sg_exchange.specs.Heard.{Outcome}
use Rattle.sg_intake.specs.Stocks.{stock}
use Rattle.sg_sync.specs.Steps.{AsksForManifest, ManifestEnds, Syncing}
use Rattle.sg_sync.proofs.sync.Sync.step.Goals as goal

pub returns-in_default-clause-lists : goal.returns-in_default-clause-lists
returns-in_default-clause-lists g c = λ idle.
    subst (λ (v : Syncing). (outcome : Outcome)
    × AsksForManifest v.caller (g.L.Link.told c.args.link.now) (g.L.Link.told c.list.new.link) outcome
    × ManifestEnds (g.S.Programme.shows c.args.store.now (g.D.Disk.view c.args.disk.now)) outcome
    (stock (g.S.Staging.holds c.args.store.now) (g.S.Staging.part c.args.store.now) (g.S.Intake.came c.args.store.now))
    (stock (g.S.Staging.holds c.list.new.store) (g.S.Staging.part c.list.new.store) (g.S.Intake.came c.list.new.store)) c.in-Ok.begun.listing c.in-Ok.begun.end)
    c.self.view_is c.in-Ok.ensures.listed
