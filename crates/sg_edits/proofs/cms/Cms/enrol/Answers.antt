use Rattle.std.proofs.Common.{◌≡◌, subst}
use Rattle.std.specs.Prelude.{IfOk, OnErr, OnOk}
use Rattle.sg_edits.specs.Edited.{core_of}
use Rattle.sg_edits.proofs.AfterLemmas.{same_epochs}
use Rattle.sg_steps.specs.declared.replies.EnrolReply.{EnrolReply}
use Rattle.sg_steps.specs.Epochs.{enrolled}
use Rattle.sg_steps.specs.State.{Content, Stands}
use Rattle.sg_edits.proofs.cms.Cms.enrol.Goals as goal

pub invariant_of-self : goal.invariant_of-self
invariant_of-self g c = c.enrol.ensures.server c.self.inside.clients.items c.self.inside.settings.plays_limit c.self.invariant

pub returns-clause-step : goal.returns-clause-step
returns-clause-step g c =
    subst (λ old. IfOk c.enrol.result (λ (r : EnrolReply). record { core = core_of c.self.inside.tables.rows c.self.inside.clients.items c.enrol.new.epochs.items c.self.inside.settings.plays_limit; reply = r } ≡ enrolled old c.args.display.0)) c.self.view_is (c.enrol.ensures.step c.self.inside.clients.items c.self.inside.settings.plays_limit)

pub returns-clause-rows : goal.returns-clause-rows
returns-clause-rows g c =
    subst (λ old. OnOk c.enrol.result ((content : Content) → (g.K.Keeper.view c.args.keeper.now).told → Stands old content (g.K.Keeper.view c.args.keeper.now).rows → Stands (core_of c.self.inside.tables.rows c.self.inside.clients.items c.enrol.new.epochs.items c.self.inside.settings.plays_limit) content (g.K.Keeper.view c.enrol.new.keeper).rows)) c.self.view_is
    (c.enrol.ensures.rows c.self.inside.clients.items c.self.inside.settings.plays_limit c.self.invariant)

pub returns-clause-unchanged : goal.returns-clause-unchanged
returns-clause-unchanged g c =
    subst (λ old. OnErr c.enrol.result ((core_of c.self.inside.tables.rows c.self.inside.clients.items c.enrol.new.epochs.items c.self.inside.settings.plays_limit) ≡ old)) c.self.view_is
    (same_epochs c.enrol.result c.self.inside.tables.rows c.self.inside.clients.items c.enrol.new.epochs.items c.self.inside.epochs.items c.self.inside.settings.plays_limit c.enrol.ensures.unchanged)

pub returns-clause-ordered : goal.returns-clause-ordered
returns-clause-ordered g c = c.enrol.ensures.server c.self.inside.clients.items c.self.inside.settings.plays_limit c.self.invariant
