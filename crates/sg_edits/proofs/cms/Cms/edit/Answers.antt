use Rattle.std.proofs.Common.{◌≡◌, None, subst}
use Rattle.std.specs.Prelude.{IfOk, OnErr, OnOk}
use Rattle.sg_edits.specs.Edited.{core_of}
use Rattle.sg_edits.proofs.AfterLemmas.{same_core}
use Rattle.sg_keeper.specs.View.{Ran}
use Rattle.sg_records.specs.declared.reply.Reply.{Reply}
use Rattle.sg_steps.specs.State.{Content, Core, Stands}
use Rattle.sg_steps.specs.Step.{content_in, given_in, step}
use Rattle.sg_edits.proofs.cms.Cms.edit.Goals as goal

pub invariant_of-self : goal.invariant_of-self
invariant_of-self g c = c.edit.ensures.server c.self.inside.epochs.items c.self.inside.settings.plays_limit c.self.invariant

pub returns-clause-step : goal.returns-clause-step
returns-clause-step g c =
    subst (λ old. IfOk c.edit.result (λ (r : Reply). record { core = core_of c.edit.new.tables.rows c.edit.new.clients.items c.self.inside.epochs.items c.self.inside.settings.plays_limit; reply = r } ≡ step old c.args.client c.args.seq c.args.edit.now)) c.self.view_is (c.edit.ensures.step c.self.inside.epochs.items c.self.inside.settings.plays_limit)

pub returns-clause-rows : goal.returns-clause-rows
returns-clause-rows g c =
    subst (λ old. OnOk c.edit.result ((content : Content) → (g.K.Keeper.view c.args.keeper.now).told → Stands old content (g.K.Keeper.view c.args.keeper.now).rows → Stands (core_of c.edit.new.tables.rows c.edit.new.clients.items c.self.inside.epochs.items c.self.inside.settings.plays_limit) (content_in c.edit.new.tables.rows content) (g.K.Keeper.view c.edit.new.keeper).rows)) c.self.view_is
    (c.edit.ensures.rows c.self.inside.epochs.items c.self.inside.settings.plays_limit c.self.invariant)

pub returns-clause-executed : goal.returns-clause-executed
returns-clause-executed g c =
    subst (λ (old : Core). given_in old.clients c.args.client c.args.seq ≡ None → OnOk c.edit.result (Ran 1 (g.K.Keeper.view c.args.keeper.now) (g.K.Keeper.view c.edit.new.keeper))) c.self.view_is c.edit.ensures.executed

pub returns-clause-unchanged : goal.returns-clause-unchanged
returns-clause-unchanged g c =
    subst (λ old. OnErr c.edit.result ((core_of c.edit.new.tables.rows c.edit.new.clients.items c.self.inside.epochs.items c.self.inside.settings.plays_limit) ≡ old)) c.self.view_is
    (same_core c.edit.result c.edit.new.tables.rows c.self.inside.tables.rows c.edit.new.clients.items c.self.inside.clients.items c.self.inside.epochs.items c.self.inside.settings.plays_limit c.edit.ensures.tables c.edit.ensures.clients)

pub returns-clause-ordered : goal.returns-clause-ordered
returns-clause-ordered g c = c.edit.ensures.server c.self.inside.epochs.items c.self.inside.settings.plays_limit c.self.invariant
