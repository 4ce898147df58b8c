use Rattle.std.proofs.Common.{◌≡◌, ◌<◌, length, subst}
use Rattle.std.specs.Prelude.{IfOk, OnErr, OnOk}
use Rattle.sg_edits.specs.Edited.{core_of}
use Rattle.sg_edits.proofs.AfterLemmas.{same_epochs}
use Rattle.sg_keeper.specs.View.{Ran}
use Rattle.sg_steps.specs.declared.replies.PlaysReply.{PlaysReply}
use Rattle.sg_steps.specs.Epochs.{played, with_plays}
use Rattle.sg_steps.specs.State.{Content, Core, Stands}
use Rattle.sg_edits.proofs.cms.Cms.plays.Goals as goal

pub invariant_of-self : goal.invariant_of-self
invariant_of-self g c = c.plays.ensures.server c.self.inside.tables.rows c.self.inside.clients.items c.self.invariant

pub returns-clause-step : goal.returns-clause-step
returns-clause-step g c =
    subst (λ (old : Core). IfOk c.plays.result (λ (r : PlaysReply). ((core_of c.self.inside.tables.rows c.self.inside.clients.items c.plays.new.epochs.items c.self.inside.settings.plays_limit) ≡ record old { epochs = (played old c.args.display.0 c.args.epoch c.args.first c.args.list.now).epochs }) × (r ≡ (played old c.args.display.0 c.args.epoch c.args.first c.args.list.now).reply))) c.self.view_is (c.plays.ensures.step c.self.inside.tables.rows c.self.inside.clients.items)

pub returns-clause-rows : goal.returns-clause-rows
returns-clause-rows g c =
    subst (λ (old : Core). OnOk c.plays.result ((content : Content) → (g.K.Keeper.view c.args.keeper.now).told → Stands old content (g.K.Keeper.view c.args.keeper.now).rows → Stands (core_of c.self.inside.tables.rows c.self.inside.clients.items c.plays.new.epochs.items c.self.inside.settings.plays_limit) (with_plays c.args.display.0 c.args.epoch (played old c.args.display.0 c.args.epoch c.args.first c.args.list.now).added content) (g.K.Keeper.view c.plays.new.keeper).rows)) c.self.view_is
    (c.plays.ensures.rows c.self.inside.tables.rows c.self.inside.clients.items c.self.invariant)

pub returns-clause-added : goal.returns-clause-added
returns-clause-added g c =
    subst (λ (old : Core). 0 < length (played old c.args.display.0 c.args.epoch c.args.first c.args.list.now).added → OnOk c.plays.result (Ran 1 (g.K.Keeper.view c.args.keeper.now) (g.K.Keeper.view c.plays.new.keeper))) c.self.view_is (c.plays.ensures.added c.self.inside.tables.rows c.self.inside.clients.items)

pub returns-clause-unchanged : goal.returns-clause-unchanged
returns-clause-unchanged g c =
    subst (λ old. OnErr c.plays.result ((core_of c.self.inside.tables.rows c.self.inside.clients.items c.plays.new.epochs.items c.self.inside.settings.plays_limit) ≡ old)) c.self.view_is
    (same_epochs c.plays.result c.self.inside.tables.rows c.self.inside.clients.items c.plays.new.epochs.items c.self.inside.epochs.items c.self.inside.settings.plays_limit c.plays.ensures.unchanged)

pub returns-clause-ordered : goal.returns-clause-ordered
returns-clause-ordered g c = c.plays.ensures.server c.self.inside.tables.rows c.self.inside.clients.items c.self.invariant
