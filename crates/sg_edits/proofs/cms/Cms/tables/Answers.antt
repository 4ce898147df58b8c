use Rattle.std.proofs.Common.{subst}
use Rattle.std.specs.List.{AllByRecursion}
use Rattle.sg_records.specs.Saved.{IsSaved}
use Rattle.sg_steps.specs.State.{Core}
use Rattle.sg_edits.proofs.cms.Cms.tables.Goals as goal

pub returns-clause-saved : goal.returns-clause-saved
returns-clause-saved c = subst (λ (core : Core). AllByRecursion IsSaved core.rows) c.self.view_is c.self.invariant.server.rows
