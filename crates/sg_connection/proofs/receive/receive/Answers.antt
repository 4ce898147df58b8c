use Rattle.std.proofs.Common.{◌∙◌, arith, subst}
use Rattle.sg_base.specs.Causes.{Rose}
use Rattle.sg_connection.proofs.TakeLemmas.{awaited_on, comes_then, still_none}
use Rattle.sg_connection.proofs.receive.receive.Goals as goal

pub loop-next-preserved : goal.loop-next-preserved
loop-next-preserved g c =
    let far = c.loop-next.invariant in
    let took = c.in-More.ensures in
    record {
      comes = comes_then _ _ _ _ _ _ far.comes took.comes;
      faults = took.finds.0 ∙ far.faults;
      awaited = awaited_on c.stream.result.now c.loop-next.inbox.stream c.take.new.self.stream took.comes.more c.in-Later.later c.stream.ensures took.comes.stream c.in-Later.ensures.0;
      limit = took.limit;
      room = omega (arith, far.room, c.take.auto.piece);
      apart = record { bytes = took.apart.bytes ∙ far.apart.bytes; faults = took.apart.faults ∙ far.apart.faults };
    }

pub returns-in-End-clause-comes : goal.returns-in-End-clause-comes
returns-in-End-clause-comes g c = comes_then _ _ _ _ _ _ c.loop-next.invariant.comes c.in-End.ensures.comes

pub returns-in-End-clause-receives : goal.returns-in-End-clause-receives
returns-in-End-clause-receives g c =
    let found = c.in-End.ensures.finds in
    (found.0 ∙ c.loop-next.invariant.faults, still_none c.stream.result.now c.loop-next.inbox c.take.new.self c.stream.ensures found.2 c.in-Later.ensures.1, found.1)

pub returns-in-Failed-clause-comes : goal.returns-in-Failed-clause-comes
returns-in-Failed-clause-comes g c = comes_then _ _ _ _ _ _ c.loop-next.invariant.comes c.in-Failed.ensures.comes

pub returns-in-Failed-clause-receives : goal.returns-in-Failed-clause-receives
returns-in-Failed-clause-receives g c =
    let found = c.in-Failed.ensures.finds in (
      still_none c.stream.result.now c.loop-next.inbox c.take.new.self c.stream.ensures found.1 c.in-Later.ensures.1,
      subst (λ n. Rose n (g.S.Ends.take_faults c.take.new.source)) c.loop-next.invariant.faults found.0,
    )

pub returns-in-Spent-clause-comes : goal.returns-in-Spent-clause-comes
returns-in-Spent-clause-comes g c = comes_then _ _ _ _ _ _ c.loop-next.invariant.comes c.in-Spent.ensures.comes

pub returns-in-Spent-clause-receives : goal.returns-in-Spent-clause-receives
returns-in-Spent-clause-receives g c =
    let found = c.in-Spent.ensures.finds in
    (found.0 ∙ c.loop-next.invariant.faults, still_none c.stream.result.now c.loop-next.inbox c.take.new.self c.stream.ensures found.1 c.in-Later.ensures.1, found.2)

pub returns-in-NoMemory-clause-comes : goal.returns-in-NoMemory-clause-comes
returns-in-NoMemory-clause-comes g c = comes_then _ _ _ _ _ _ c.loop-next.invariant.comes c.in-NoMemory.ensures.comes
