use Rattle.std.proofs.Common.{ap, length, refl}
use Rattle.sg_connection.proofs.TurnLemmas.{ended_turn, failed_turn, memory_turn, side_same, spent_turn, turns_after}
use Rattle.sg_connection.proofs.serve.take_turn.Goals as goal

pub returns-in-Whole-clause-turns : goal.returns-in-Whole-clause-turns
returns-in-Whole-clause-turns g c =
    let got = c.in-Whole.ensures in
    turns_after _ _ _ _ c.args.inbox.now c.receive.new.inbox c.react.new.inbox c.react.result got.comes got.receives.0
    (side_same _ _ got.apart.bytes got.apart.faults) refl got.limit c.react.ensures.turns

pub returns-in-Ended-clause-turns : goal.returns-in-Ended-clause-turns
returns-in-Ended-clause-turns g c =
    let got = c.in-Ended.ensures in
    ended_turn _ _ _ c.args.inbox.now c.receive.new.inbox (length c.stream.result.now) c.end_of.result got.comes
    (side_same _ _ got.apart.bytes got.apart.faults) refl got.receives.1 got.receives.2 (ap length c.stream.ensures)
    c.end_of.ensures.none c.end_of.ensures.some

pub returns-in-Failed-clause-turns : goal.returns-in-Failed-clause-turns
returns-in-Failed-clause-turns g c =
    let got = c.in-Failed.ensures in
    failed_turn _ _ _ c.args.inbox.now c.receive.new.inbox got.comes
    (side_same _ _ got.apart.bytes got.apart.faults) refl got.receives.0 got.receives.1

pub returns-in-Spent-clause-turns : goal.returns-in-Spent-clause-turns
returns-in-Spent-clause-turns g c =
    let got = c.in-Spent.ensures in
    spent_turn _ _ _ c.args.inbox.now c.receive.new.inbox got.comes
    (side_same _ _ got.apart.bytes got.apart.faults) refl got.receives.1 got.receives.2

pub returns-in-NoMemory-clause-turns : goal.returns-in-NoMemory-clause-turns
returns-in-NoMemory-clause-turns g c =
    let got = c.in-NoMemory.ensures in
    memory_turn _ _ _ c.args.inbox.now c.receive.new.inbox got.comes (side_same _ _ got.apart.bytes got.apart.faults) refl
