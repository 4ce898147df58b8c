use Rattle.std.proofs.Common.{◌≢◌, arith}
use Rattle.sg_endings.specs.Texts.{memory_fault}
use Rattle.signage.specs.Texts.{usage}
use Rattle.sg_words.specs.Options.{texts}
use Rattle.sg_connection.specs.Serving.{scene_at}
use Rattle.sg_lines.specs.Reading.{Input}
use Rattle.sg_serve_command.specs.Serves.{Serves, door_at}
use Rattle.signage.specs.Top.{Does, IsUsage}
use Rattle.sg_endings.proofs.Endings.{stopped_first}
use Rattle.signage.proofs.TopLemmas.{all_alone, all_kept, one_command, not_usage, runs_out, usage_shown, usage_lost}
use Rattle.signage.proofs.tops.top.Goals as goal

pub returns-in-Ok-Some-clause-usage : goal.returns-in-Ok-Some-clause-usage
returns-in-Ok-Some-clause-usage g c = λ two other names.
    let fine : c.follow.result ≢ 5 = λ five. omega (arith, two, five) in
    let written = c.follow.ensures.run.done fine in
    not_usage _ _ _ _ _ _ c.in-Ok-Some.command _ _ _ _ c.follow.result written.text two written.is

pub returns-in-Ok-Some-clause-run : goal.returns-in-Ok-Some-clause-run
returns-in-Ok-Some-clause-run g c = λ other names.
    let given = rw c.in-Ok-Some.field-0-is at c.in-Ok-Some.ensures in
    rw (one_command (texts c.args.words.now) other c.in-Ok-Some.command names given) c.follow.ensures.run

pub returns-in-Ok-Some-clause-alone : goal.returns-in-Ok-Some-clause-alone
returns-in-Ok-Some-clause-alone g c = λ other names.
    let given = rw c.in-Ok-Some.field-0-is at c.in-Ok-Some.ensures in
    rw (one_command (texts c.args.words.now) other c.in-Ok-Some.command names given) c.follow.ensures.alone

pub returns-in-Ok-Some-clause-rows : goal.returns-in-Ok-Some-clause-rows
returns-in-Ok-Some-clause-rows g c = λ other names.
    let given = rw c.in-Ok-Some.field-0-is at c.in-Ok-Some.ensures in
    rw (one_command (texts c.args.words.now) other c.in-Ok-Some.command names given) c.follow.ensures.rows

pub returns-in-Ok-None-clause-other : goal.returns-in-Ok-None-clause-other
returns-in-Ok-None-clause-other g c = λ none. stopped_first IsUsage 2 usage c.finish.result _ _ _ _ c.finish.ensures usage_shown

pub returns-in-Err-clause-run : goal.returns-in-Err-clause-run
returns-in-Err-clause-run g c = λ other names.
    let input : Input = record { left = g.S.Ends.left c.args.outside.now.source; faults = g.S.Ends.take_faults c.args.outside.now.source } in
    let keeper = c.args.outside.now.keeper in
    let door = c.args.outside.now.door in
    let at = door_at (g.N.Door.coming door) (g.N.Door.back door) (g.N.Door.ended door) (g.N.Door.faults door) in
    let view = g.K.Keeper.view in
    stopped_first
    (Does (λ operator limit. Serves view
    (λ conn state. scene_at (g.N.Conn.Ends.left conn) (g.N.Conn.Ends.take_faults conn) (g.N.Conn.Ends.written conn) (g.N.Conn.Ends.put_faults conn) state)
    operator limit at at keeper keeper) other input input (view keeper) (view keeper))
    9 memory_fault c.finish-in-Err.result _ _ _ _ c.finish-in-Err.ensures
    (runs_out view
    (λ conn state. scene_at (g.N.Conn.Ends.left conn) (g.N.Conn.Ends.take_faults conn) (g.N.Conn.Ends.written conn) (g.N.Conn.Ends.put_faults conn) state)
    at keeper other input)

pub returns-in-Err-clause-alone : goal.returns-in-Err-clause-alone
returns-in-Err-clause-alone g c = λ other names. all_alone other c.args.outside.now.source c.args.outside.now.keeper c.args.outside.now.door

pub returns-in-Err-clause-rows : goal.returns-in-Err-clause-rows
returns-in-Err-clause-rows g c = λ other names. all_kept other (g.K.Keeper.view c.args.outside.now.keeper)

pub returns-in-Err-clause-other : goal.returns-in-Err-clause-other
returns-in-Err-clause-other g c = λ none. stopped_first IsUsage 9 memory_fault c.finish-in-Err.result _ _ _ _ c.finish-in-Err.ensures usage_lost
