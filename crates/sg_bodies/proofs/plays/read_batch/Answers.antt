use Rattle.std.proofs.Common.{◌∙◌, ap, arith, rules, sym}
use Rattle.std.specs.Prelude.{Ok}
use Rattle.serde_json.specs.View.{view}
use Rattle.sg_bodies.proofs.PlayLemmas.{many_plays, no_plays, some_plays}
use Rattle.sg_bodies.proofs.plays.read_batch.Goals as goal

pub returns-then-is_empty : goal.returns-then-is_empty
returns-then-is_empty c =
    record { gives = λ _. no_plays (view c.args.value.now) c.in_ok-items.items.now c.in_ok-items.ensures (search rules) }

pub returns-then-items-gt-BATCH_PLAYS : goal.returns-then-items-gt-BATCH_PLAYS
returns-then-items-gt-BATCH_PLAYS c =
    record { gives = λ _. many_plays (view c.args.value.now) c.in_ok-items.items.now c.in_ok-items.ensures (omega arith) }

pub returns-in-Ok : goal.returns-in-Ok
returns-in-Ok c = record {
  gives = some_plays (view c.args.value.now) c.in_ok-items.items.now c.in_ok-items.ensures (search rules) (omega arith)
      ∙ c.in-Ok.ensures.gives ∙ ap Ok (sym c.from_vec.ensures);
}

pub returns-in-Err : goal.returns-in-Err
returns-in-Err c = record {
  gives = λ cause. some_plays (view c.args.value.now) c.in_ok-items.items.now c.in_ok-items.ensures (search rules) (omega arith)
      ∙ c.in-Err.ensures.gives cause;
}
