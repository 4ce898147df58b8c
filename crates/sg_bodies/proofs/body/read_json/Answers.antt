use Rattle.sg_bodies.proofs.JsonLemmas.{no_json, not_where_false, some_json}
use Rattle.sg_bodies.proofs.body.read_json.Goals as goal

pub returns-in-Ok-clause-json : goal.returns-in-Ok-clause-json
returns-in-Ok-clause-json c = some_json c.args.bytes.now _ c.in-Ok.ensures.ok.0 c.in-Ok.ensures.ok.1

pub returns-else-is_memory-clause-none : goal.returns-else-is_memory-clause-none
returns-else-is_memory-clause-none c _ =
    no_json c.args.bytes.now (c.in-Err.ensures.err (λ m. not_where_false _ c.is_memory.result c.is_memory.ensures c.if-is_memory.false m))
