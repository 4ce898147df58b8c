use Rattle.std.proofs.Common.{refl}
use Rattle.sg_manifest.proofs.JsonLemmas.{json_value, json_refusal, not_where_false}
use Rattle.sg_manifest.proofs.reading.parse.Goals as goal

pub returns-in-Ok : goal.returns-in-Ok
returns-in-Ok c = json_value c.args.bytes.now _ c.in-Ok.ensures.ok.0 c.in-Ok.ensures.ok.1

pub returns-else-is_memory : goal.returns-else-is_memory
returns-else-is_memory c = (
  λ _. json_refusal c.args.bytes.now (c.in-Err.ensures.err (λ m. not_where_false _ c.is_memory.result c.is_memory.ensures c.if-is_memory.false m)),
  refl,
)
