use Rattle.std.proofs.Common.{sym, ◌∙◌}
use Rattle.sg_manifest.proofs.ReadLemmas.{manifest_again}
use Rattle.sg_manifest.proofs.reading.read.Goals as goal

pub returns-in-Ok-clause-exact : goal.returns-in-Ok-clause-exact
returns-in-Ok-clause-exact c = manifest_again c.args.bytes.now c.in-Ok.snapshot c.in-Ok.ensures

pub returns-in-Ok-clause-only : goal.returns-in-Ok-clause-only
returns-in-Ok-clause-only c = λ s h. sym (manifest_again c.args.bytes.now s h) ∙ manifest_again c.args.bytes.now c.in-Ok.snapshot c.in-Ok.ensures

pub returns-in-Err-clause-only : goal.returns-in-Err-clause-only
returns-in-Err-clause-only c = λ s h. rw (manifest_again c.args.bytes.now s h) at c.checked.ensures.exact
