use Rattle.sg_manifest.proofs.WholeAgain.{text_injective}
use Rattle.sg_manifest.proofs.reading.one_text.Goals as goal

pub returns : goal.returns
returns c = text_injective
