use Rattle.sg_manifest.proofs.ReadLemmas.{manifest_again, manifest_found}
use Rattle.sg_manifest.proofs.reading.reads_text.Goals as goal

pub returns-clause-reads : goal.returns-clause-reads
returns-clause-reads c = manifest_again

pub returns-clause-found : goal.returns-clause-found
returns-clause-found c = manifest_found
