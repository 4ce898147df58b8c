use Rattle.sg_views.proofs.ViewLemmas.{same_files, same_manifest}
use Rattle.sg_views.proofs.manifest.same_answers.Goals as goal

pub returns-clause-manifest : goal.returns-clause-manifest
returns-clause-manifest c = same_manifest

pub returns-clause-files : goal.returns-clause-files
returns-clause-files c = same_files
