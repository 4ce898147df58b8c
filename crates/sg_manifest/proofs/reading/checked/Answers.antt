use Rattle.sg_manifest.proofs.ReadLemmas.{snapshot_valid}
use Rattle.sg_manifest.proofs.reading.checked.Goals as goal

pub new-requires : goal.new-requires
new-requires c = rw c.ordered.ensures (snapshot_valid c.in_ok-draft.draft c.in_ok-draft.ensures.sound c.in_ok-nothing_missing.ensures.none)
