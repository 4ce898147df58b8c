use Rattle.sg_manifest.proofs.ReadLemmas.{snapshot_valid}
use Rattle.sg_manifest.proofs.reading.scanned.Goals as goal

pub new-snapshot-requires : goal.new-snapshot-requires
new-snapshot-requires c = rw c.ordered.ensures (snapshot_valid c.in-Some.draft c.in-Some.ensures c.in_ok-nothing_missing.ensures.none)
