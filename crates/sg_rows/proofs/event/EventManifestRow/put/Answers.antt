use Rattle.std.proofs.Common.{inl, inr}
use Rattle.sg_rows.proofs.event.EventManifestRow.put.Goals as goal

pub returns-in-Version1 : goal.returns-in-Version1
returns-in-Version1 g c = rw c.in-Version1.is c.put_flat.ensures

pub returns-in-Version2 : goal.returns-in-Version2
returns-in-Version2 g c = elim c.in-Version2.is [ inl e ↦ rw e c.put_layered.ensures | inr e ↦ rw e c.put_layered.ensures ]
