use Rattle.sg_slots.proofs.SlotLemmas.{none_read, some_read}
use Rattle.sg_slots.proofs.slot_reads.read_head.Goals as goal

pub returns-then-bytes-ne1-clause-head : goal.returns-then-bytes-ne1-clause-head
returns-then-bytes-ne1-clause-head g c told = none_read c.args.slot (g.D.Disk.view c.args.disk.now).bytes c.read.new.into c.place.result c.place.ensures (c.in_ok-read.ensures.ok told) c.if-bytes-ne1.true

pub returns-clause-head : goal.returns-clause-head
returns-clause-head g c told = some_read c.args.slot (g.D.Disk.view c.args.disk.now).bytes c.read.new.into c.place.result c.u32_in.result c.u32_in-2.result c.u32_in-3.result c.place.ensures (c.in_ok-read.ensures.ok told) c.if-bytes-ne1.false c.u32_in.ensures c.u32_in-2.ensures c.u32_in-3.ensures
