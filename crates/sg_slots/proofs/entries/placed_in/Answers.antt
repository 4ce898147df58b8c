use Rattle.std.proofs.Common.{◌≡◌, ◌+◌, ◌∙◌, refl}
use Rattle.sg_disk.specs.View.{range}
use Rattle.sg_slots.specs.Bytes.{placed_at}
use Rattle.sg_disk.proofs.Parts.{part_range}
use Rattle.sg_slots.proofs.entries.placed_in.Goals as goal
use Rattle.sg_disk.specs.declared.places.TheConstants.{FILE_MD5}

pub returns : goal.returns
unfolding placed_at
returns c =
    let digest : c.copy_from_slice.new.self ≡ range c.args.table.now (c.args.place + FILE_MD5) 16 = c.copy_from_slice.ensures.after ∙ part_range c.args.table.now (c.args.place + FILE_MD5) (c.args.place + FILE_MD5 + 16) 16 refl in
    rw (c.u32_in.ensures, c.u32_in-2.ensures, c.u64_in.ensures, digest)
