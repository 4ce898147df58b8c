use Rattle.std.proofs.Common.{ℕ, ◌+◌, List, refl, ◌∙◌, ap}
use Rattle.std.specs.Int.{w32, from_le_bytes}
use Rattle.sg_slots.specs.Bytes.{u32_at}
use Rattle.sg_disk.proofs.Parts.{part_range}
use Rattle.sg_slots.proofs.entries.u32_in.Goals as goal

pub returns : goal.returns
unfolding u32_at
returns c = c.from_le_bytes.ensures ∙ ap (λ (l : List ℕ). from_le_bytes w32 l) (c.copy_from_slice.ensures.after ∙ part_range c.args.bytes.now c.args.place (c.args.place + 4) 4 refl)
