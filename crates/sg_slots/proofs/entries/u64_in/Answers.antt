use Rattle.std.proofs.Common.{ℕ, ◌+◌, List, refl, ◌∙◌, ap}
use Rattle.std.specs.Int.{w64, from_le_bytes}
use Rattle.sg_slots.specs.Bytes.{u64_at}
use Rattle.sg_disk.proofs.Parts.{part_range}
use Rattle.sg_slots.proofs.entries.u64_in.Goals as goal

pub returns : goal.returns
unfolding u64_at
returns c = c.from_le_bytes.ensures ∙ ap (λ (l : List ℕ). from_le_bytes w64 l) (c.copy_from_slice.ensures.after ∙ part_range c.args.bytes.now c.args.place (c.args.place + 8) 8 refl)
