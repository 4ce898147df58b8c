use Rattle.std.proofs.Common.{ℕ, ◌+◌, ◌*◌, List, refl, ◌∙◌, ap}
use Rattle.std.specs.Int.{w16, from_le_bytes}
use Rattle.sg_pages.specs.Maps.{u16_at}
use Rattle.sg_disk.proofs.Parts.{part_range}
use Rattle.sg_pages.proofs.maps.page_in.Goals as goal

pub returns : goal.returns
unfolding u16_at
returns c = c.from_le_bytes.ensures ∙ ap (λ (l : List ℕ). from_le_bytes w16 l) (c.copy_from_slice.ensures.after ∙ part_range c.args.bytes.now (2 * c.args.index) (2 * c.args.index + 2) 2 refl)
