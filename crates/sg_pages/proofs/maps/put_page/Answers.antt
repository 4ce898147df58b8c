use Rattle.std.proofs.Common.{ℕ, ◌++◌, List, ◌∙◌, ap}
use Rattle.sg_pages.specs.Maps.{le16}
use Rattle.sg_pages.proofs.maps.put_page.Goals as goal

pub returns-clause-items : goal.returns-clause-items
unfolding le16
returns-clause-items c = c.in-Ok.ensures.items ∙ ap (λ (l : List ℕ). c.args.map.now.items ++ l) c.to_le_bytes.ensures
