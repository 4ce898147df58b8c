use Rattle.std.proofs.Common.{ℕ, ◌++◌, List, ◌∙◌, ap, arith}
use Rattle.sg_pages.specs.Maps.{le16}
use Rattle.sg_pages.proofs.MapLemmas.{map_none}
use Rattle.sg_pages.proofs.maps.fill_map.Goals as goal

pub returns-then-is_empty-clause-items : goal.returns-then-is_empty-clause-items
returns-then-is_empty-clause-items c = map_none c.args.pages.now c.put_page.new.map.items (grind arith) (c.put_page.ensures.items ∙ ap (λ (l : List ℕ). l ++ le16 0) c.clear.ensures.items)
