use Rattle.std.proofs.Common.{rules, tests, ◌||◌, ◌==◌, nat_le}
use Rattle.std.proofs.lemmas.Iterator.{YieldsList-from_slice}
use Rattle.std.proofs.lemmas.Iterator.Search.{all_from_yields_List}
use Rattle.sg_placing.specs.Placing.{end_of}
use Rattle.sg_placing.specs.declared.placed.Placed.{Placed}
use Rattle.sg_paged_slots.proofs.tables.is_beside.Goals as goal

pub returns : goal.returns
returns c = all_from_yields_List (λ (e : Placed). e.place == 0 || (nat_le (end_of e) c.args.placed.now.place || nat_le (end_of c.args.placed.now) e.place)) _ _ _ c.all.ensures.ran (YieldsList-from_slice c.args.earlier.now cc) (λ x b q k. search (rules, tests))
