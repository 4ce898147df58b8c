use Rattle.sg_base.proofs.IndexLemmas.{index_searched}
use Rattle.sg_base.proofs.search.index_of.Goals as goal

pub returns : goal.returns
returns c = index_searched c.args.ids.now c.args.id c.binary_search.result c.ok.result c.binary_search.ensures.position c.requires c.ok.ensures.value
