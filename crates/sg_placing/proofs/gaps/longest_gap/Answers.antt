use Rattle.sg_placing.proofs.GapLemmas.{longest_of}
use Rattle.sg_placing.proofs.gaps.longest_gap.Goals as goal

pub returns : goal.returns
returns c = longest_of c.args.room c.gap_at-first.result c.longest_behind-second.result c.longest_behind.result c.args.current.now c.args.staged.now
    c.gap_at-first.ensures.found c.gap_at-first.ensures.most
    c.longest_behind-second.ensures.found c.longest_behind-second.ensures.more c.longest_behind-second.ensures.most
    c.longest_behind.ensures.found c.longest_behind.ensures.more c.longest_behind.ensures.most
