use Rattle.sg_placing.proofs.GapLemmas.{gap_found, gap_most}
use Rattle.sg_placing.proofs.gaps.gap_at.Goals as goal

pub returns-clause-found : goal.returns-clause-found
returns-clause-found c = gap_found c.args.room c.args.place c.first_behind-limit.result c.first_behind-end.result c.saturating_sub.result c.args.current.now c.args.staged.now c.requires.low c.first_behind-end.ensures.within c.first_behind-limit.ensures.within c.saturating_sub.ensures c.first_behind-limit.ensures.clear c.first_behind-end.ensures.clear

pub returns-clause-most : goal.returns-clause-most
returns-clause-most c n q le between free = gap_most c.args.room c.args.place c.first_behind-limit.result c.first_behind-end.result c.saturating_sub.result n q c.args.current.now c.args.staged.now le c.saturating_sub.ensures c.first_behind-limit.ensures.most c.first_behind-end.ensures.most between free
