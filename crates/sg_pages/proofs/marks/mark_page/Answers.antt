use Rattle.sg_pages.proofs.MarkLemmas.{marks_page}
use Rattle.sg_pages.proofs.marks.mark_page.Goals as goal

pub returns : goal.returns
returns c taken are = marks_page taken c.args.marks.now c.args.page c.requires are
