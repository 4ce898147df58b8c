use Rattle.std.proofs.Common.{ℕ, List, subst}
use Rattle.sg_base.specs.declared.key.Key.{Key}
use Rattle.sg_keeper.specs.Pages.{start_of}
use Rattle.sg_report.specs.Counting.{CountsRows, IsNext}
use Rattle.sg_report.proofs.PageLemmas.{page_counted, page_further, start_low}
use Rattle.sg_report.proofs.pages.add_page.Goals as goal

pub returns-clause-counts : goal.returns-clause-counts
returns-clause-counts g c =
    let rows : List (Key × List ℕ) = c.in_ok-page.page.items in
    let is = subst (λ (rs : List (Key × List ℕ)). IsNext 1024 rs c.next_after.result) c.as_slice-2.ensures.value c.next_after.ensures in
    let counts = subst (λ (rs : List (Key × List ℕ)). CountsRows c.args.from c.args.to rs c.args.lines.now.items c.add_rows.new.lines.items) c.as_slice.ensures.value c.in_ok-add_rows.ensures in
    page_counted c.args.from c.args.to (start_of 10 c.args.after) 1024 (g.K.Keeper.view c.args.keeper.now) c.next_after.result rows c.args.lines.now.items c.add_rows.new.lines.items
    (start_low c.args.after) c.requires.start c.in_ok-page.ensures.form c.in_ok-page.ensures.page is counts

pub returns-clause-further : goal.returns-clause-further
returns-clause-further g c =
    let is = subst (λ (rs : List (Key × List ℕ)). IsNext 1024 rs c.next_after.result) c.as_slice-2.ensures.value c.next_after.ensures in
    page_further (start_of 10 c.args.after) 1024 c.next_after.result c.in_ok-page.page.items (start_low c.args.after) c.requires.start c.in_ok-page.ensures.form is
