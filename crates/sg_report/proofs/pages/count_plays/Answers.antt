use Rattle.std.proofs.Common.{◌≡◌, ◌≤◌, ℕ, [], ap, subst, sym, arith, Some}
use Rattle.sg_base.specs.Keys.{number}
use Rattle.sg_keeper.specs.Pages.{start_of}
use Rattle.sg_report.specs.Counting.{CountsPlays, HasLines, cursor}
use Rattle.sg_report.proofs.PageLemmas.{lines_of_counted, no_plays, pages_joined}
use Rattle.sg_report.proofs.RanLemmas.{ran_fewer, ran_joined, same_joined}
use Rattle.sg_report.proofs.pages.count_plays.Goals as goal

pub add_page-requires-clause-lines : goal.add_page-requires-clause-lines
add_page-requires-clause-lines g c = subst (HasLines c.args.from c.args.to (number 10 0 0)) (sym c.requires) (no_plays c.args.from c.args.to)

pub add_page-requires-in-Some-clause-lines : goal.add_page-requires-in-Some-clause-lines
add_page-requires-in-Some-clause-lines g c =
    subst (λ (n : ℕ). HasLines c.args.from c.args.to n c.loop-next.lines.items) (ap cursor c.in-Some.is)
    (lines_of_counted c.args.from c.args.to (cursor c.loop-next.next) (g.K.Keeper.view c.args.keeper.now) c.loop-next.lines.items c.loop-next.invariant.counts)

pub loop-next-preserved : goal.loop-next-preserved
loop-next-preserved g c =
    let v = g.K.Keeper.view c.args.keeper.now in
    let w = g.K.Keeper.view c.loop-next.keeper in
    let z = g.K.Keeper.view c.add_page-in-Some.new.keeper in
    let before = c.loop-next.invariant in
    let now = c.in_ok-next-2.ensures in
    let mid : cursor c.loop-next.next ≡ start_of 10 (Some c.in-Some.after) = ap cursor c.in-Some.is in
    let counts = subst (λ (n : ℕ). CountsPlays c.args.from c.args.to w n (cursor c.in_ok-next-2.next) c.loop-next.lines.items c.add_page-in-Some.new.lines.items) (sym mid) now.counts in
    let on : cursor c.loop-next.next ≤ cursor c.in_ok-next-2.next = subst (λ (n : ℕ). n ≤ cursor c.in_ok-next-2.next) (sym mid) now.further.0 in
    record {
      counts = pages_joined c.args.from c.args.to (number 10 0 0) (cursor c.loop-next.next) (cursor c.in_ok-next-2.next) v w [] c.loop-next.lines.items c.add_page-in-Some.new.lines.items before.low on before.ran.told before.same before.counts counts;
      low = let h = before.low in omega (arith, h, on);
      high = now.further.1;
      ran = ran_fewer 2 1 v z (omega arith) (ran_joined 1 1 v w z before.ran now.ran);
      same = same_joined v w z before.ran.told before.same now.same;
    }
