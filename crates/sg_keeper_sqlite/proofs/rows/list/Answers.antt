use Rattle.std.proofs.Common.{◌≡◌, ◌<◌, ◌≤◌, length, sym, subst, arith}
use Rattle.sg_base.specs.Ranks.{rank_of}
use Rattle.sg_keeper.specs.Pages.{start_of, end_of}
use Rattle.sg_keeper_sqlite.proofs.Pages.{page_wider}
use Rattle.sg_keeper_sqlite.proofs.rows.list.Goals as goal

pub loop-preserved : goal.loop-preserved
loop-preserved g c =
    let start = start_of c.args.kind c.args.after in
    let kind : c.in_ok-key.key.kind ≡ c.args.kind = omega arith in
    let room : length c.loop.page.items < c.args.limit = omega arith in
    let high : rank_of c.loop.from ≤ end_of c.in_ok-key.key.kind = subst (λ k. rank_of c.loop.from ≤ end_of k) (sym kind) c.loop.invariant.high in
    record {
      live = c.in_ok-from.ensures.live c.in_ok-next.ensures.live;
      form = c.in_ok-from.ensures.form start c.args.limit c.loop.invariant.low room c.loop.invariant.form;
      low = (let low = c.loop.invariant.low in let later = c.in_ok-from.ensures.later in omega (arith, low, later));
      high = subst (λ k. rank_of c.in_ok-from.from ≤ end_of k) kind (c.in_ok-from.ensures.within high);
    }

pub returns : goal.returns
returns g c = page_wider (start_of c.args.kind c.args.after) (rank_of c.loop.from) (end_of c.args.kind) c.args.limit c.loop.page.items
    c.loop.invariant.high c.loop.invariant.form
