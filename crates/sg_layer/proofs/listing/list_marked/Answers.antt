-- One entry further, the rest of the entries is that entry and what comes after it.
use Rattle.std.proofs.Common.{◌≡◌, ◌+◌, List, Bool, false, ◌∷◌, drop, get_or, ap, sym, subst, arith}
use Rattle.sg_voice.specs.declared.play.Play.{Play}
use Rattle.sg_voice.specs.Hour.{total}
use Rattle.sg_layer.specs.declared.entry.Entry.{Entry}
use Rattle.sg_layer.specs.Front.{plays_of_marked, Leads}
use Rattle.sg_layer.proofs.FrontLemmas.{leads_first}
use Rattle.sg_layer.proofs.ListLemmas.{drop_here, drop_at}
use Rattle.sg_layer.proofs.listing.list_marked.Goals as goal

pub loop-i-init : goal.loop-i-init
loop-i-init c =
    let all = plays_of_marked c.top_priority-top.result c.args.marks.now c.args.entries.now in
    record {
      items = subst (λ (ps : List Play). Leads ps all all) (sym c.clear.ensures.items) (leads_first all);
      seconds = ap (λ (ps : List Play). total ps) (sym c.clear.ensures.items);
      few = omega (arith, c.clear.ensures.len);
      room = omega (arith, c.clear.ensures.capacity, c.requires.room);
    }

pub loop-i-preserved : goal.loop-i-preserved
loop-i-preserved c =
    let one = c.offer_plays-seconds.ensures in
    let i = c.loop-i.i in
    let xs = c.args.entries.now in
    let bs = c.args.marks.now in
    let x = c.index-entries-i.result in
    let all = plays_of_marked c.top_priority-top.result bs xs in
    let marked : drop i bs ≡ get_or bs i false ∷ drop (i + 1) bs = drop_at bs i false (omega (arith, c.loop-i-test.true, c.requires.marks)) in
    let entry : drop i xs ≡ x ∷ drop (i + 1) xs = drop_here xs i x c.loop-i-test.true c.index-entries-i.is in
    let before = subst (λ (ys : List Entry). Leads c.loop-i.plays.items (plays_of_marked c.top_priority-top.result (get_or bs i false ∷ drop (i + 1) bs) ys) all) entry
    (subst (λ (ms : List Bool). Leads c.loop-i.plays.items (plays_of_marked c.top_priority-top.result ms (drop i xs)) all) marked c.loop-i.invariant.items) in
    record { items = one.items (drop (i + 1) bs) (drop (i + 1) xs) all before; seconds = one.seconds; few = one.few; room = one.room }
