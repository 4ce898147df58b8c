use Rattle.std.proofs.Common.{◌≡◌, ℕ, ◌++◌, ◌∷◌, [], List, nat_lt, ◌&&◌, not, true, false, sym, ◌∙◌, ap, subst, arith, append_assoc}
use Rattle.sg_pages.specs.Pages.{is_taken}
use Rattle.sg_pages.specs.Maps.{pages_of}
use Rattle.sg_pages.proofs.MapLemmas.{with_pages, pages_more, reads_map_more, reads_map_refused, reads_map_all}
use Rattle.sg_pages.proofs.maps.read_map.Goals as goal

pub returns-then-not-is_free-clause-bad : goal.returns-then-not-is_free-clause-bad
returns-then-not-is_free-clause-bad c taken are =
    let so_far = c.loop-index.invariant.reads taken are in
    let Bad : ℕ → Type 0 = λ n. (nat_lt c.page_in-page.result n && not (is_taken (with_pages taken c.args.bytes.now c.loop-index.index) c.page_in-page.result)) ≡ false in
    reads_map_refused taken _ c.args.count c.args.bytes.now c.loop-index.index c.page_in-page.result c.loop-index.set c.loop-index-test.true c.page_in-page.ensures
    (subst Bad c.loop-index.invariant.long (sym (c.if-not-is_free.ensures.free _ so_far.marked))) so_far

pub loop-index-preserved : goal.loop-index-preserved
loop-index-preserved c = record {
  long = c.add_page.ensures.long ∙ c.loop-index.invariant.long;
  room = omega (arith, c.loop-index.invariant.room, c.push_page.ensures.len, c.push_page.ensures.room);
  kept = omega (arith, c.loop-index.invariant.kept, c.push_page.ensures.room);
  pages = c.push_page.ensures.items ∙ ap (λ (l : List ℕ). l ++ c.page_in-page.result ∷ []) c.loop-index.invariant.pages ∙ append_assoc c.args.pages.now.items (pages_of c.args.bytes.now c.loop-index.index) (c.page_in-page.result ∷ []) ∙ ap (λ (l : List ℕ). c.args.pages.now.items ++ l) (ap (λ (q : ℕ). pages_of c.args.bytes.now c.loop-index.index ++ q ∷ []) c.page_in-page.ensures ∙ sym (pages_more c.args.bytes.now c.loop-index.index));
  reads = λ taken are.
      let so_far = c.loop-index.invariant.reads taken are in
      let Free : ℕ → Type 0 = λ n. (nat_lt c.page_in-page.result n && not (is_taken (with_pages taken c.args.bytes.now c.loop-index.index) c.page_in-page.result)) ≡ true in
      reads_map_more taken _ c.args.count c.args.bytes.now c.loop-index.index c.page_in-page.result c.loop-index.set c.add_page.new.self c.loop-index-test.true c.page_in-page.ensures
      (subst Free c.loop-index.invariant.long (sym (c.if-not-is_free.ensures.free _ so_far.marked))) (c.add_page.ensures.marks _ so_far.marked) so_far;
}

pub returns-clause-sound : goal.returns-clause-sound
returns-clause-sound c taken are = reads_map_all taken _ c.args.count c.args.bytes.now c.loop-index.index c.loop-index.set (omega arith) (c.loop-index.invariant.reads taken are)
