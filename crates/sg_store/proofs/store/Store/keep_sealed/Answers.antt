use Rattle.std.proofs.Common.{◌≤◌, Bool, All, length, sym, ap, subst, arith}
use Rattle.std.specs.List.{list_any}
use Rattle.std.proofs.lemmas.List.Elements.{All-filter}
use Rattle.std.proofs.lemmas.List.Sums.{length-filter, count_by-le-length}
use Rattle.sg_base.specs.declared.file.Listed.{Listed}
use Rattle.sg_placing.specs.Placing.{same_file, IsPlaced}
use Rattle.sg_placing.specs.declared.placed.Placed.{Placed}
use Rattle.sg_store.proofs.DistinctLemmas.{distinct_fewer}
use Rattle.sg_store.proofs.store.Store.keep_sealed.Goals as goal

pub invariant_of-self : goal.invariant_of-self
invariant_of-self c =
    let s = c.args.self.now in
    let test : Placed → Bool = λ p. list_any (λ (f : Listed). same_file f p.file) c.args.files.now in
    let fewer : length c.keep.new.self ≤ length s.staged = omega (arith, ap length c.keep.ensures, length-filter test s.staged, count_by-le-length test s.staged) in
    record {
      room_fits = s.room_fits;
      text_fits = s.text_fits;
      table_room = s.table_room;
      current_placed = s.current_placed;
      staged_placed = subst (All (IsPlaced s.room)) (sym c.keep.ensures) (All-filter test (IsPlaced s.room) s.staged s.staged_placed);
      few = omega (arith, fewer, s.few);
      half_placed = s.half_placed;
      half_count = s.half_count;
      half_few = λ h is. omega (arith, fewer, s.half_few h is);
      ascending = s.ascending;
      distinct = distinct_fewer s.current s.staged c.keep.new.self s.half test c.keep.ensures s.distinct;
    }
