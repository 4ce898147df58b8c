use Rattle.std.proofs.Common.{◌≡◌, ◌∙◌, ℕ, ◌+◌, ◌*◌, ◌<◌, ◌≤◌, ◌++◌, [], take, ap, sym, subst, arith}
use Rattle.std.specs.Prelude.{unwrap_or}
use Rattle.md5.specs.Md5.{Holds as Absorbed, md5}
use Rattle.sg_records.specs.Numbers.{piece_number}
use Rattle.sg_steps.specs.Calls.{pieces_of}
use Rattle.sg_steps.specs.State.{piece_at}
use Rattle.sg_edits.proofs.KeeperLemmas.{ran_joined, same_joined}
use Rattle.sg_edits.proofs.ReadLemmas.{all_bytes, index_fits, next_bytes}
use Rattle.sg_edits.proofs.piece_reads.digest_with.Goals as goal

pub loop-index-preserved : goal.loop-index-preserved
loop-index-preserved g c =
    let first = g.K.Keeper.view c.args.keeper.now in
    let before = g.K.Keeper.view c.loop-index.keeper in
    let later = g.K.Keeper.view c.piece_of.new.keeper in
    let inv = c.loop-index.invariant in
    record {
      ran = ran_joined 0 0 first before later inv.ran c.in_ok-piece.ensures.ran;
      same = same_joined 0 first before later inv.ran inv.same c.in_ok-piece.ensures.same;
      absorbed = λ told stored h.
          let few : c.loop-index.index < pieces_of c.args.received = (let test = c.loop-index-test.true in let end = c.pieces_of-index-end.ensures in subst (λ n. c.loop-index.index < n) end test) in
          let piece : c.as_slice.result.now ≡ unwrap_or (piece_at c.loop-index.index stored) [] =
          c.as_slice.ensures.value ∙ (c.in_ok-piece.ensures.piece (inv.ran.told told)
          ∙ (ap (λ rows. unwrap_or (rows (piece_number c.args.media.0 c.loop-index.index)) []) (inv.same told)
          ∙ ap (λ row. unwrap_or row []) (h.pieces c.loop-index.index (index_fits c.args.received c.loop-index.index c.ranges.received.fits few)))) in
          subst (Absorbed c.update.new.self)
          (ap (λ b. take (c.loop-index.index * 65536) stored ++ b) piece ∙ next_bytes stored c.loop-index.index (subst (λ r. c.loop-index.index < pieces_of r) h.long few))
          (c.update.ensures (take (c.loop-index.index * 65536) stored) (inv.absorbed told stored h));
    }

pub returns-clause-digest : goal.returns-clause-digest
returns-clause-digest g c told stored h =
    let inv = c.loop-index.invariant in
    let most : pieces_of c.args.received ≤ c.loop-index.index = (let test = c.loop-index-test.false in let end = c.pieces_of-index-end.ensures in subst (λ n. n ≤ c.loop-index.index) end test) in
    let all : take (c.loop-index.index * 65536) stored ≡ stored = all_bytes stored c.loop-index.index (subst (λ r. pieces_of r ≤ c.loop-index.index) h.long most) in
    c.finalize.ensures (stored ++ c.args.last.now) (c.update-2.ensures stored (subst (Absorbed c.loop-index.hasher) all (inv.absorbed told stored h)))
