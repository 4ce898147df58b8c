use Rattle.std.proofs.Common.{[], ◌+◌, ◌*◌, ◌++◌, length, length-append, sym, subst, arith, ℕ, ◌≡◌, ◌∙◌, ap, refl, Err}
use Rattle.std.proofs.lemmas.Result.{err_from_is_err_and}
use Rattle.sg_disk.specs.View.{range}
use Rattle.sg_disk.specs.declared.places.TheConstants.{JOURNAL}
use Rattle.sg_disk.proofs.Moments.{quiet_none}
use Rattle.sg_journal.specs.declared.fault.OpenFault.{OpenFault}
use Rattle.sg_journal.specs.declared.reading.TheConstants.{PIECE_LEN, PIECE_RECORDS}
use Rattle.sg_journal.specs.Entries.{AreRead}
use Rattle.sg_disk.proofs.Parts.{range_none}
use Rattle.sg_journal.proofs.ReadLemmas.{read_none, front_more, quiet_more, broke_more, ended_passed, wrong_in_front}
use Rattle.sg_journal.proofs.reading.read_pieces.Goals as goal

pub loop-piece-init : goal.loop-piece-init
loop-piece-init g c = record {
  long = c.requires.long;
  quiet = quiet_none (g.D.Disk.view c.args.disk.now);
  read = ([], λ told. sym (range_none _ _), refl, read_none c.args.epoch c.args.entries.now.items c.requires.empty);
}

pub returns-in_err-read-clause-ended : goal.returns-in_err-read-clause-ended
returns-in_err-read-clause-ended g c = let p = err_from_is_err_and c.from_residual.result c.from_residual.ensures.1 in rw (p.1, p.2) (broke_more c.loop-piece.piece (g.D.Disk.view c.args.disk.now) (g.D.Disk.view c.loop-piece.disk) (g.D.Disk.view c.read.new.self) c.loop-piece.invariant.quiet c.in_err-read.ensures.failed)

pub returns-in_err-read_piece-clause-damaged : goal.returns-in_err-read_piece-clause-damaged
returns-in_err-read_piece-clause-damaged g c place found is told =
    let piece = c.loop-piece.piece in
    let area = c.loop-piece.invariant.read.0 in
    let bytes = c.read.new.into in
    let p = err_from_is_err_and c.from_residual-in_err-read_piece.result c.from_residual-in_err-read_piece.ensures.1 in
    let same = sym (p.1 ∙ ap (λ (f : OpenFault). Err f) p.2) ∙ is in
    let front = front_more (g.D.Disk.view c.args.disk.now) (g.D.Disk.view c.loop-piece.disk) (PIECE_LEN * piece) piece (length c.loop-piece.buffer) area bytes c.loop-piece.invariant.quiet c.loop-piece.invariant.long c.loop-piece.invariant.read.1 c.in_ok-read.ensures.ok told in
    wrong_in_front c.args.epoch (PIECE_RECORDS * piece + PIECE_RECORDS) (PIECE_LEN * piece + 65536) (g.D.Disk.view c.args.disk.now).bytes (area ++ bytes) place found front (omega arith) (omega arith)
    (c.in_err-read_piece.ensures.damaged place found same area (omega (arith, c.loop-piece.invariant.read.2)) c.loop-piece.invariant.read.3)

pub returns-in_err-read_piece-clause-ended : goal.returns-in_err-read_piece-clause-ended
returns-in_err-read_piece-clause-ended g c =
    let quiet = quiet_more c.loop-piece.piece (g.D.Disk.view c.args.disk.now) (g.D.Disk.view c.loop-piece.disk) (g.D.Disk.view c.read.new.self) c.loop-piece.invariant.quiet c.in_ok-read.ensures.passed c.read.ensures.size in
    let p = err_from_is_err_and c.from_residual-in_err-read_piece.result c.from_residual-in_err-read_piece.ensures.1 in
    rw (p.1, p.2) (ended_passed (c.loop-piece.piece + 1) (g.D.Disk.view c.args.disk.now) (g.D.Disk.view c.read.new.self) c.in_err-read_piece.field-0.0 c.in_err-read_piece.ensures.passed quiet.ran)

pub loop-piece-preserved : goal.loop-piece-preserved
loop-piece-preserved g c =
    let piece = c.loop-piece.piece in
    let area = c.loop-piece.invariant.read.0 in
    let bytes = c.read.new.into in
    let long : length bytes ≡ PIECE_LEN = omega (arith, c.loop-piece.invariant.long, c.read.auto.into) in
    let l_is : PIECE_LEN * piece + 65536 ≡ PIECE_LEN * (piece + 1) = omega arith in
    let n_is : PIECE_RECORDS * piece + PIECE_RECORDS ≡ PIECE_RECORDS * (piece + 1) = omega arith in
    record {
      long = long;
      quiet = quiet_more piece (g.D.Disk.view c.args.disk.now) (g.D.Disk.view c.loop-piece.disk) (g.D.Disk.view c.read.new.self) c.loop-piece.invariant.quiet c.in_ok-read.ensures.passed c.read.ensures.size;
      read = (
        area ++ bytes,
        λ told. front_more (g.D.Disk.view c.args.disk.now) (g.D.Disk.view c.loop-piece.disk) (PIECE_LEN * piece) piece (length c.loop-piece.buffer) area bytes c.loop-piece.invariant.quiet c.loop-piece.invariant.long c.loop-piece.invariant.read.1 c.in_ok-read.ensures.ok told ∙ ap (λ (l : ℕ). range (g.D.Disk.view c.args.disk.now).bytes JOURNAL l) l_is,
        simp length-append (omega (arith, long, c.loop-piece.invariant.read.2)),
        subst (λ (n : ℕ). AreRead c.args.epoch n (area ++ bytes) c.read_piece.new.entries.items) n_is (c.in_ok-read_piece.ensures.read area (omega (arith, c.loop-piece.invariant.read.2)) c.loop-piece.invariant.read.3),
      );
    }
