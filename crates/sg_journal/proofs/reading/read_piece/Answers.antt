use Rattle.std.proofs.Common.{ℕ, ◌+◌, ◌-◌, ◌*◌, ◌++◌, subst, arith, take, drop}
use Rattle.sg_disk.specs.declared.places.TheConstants.{JOURNAL, RECORD_LEN}
use Rattle.sg_journal.specs.declared.reading.TheConstants.{PIECE_RECORDS}
use Rattle.sg_journal.specs.Records.{IsFirstWrong}
use Rattle.sg_journal.specs.Entries.{AreRead}
use Rattle.sg_journal.proofs.ReadLemmas.{read_longer, piece_step, piece_wrong, slice_is, same_damage}
use Rattle.sg_journal.proofs.reading.read_piece.Goals as goal

pub loop-i-init : goal.loop-i-init
loop-i-init c area long are = subst (λ (n : ℕ). AreRead c.args.epoch n (area ++ c.args.buffer.now) c.args.entries.now.items) (omega arith) (read_longer c.args.epoch c.args.from area c.args.buffer.now c.args.entries.now.items long are)

pub loop-i-preserved : goal.loop-i-preserved
loop-i-preserved c area long are =
    let piece = c.args.buffer.now in
    let start = RECORD_LEN * c.loop-i.i in
    piece_step c.args.epoch c.args.from c.loop-i.i area piece (take (start + RECORD_LEN - start) (drop start piece)) c.loop-i.entries.items c.push.new.self.items c.in-Ok.entry long (slice_is piece start) c.in-Ok.ensures.entry c.in-Ok.ensures.sound c.in_ok-push-in-Ok.ensures.items (c.loop-i.invariant area long are)

pub returns-in-Err-clause-damaged : goal.returns-in-Err-clause-damaged
returns-in-Err-clause-damaged c place found is area long are =
    let piece = c.args.buffer.now in
    let start = RECORD_LEN * c.loop-i.i in
    let k = c.args.from + c.loop-i.i in
    let count = c.args.from + PIECE_RECORDS in
    let same = same_damage c.damaged.result (JOURNAL + RECORD_LEN * k + c.in-Err.wrong.place) c.in-Err.wrong.found place found c.damaged.ensures is in
    subst (λ (f : ℕ). IsFirstWrong c.args.epoch count (area ++ piece) place f) same.1
    (subst (λ (p : ℕ). IsFirstWrong c.args.epoch count (area ++ piece) p c.in-Err.wrong.found) same.0
    (piece_wrong c.args.epoch c.args.from c.loop-i.i count area piece (take (start + RECORD_LEN - start) (drop start piece)) c.loop-i.entries.items c.in-Err.wrong (omega arith) long (slice_is piece start) c.in-Err.ensures.wrong (c.loop-i.invariant area long are)))
