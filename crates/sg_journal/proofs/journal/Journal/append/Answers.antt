use Rattle.std.proofs.Common.{ℕ, List, inl}
use Rattle.sg_disk.specs.Contents.{played}
use Rattle.sg_contents.specs.StandsFor.{StandsFor, Either}
use Rattle.sg_disk.specs.declared.places.TheConstants.{JOURNAL, JOURNAL_LEN}
use Rattle.sg_disk.proofs.Moments.{joined, weaker}
use Rattle.sg_contents.proofs.Standing.{between_either}
use Rattle.sg_disk.proofs.Writes.{within_joined}
use Rattle.sg_disk.proofs.Keeping.{keeps_within}
use Rattle.sg_journal.proofs.journal.Journal.append.Goals as goal

pub returns-in_err-write_record-clause-within : goal.returns-in_err-write_record-clause-within
returns-in_err-write_record-clause-within g c =
    within_joined JOURNAL JOURNAL_LEN (g.D.Disk.view c.args.disk.now) (g.D.Disk.view c.close.new.disk) (g.D.Disk.view c.write_record.new.disk) c.in_ok-close.ensures.ran.told c.close.ensures.within c.write_record.ensures.within

pub returns-clause-within : goal.returns-clause-within
returns-clause-within g c =
    within_joined JOURNAL JOURNAL_LEN (g.D.Disk.view c.args.disk.now) (g.D.Disk.view c.close.new.disk) (g.D.Disk.view c.write_record.new.disk) c.in_ok-close.ensures.ran.told c.close.ensures.within c.write_record.ensures.within

pub returns-in_err-close-clause-between : goal.returns-in_err-close-clause-between
returns-in_err-close-clause-between g c is p ready =
    let v = g.D.Disk.view c.args.disk.now in
    let u = g.D.Disk.view c.close.new.disk in
    let q = played p c.args.play.now in
    between_either v u p q ready.settled.told (weaker v u (StandsFor p) (Either p q) (λ (d : List ℕ) stands. inl stands) (c.close.ensures.any_moment p ready)) c.in_err-close.ensures.broke.told

pub returns-in_err-write_record-clause-between : goal.returns-in_err-write_record-clause-between
returns-in_err-write_record-clause-between g c is p ready =
    let v = g.D.Disk.view c.args.disk.now in
    let u = g.D.Disk.view c.close.new.disk in
    let w = g.D.Disk.view c.write_record.new.disk in
    let q = played p c.args.play.now in
    between_either v w p q ready.settled.told
    (joined v u w (Either p q) (weaker v u (StandsFor p) (Either p q) (λ (d : List ℕ) stands. inl stands) (c.close.ensures.any_moment p ready)) (c.write_record.ensures.any_moment p (c.in_ok-close.ensures.ready p ready)))
    (λ told. c.in_err-write_record.ensures.broke.told (c.in_ok-close.ensures.ran.told told))

pub returns-clause-stable : goal.returns-clause-stable
returns-clause-stable g c told = c.in_ok-write_record.ensures.stable (c.in_ok-close.ensures.ran.told told)

pub returns-in_err-close-clause-keeps : goal.returns-in_err-close-clause-keeps
returns-in_err-close-clause-keeps g c place n clear = keeps_within JOURNAL JOURNAL_LEN place n (g.D.Disk.view c.args.disk.now) (g.D.Disk.view c.close.new.disk) clear c.close.ensures.within

pub returns-in_err-write_record-clause-keeps : goal.returns-in_err-write_record-clause-keeps
returns-in_err-write_record-clause-keeps g c place n clear = keeps_within JOURNAL JOURNAL_LEN place n (g.D.Disk.view c.args.disk.now) (g.D.Disk.view c.write_record.new.disk) clear (returns-in_err-write_record-clause-within g c)

pub returns-clause-keeps : goal.returns-clause-keeps
returns-clause-keeps g c place n clear = keeps_within JOURNAL JOURNAL_LEN place n (g.D.Disk.view c.args.disk.now) (g.D.Disk.view c.write_record.new.disk) clear (returns-clause-within g c)
