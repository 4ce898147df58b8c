use Rattle.std.proofs.Common.{ℕ, ◌+◌, ◌≡◌, List, inl, inr, sym, ◌∙◌, subst, arith}
use Rattle.std.proofs.lemmas.Result.{err_from_is_err_and, IfOk-weaker}
use Rattle.sg_disk.specs.StandsFor.{journal_of}
use Rattle.sg_disk.specs.declared.places.TheConstants.{OPEN_CALLS}
use Rattle.sg_disk.specs.View.{Only}
use Rattle.sg_disk.specs.Runs.{Ran, Quiet}
use Rattle.sg_disk.proofs.Moments.{unchanged, unchanged_joined, quiet_one, quiet_joined, quiet_fewer}
use Rattle.sg_journal.specs.declared.fault.OpenFault.TheVariants.{Damaged}
use Rattle.sg_journal.specs.declared.journal.Journal.{Journal}
use Rattle.sg_journal.specs.declared.reading.TheConstants.{PIECES}
use Rattle.sg_journal.specs.Ready.{first_of, oldest_of, epoch_of, plays_of}
use Rattle.sg_journal.specs.Records.{Holds}
use Rattle.sg_journal.specs.Entries.{IsRecovered}
use Rattle.sg_journal.proofs.OpenLemmas.{recovered_holds, gap_first}
use Rattle.sg_journal.proofs.Recovery.{area_read, always_ok, if_ok_three, opened_ready, opening_only, opening_ran, wrong_before, stands_undamaged, handed_on}
use Rattle.sg_journal.proofs.journal.Journal.open.Goals as goal

pub returns-in_err-entries-clause-undamaged : goal.returns-in_err-entries-clause-undamaged
returns-in_err-entries-clause-undamaged g c r told stands epoch place found is =
    let p = err_from_is_err_and c.from_residual-in_err-entries.result c.from_residual-in_err-entries.ensures.1 in
    let same = handed_on c.from_residual-in_err-entries.result p.0 c.in_err-entries.field-0.0 (Damaged place found) p.1 p.2 is in
    let wrong = wrong_before (g.D.Disk.view c.args.disk.now) (g.D.Disk.view c.sync.new.self) c.args.epoch place found told c.in_ok-sync.ensures.passed (c.in_err-entries.ensures.damaged place found same (c.in_ok-sync.ensures.passed.told told)) in
    stands_undamaged r (g.D.Disk.view c.args.disk.now).bytes c.args.epoch place found stands epoch (inl wrong)

pub returns-clause-any_moment : goal.returns-clause-any_moment
returns-clause-any_moment g c = unchanged_joined (g.D.Disk.view c.args.disk.now) (g.D.Disk.view c.sync.new.self) (g.D.Disk.view c.read_records.new.disk) (unchanged (g.D.Disk.view c.args.disk.now) (g.D.Disk.view c.sync.new.self) c.in_ok-sync.ensures.passed) c.read_records.ensures.any_moment

pub returns-clause-ready : goal.returns-clause-ready
returns-clause-ready g c =
    if_ok_three c.gather.result (λ (j : Journal). IsRecovered c.deref.result.now (first_of j) (plays_of j)) (λ (j : Journal). oldest_of j ≡ first_of j) (λ (j : Journal). epoch_of j ≡ c.args.epoch) _ (λ j rec oldest epoch r told stands same.
    let holds = recovered_holds c.args.epoch (first_of j) (journal_of (g.D.Disk.view c.args.disk.now).bytes) c.deref.result.now (plays_of j) (area_read (g.D.Disk.view c.args.disk.now) (g.D.Disk.view c.sync.new.self) c.args.epoch c.in_ok-entries.ensures.read.0 c.in_ok-entries.entries.items c.deref.result.now told c.in_ok-sync.ensures.passed c.in_ok-entries.ensures.read.1 c.deref.ensures.value c.in_ok-entries.ensures.read.2) rec in
    opened_ready (g.D.Disk.view c.read_records.new.disk) j r (g.D.Disk.view c.args.disk.now).bytes (c.in_ok-entries.ensures.quiet.ran.told (c.in_ok-sync.ensures.passed.told told)) (c.in_ok-entries.ensures.quiet.bytes (c.in_ok-sync.ensures.passed.told told) ∙ c.in_ok-sync.ensures.passed.bytes told) (opening_only (g.D.Disk.view c.args.disk.now) (g.D.Disk.view c.sync.new.self) (g.D.Disk.view c.read_records.new.disk) PIECES told c.in_ok-sync.ensures.durable c.in_ok-entries.ensures.quiet) stands (epoch ∙ sym same) oldest (subst (λ (e : ℕ). Holds e (journal_of (g.D.Disk.view c.args.disk.now).bytes) (first_of j) (plays_of j)) (sym same) holds)) c.gather.ensures.recovered c.gather.ensures.oldest c.gather.ensures.epoch

pub returns-clause-holds : goal.returns-clause-holds
returns-clause-holds g c =
    IfOk-weaker c.gather.result (λ (j : Journal). IsRecovered c.deref.result.now (first_of j) (plays_of j)) _ (λ j rec told.
    recovered_holds c.args.epoch (first_of j) (journal_of (g.D.Disk.view c.args.disk.now).bytes) c.deref.result.now (plays_of j) (area_read (g.D.Disk.view c.args.disk.now) (g.D.Disk.view c.sync.new.self) c.args.epoch c.in_ok-entries.ensures.read.0 c.in_ok-entries.entries.items c.deref.result.now told c.in_ok-sync.ensures.passed c.in_ok-entries.ensures.read.1 c.deref.ensures.value c.in_ok-entries.ensures.read.2) rec) c.gather.ensures.recovered

pub returns-clause-damaged : goal.returns-clause-damaged
returns-clause-damaged g c place found is told =
    let are = (area_read (g.D.Disk.view c.args.disk.now) (g.D.Disk.view c.sync.new.self) c.args.epoch c.in_ok-entries.ensures.read.0 c.in_ok-entries.entries.items c.deref.result.now told c.in_ok-sync.ensures.passed c.in_ok-entries.ensures.read.1 c.deref.ensures.value c.in_ok-entries.ensures.read.2) in
    inr (are.sound, gap_first c.args.epoch (journal_of (g.D.Disk.view c.args.disk.now).bytes) c.deref.result.now place found are (c.gather.ensures.gap place found is))

pub returns-clause-undamaged : goal.returns-clause-undamaged
returns-clause-undamaged g c r told stands epoch place found is =
    let are = (area_read (g.D.Disk.view c.args.disk.now) (g.D.Disk.view c.sync.new.self) c.args.epoch c.in_ok-entries.ensures.read.0 c.in_ok-entries.entries.items c.deref.result.now told c.in_ok-sync.ensures.passed c.in_ok-entries.ensures.read.1 c.deref.ensures.value c.in_ok-entries.ensures.read.2) in
    stands_undamaged r (g.D.Disk.view c.args.disk.now).bytes c.args.epoch place found stands epoch (inr (are.sound, gap_first c.args.epoch (journal_of (g.D.Disk.view c.args.disk.now).bytes) c.deref.result.now place found are (c.gather.ensures.gap place found is)))

pub returns-clause-ran : goal.returns-clause-ran
returns-clause-ran g c = always_ok c.gather.result (Ran OPEN_CALLS (g.D.Disk.view c.args.disk.now) (g.D.Disk.view c.read_records.new.disk)) (opening_ran (g.D.Disk.view c.args.disk.now) (g.D.Disk.view c.sync.new.self) (g.D.Disk.view c.read_records.new.disk) PIECES (omega arith) c.in_ok-sync.ensures.passed c.in_ok-entries.ensures.quiet)

pub returns-clause-stable : goal.returns-clause-stable
returns-clause-stable g c =
    let v = g.D.Disk.view c.args.disk.now in
    let u = g.D.Disk.view c.sync.new.self in
    let w = g.D.Disk.view c.read_records.new.disk in
    always_ok c.gather.result (v.told → Only w.bytes w) (λ told.
    let same : w.bytes ≡ v.bytes = c.in_ok-entries.ensures.quiet.bytes (c.in_ok-sync.ensures.passed.told told) ∙ c.in_ok-sync.ensures.passed.bytes told in
    subst (λ (b : List ℕ). Only b w) (sym same) (opening_only v u w PIECES told c.in_ok-sync.ensures.durable c.in_ok-entries.ensures.quiet))

pub returns-clause-quiet : goal.returns-clause-quiet
returns-clause-quiet g c =
    let v = g.D.Disk.view c.args.disk.now in
    let u = g.D.Disk.view c.sync.new.self in
    let w = g.D.Disk.view c.read_records.new.disk in
    always_ok c.gather.result (Quiet OPEN_CALLS v w) (quiet_fewer (1 + PIECES) OPEN_CALLS v w (omega arith) (quiet_joined 1 PIECES v u w (quiet_one v u c.in_ok-sync.ensures.passed c.sync.ensures.size) c.in_ok-entries.ensures.quiet))
