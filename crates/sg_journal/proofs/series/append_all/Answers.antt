use Rattle.std.proofs.Common.{◌≡◌, ℕ, ◌+◌, ◌*◌, List, [], ◌∷◌, ◌++◌, take, sym, ◌∙◌, ap, subst, arith, append_assoc}
use Rattle.std.proofs.lemmas.List.{take_more}
use Rattle.std.proofs.lemmas.Result.{err_from_is_err_and}
use Rattle.sg_base.specs.declared.play.PlayBody.{PlayBody}
use Rattle.sg_disk.specs.Runs.{Ran}
use Rattle.sg_disk.specs.declared.places.TheConstants.{APPEND_CALLS, JOURNAL, JOURNAL_LEN}
use Rattle.sg_disk.proofs.Moments.{ran_joined}
use Rattle.sg_disk.proofs.Writes.{within_joined}
use Rattle.sg_journal.specs.declared.fault.AppendFault.TheVariants.{Disk}
use Rattle.sg_journal.specs.Ready.{plays_of}
use Rattle.sg_journal.specs.Series.{played_all}
use Rattle.sg_journal.proofs.Recovery.{handed_on}
use Rattle.sg_journal.proofs.SeriesLemmas.{moments_more, come_more, between_more}
use Rattle.sg_journal.proofs.series.append_all.Goals as goal

pub returns-in_err-append-clause-any_moment : goal.returns-in_err-append-clause-any_moment
returns-in_err-append-clause-any_moment g c p ready =
    moments_more p c.args.plays.now c.loop-play.play-index c.play-item.result (g.D.Disk.view c.args.disk.now) (g.D.Disk.view c.loop-play.disk) (g.D.Disk.view c.append.new.disk) c.loop-play.journal (omega arith) c.play-item.is (c.loop-play.invariant.come p ready) c.append.ensures.any_moment

pub returns-in_err-append-clause-within : goal.returns-in_err-append-clause-within
returns-in_err-append-clause-within g c =
    within_joined JOURNAL JOURNAL_LEN (g.D.Disk.view c.args.disk.now) (g.D.Disk.view c.loop-play.disk) (g.D.Disk.view c.append.new.disk) c.loop-play.invariant.ran.told c.loop-play.invariant.within c.append.ensures.within

pub returns-in_err-append-clause-between : goal.returns-in_err-append-clause-between
returns-in_err-append-clause-between g c is p ready =
    let i = c.loop-play.play-index in
    let play = c.play-item.result in
    let plays = c.args.plays.now in
    let before = played_all p (take i plays) in
    let come = c.loop-play.invariant.come p ready in
    let r = err_from_is_err_and c.from_residual.result c.from_residual.ensures.1 in
    let same = handed_on c.from_residual.result r.0 c.in_err-append.field-0.0 Disk r.1 r.2 is in
    (i, omega arith, between_more p plays i play (g.D.Disk.view c.append.new.disk) (omega arith) c.play-item.is (c.in_err-append.ensures.between same before come.ready))

pub loop-play-preserved : goal.loop-play-preserved
loop-play-preserved g c =
    let v = g.D.Disk.view c.args.disk.now in
    let u = g.D.Disk.view c.loop-play.disk in
    let w = g.D.Disk.view c.append.new.disk in
    let i = c.loop-play.play-index in
    let play = c.play-item.result in
    let plays = c.args.plays.now in
    let calls : APPEND_CALLS * i + APPEND_CALLS ≡ APPEND_CALLS * (i + 1) = omega arith in
    record {
      size = c.append.ensures.size ∙ c.loop-play.invariant.size;
      within = within_joined JOURNAL JOURNAL_LEN v u w c.loop-play.invariant.ran.told c.loop-play.invariant.within c.append.ensures.within;
      ran = subst (λ (n : ℕ). Ran n v w) calls (ran_joined (APPEND_CALLS * i) APPEND_CALLS v u w c.loop-play.invariant.ran c.in_ok-append.ensures.ran);
      first = c.append.ensures.first ∙ c.loop-play.invariant.first;
      plays = c.in_ok-append.ensures.plays ∙ ap (λ (l : List PlayBody). l ++ play ∷ []) c.loop-play.invariant.plays ∙ append_assoc (plays_of c.args.journal.now) (take i plays) (play ∷ []) ∙ ap (λ (l : List PlayBody). plays_of c.args.journal.now ++ l) (ap (λ (x : PlayBody). take i plays ++ x ∷ []) c.play-item.is ∙ sym (take_more plays i play (omega arith)));
      come = λ p ready. come_more p plays i play v u w c.loop-play.journal c.append.new.self (omega arith) c.play-item.is (c.loop-play.invariant.come p ready) c.append.ensures.any_moment c.in_ok-append.ensures.recorded;
    }
