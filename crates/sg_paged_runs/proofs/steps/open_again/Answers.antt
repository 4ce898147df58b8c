use Rattle.std.proofs.Common.{inl, refl, [], ◌∷◌}
use Rattle.sg_disk.specs.Contents.{Contents}
use Rattle.sg_disk.specs.StandsFor.{Two}
use Rattle.sg_disk.specs.declared.places.TheConstants.{JOURNAL, JOURNAL_LEN}
use Rattle.sg_disk.proofs.Writes.{one_stable}
use Rattle.sg_disk.proofs.Moments.{weaker}
use Rattle.sg_contents.specs.StandsFor.{StandsForOne}
use Rattle.sg_contents.proofs.Standing.{settled_between}
use Rattle.sg_paged_runs.specs.Steps.{StandsForSome}
use Rattle.sg_paged_runs.specs.declared.call.Call.TheVariants.{Open}
use Rattle.sg_paged_runs.proofs.StepLemmas.{none_made, one_contents, opens}
use Rattle.sg_paged_runs.proofs.steps.open_again.Goals as goal

pub returns-clause-any_moment : goal.returns-clause-any_moment
returns-clause-any_moment g c old at =
    let v = g.D.Disk.view c.args.disk.now in
    let p : Contents = old.contents in
    weaker v (g.D.Disk.view c.open.new.disk) (StandsForOne (Two p p)) (StandsForSome old (Open ∷ [])) (λ b one. none_made old Open b (one_contents p b one)) (c.open.ensures.between p p (settled_between v (Two p p) p (inl refl) at.ready.settled))

pub returns-in_err-store-clause-any_moment : goal.returns-in_err-store-clause-any_moment
returns-in_err-store-clause-any_moment g c old at =
    let v = g.D.Disk.view c.args.disk.now in
    let p : Contents = old.contents in
    weaker v (g.D.Disk.view c.open.new.disk) (StandsForOne (Two p p)) (StandsForSome old (Open ∷ [])) (λ b one. none_made old Open b (one_contents p b one)) (c.open.ensures.between p p (settled_between v (Two p p) p (inl refl) at.ready.settled))

pub returns-clause-journal : goal.returns-clause-journal
returns-clause-journal g c told one = one_stable JOURNAL JOURNAL_LEN (g.D.Disk.view c.open.new.disk) (c.in_ok-store.ensures.stable told)

pub returns-clause-stepped : goal.returns-clause-stepped
returns-clause-stepped g c old at =
    opens (g.D.Disk.view c.args.disk.now) (g.D.Disk.view c.open.new.disk) c.args.store.now c.in_ok-store.field-0 old (c.in_ok-store.ensures.ready old.contents) c.in_ok-store.ensures.idle at
