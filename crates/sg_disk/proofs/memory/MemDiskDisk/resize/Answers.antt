use Rattle.std.proofs.Common.{rules, reverse, ◌∙◌, ap}
use Rattle.sg_disk.specs.View.{Sized, Resized}
use Rattle.sg_disk.specs.declared.history.Log.{Log}
use Rattle.sg_disk.specs.declared.history.Call.TheVariants.{Resize}
use Rattle.sg_disk.proofs.MemSteps.{passes, fails, resizes, resizes_torn}
use Rattle.sg_disk.proofs.Noted.{on_ok, same_first, newest}
use Rattle.sg_disk.proofs.memory.MemDiskDisk.resize.Goals as goal

pub returns-then-eq-2-clause-failed : goal.returns-then-eq-2-clause-failed
returns-then-eq-2-clause-failed c =
    let was = c.args.self.now.log in
    let done = c.resize.new.self in
    let now = c.fail-then-eq-2.new.self.log in
    let mid = c.begin-fate.new.self.log in
    let grown = on_ok c.resize.result _ (search rules) c.resize.ensures.noted in
    fails (Resized c.args.len) _ _
    (resizes_torn was.first.items now.first.items (reverse was.calls.items) (reverse now.calls.items) was.fits now.fits _ _ _ _ c.args.len
    (ap (λ (l : Log). l.first.items) c.fail-then-eq-2.ensures.log ∙ same_first was mid done c.begin-fate.ensures.log c.resize.ensures.first)
    (ap (λ (l : Log). reverse l.calls.items) c.fail-then-eq-2.ensures.log ∙ newest was mid done (Resize c.args.len) c.begin-fate.ensures.log grown))
    (search rules) (search rules) (search rules)

pub returns-clause-passed : goal.returns-clause-passed
returns-clause-passed c =
    let was = c.args.self.now.log in
    let now = c.resize.new.self in
    let mid = c.begin-fate.new.self.log in
    let grown = on_ok c.resize.result _ (search rules) c.resize.ensures.noted in
    passes (Sized c.args.len) (Resized c.args.len) _ _
    (resizes was.first.items now.first.items (reverse was.calls.items) (reverse now.calls.items) was.fits now.fits _ _ _ _ c.args.len (same_first was mid now c.begin-fate.ensures.log c.resize.ensures.first) (newest was mid now (Resize c.args.len) c.begin-fate.ensures.log grown))
    (search rules) (search rules) (search rules)
