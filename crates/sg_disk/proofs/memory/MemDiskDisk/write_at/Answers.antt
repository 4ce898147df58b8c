use Rattle.std.proofs.Common.{rules, None, length, reverse, ◌∙◌, ap}
use Rattle.sg_disk.specs.View.{Torn, Written}
use Rattle.sg_disk.specs.History.{read_of}
use Rattle.sg_disk.specs.declared.history.Log.{Log}
use Rattle.sg_disk.specs.declared.history.Call.TheVariants.{Write}
use Rattle.sg_disk.proofs.MemSteps.{passes, fails, writes, writes_torn}
use Rattle.sg_disk.proofs.Noted.{on_ok, same_first, newest}
use Rattle.sg_disk.proofs.memory.MemDiskDisk.write_at.Goals as goal

pub returns-then-eq-2-clause-failed : goal.returns-then-eq-2-clause-failed
returns-then-eq-2-clause-failed c =
    let was = c.args.self.now.log in
    let done = c.write.new.self in
    let now = c.fail-then-eq-2.new.self.log in
    let mid = c.begin-fate.new.self.log in
    let made = on_ok c.write.result _ (search rules) c.write.ensures.noted in
    fails (Torn c.args.place (length c.args.bytes.now)) _ _
    (writes_torn was.first.items now.first.items (reverse was.calls.items) (reverse now.calls.items) was.fits now.fits _ _ _ _ c.args.place made.0 c.args.bytes.now made.1
    (ap (λ (l : Log). l.first.items) c.fail-then-eq-2.ensures.log ∙ same_first was mid done c.begin-fate.ensures.log c.write.ensures.first)
    (ap (λ (l : Log). reverse l.calls.items) c.fail-then-eq-2.ensures.log ∙ newest was mid done (Write c.args.place made.0) c.begin-fate.ensures.log made.2))
    (search rules) (search rules) (search rules)

pub returns-then-eq-2-clause-size : goal.returns-then-eq-2-clause-size
returns-then-eq-2-clause-size c =
    let was = c.args.self.now.log in
    let done = c.write.new.self in
    let mid = c.begin-fate.new.self.log in
    let made = on_ok c.write.result _ (search rules) c.write.ensures.noted in
    let goes = writes_torn was.first.items done.first.items (reverse was.calls.items) (reverse done.calls.items) was.fits done.fits 0 0 None None c.args.place made.0 c.args.bytes.now made.1 (same_first was mid done c.begin-fate.ensures.log c.write.ensures.first) (newest was mid done (Write c.args.place made.0) c.begin-fate.ensures.log made.2) in
    let torn = goes.bytes tt in
    ap (λ (l : Log). length (read_of l.first.items (reverse l.calls.items))) c.fail-then-eq-2.ensures.log ∙ torn.same_length

pub returns-clause-passed : goal.returns-clause-passed
returns-clause-passed c =
    let was = c.args.self.now.log in
    let now = c.write.new.self in
    let mid = c.begin-fate.new.self.log in
    let made = on_ok c.write.result _ (search rules) c.write.ensures.noted in
    passes (Written c.args.place c.args.bytes.now) (Torn c.args.place (length c.args.bytes.now)) _ _
    (writes was.first.items now.first.items (reverse was.calls.items) (reverse now.calls.items) was.fits now.fits _ _ _ _ c.args.place made.0 c.args.bytes.now made.1 (same_first was mid now c.begin-fate.ensures.log c.write.ensures.first) (newest was mid now (Write c.args.place made.0) c.begin-fate.ensures.log made.2))
    (search rules) (search rules) (search rules)

pub returns-clause-size : goal.returns-clause-size
returns-clause-size c =
    let was = c.args.self.now.log in
    let now = c.write.new.self in
    let mid = c.begin-fate.new.self.log in
    let made = on_ok c.write.result _ (search rules) c.write.ensures.noted in
    let goes = writes_torn was.first.items now.first.items (reverse was.calls.items) (reverse now.calls.items) was.fits now.fits 0 0 None None c.args.place made.0 c.args.bytes.now made.1 (same_first was mid now c.begin-fate.ensures.log c.write.ensures.first) (newest was mid now (Write c.args.place made.0) c.begin-fate.ensures.log made.2) in
    let torn = goes.bytes tt in
    torn.same_length
