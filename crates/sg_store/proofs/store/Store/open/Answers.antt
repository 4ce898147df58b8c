use Rattle.std.proofs.Common.{◌≡◌, ℕ, List, Option, is_some, ◌∙◌, sym, ap}
use Rattle.std.proofs.lemmas.Result.{err_from_is_err_and}
use Rattle.sg_disk.proofs.Moments.{quiet_only, weaker, unchanged_joined, ran_none}
use Rattle.sg_disk.proofs.Keeping.{keeps_unchanged}
use Rattle.sg_disk.proofs.Standing.{between_read}
use Rattle.sg_disk.specs.declared.places.TheConstants.{JOURNAL, JOURNAL_LEN}
use Rattle.sg_disk.specs.StandsFor.{StandsForOne, Two}
use Rattle.sg_slots.specs.Slots.{head_at, files_at, spare_at, opposite, head_number, head_text}
use Rattle.sg_slots.specs.declared.slots.Head.{Head}
use Rattle.sg_slots.specs.declared.slots.Slot.{Slot}
use Rattle.sg_slots.specs.declared.slots.Slot.TheVariants.{Zero, One}
use Rattle.sg_slots.specs.declared.fault.OpenFault.TheVariants.{Unformatted, Damaged}
use Rattle.sg_slots.specs.declared.formats.Format.{Format}
use Rattle.sg_slots.specs.declared.pair.SlotPair.{SlotPair}
use Rattle.sg_store.specs.declared.store.Store.{Store}
use Rattle.sg_slots.proofs.RefusalLemmas.{ended_after, handed_on}
use Rattle.sg_slots.proofs.StandLemmas.{in_opposite, in_spare, files_opposite}
use Rattle.sg_store.proofs.OpenLemmas.{Found, opened, not_unformatted, header_not_damaged, slots_not_damaged}
use Rattle.sg_store.proofs.store.Store.open.Goals as goal

pub returns-clause-ready : goal.returns-clause-ready
returns-clause-ready g c p told stands =
    let v = g.D.Disk.view c.args.disk.now in
    let m = g.D.Disk.view c.read_header.new.disk in
    let w = g.D.Disk.view c.read_slots.new.disk in
    let s = c.assemble.result in
    let h = c.in_ok-header.ensures in
    let r = c.in_ok-slots.ensures in
    let here = h.ran.told told in
    let same : m.bytes ≡ v.bytes = h.bytes told in
    let zero : c.in_ok-slots.slots.zero ≡ head_at Zero v.bytes = r.zero here ∙ ap (λ (b : List ℕ). head_at Zero b) same in
    let one : c.in_ok-slots.slots.one ≡ head_at One v.bytes = r.one here ∙ ap (λ (b : List ℕ). head_at One b) same in
    let zero_files = r.zero_files here ∙ ap (λ (b : List ℕ). files_at Zero b) same in
    let one_files = r.one_files here ∙ ap (λ (b : List ℕ). files_at One b) same in
    let spare : s.spare ≡ c.in_ok-slots.slots.spare = c.assemble.ensures.spare in
    let chosen = c.in_ok-slots.slots.spare in
    let found : Found s v.bytes = record {
      display = c.assemble.ensures.display ∙ h.display told;
      epoch = c.assemble.ensures.epoch ∙ h.epoch told;
      room = c.assemble.ensures.room ∙ h.room told;
      spare = spare ∙ r.spare ∙ ap (λ (x : Option Head). spare_at x c.in_ok-slots.slots.one) zero ∙ ap (λ (x : Option Head). spare_at (head_at Zero v.bytes) x) one;
      gate = c.assemble.ensures.gate ∙ ap is_some (in_spare chosen v.bytes c.in_ok-slots.slots.zero c.in_ok-slots.slots.one zero one) ∙ ap (λ (x : Slot). is_some (head_at x v.bytes)) (sym spare);
      number = c.assemble.ensures.number ∙ ap head_number (in_opposite chosen v.bytes c.in_ok-slots.slots.zero c.in_ok-slots.slots.one zero one) ∙ ap (λ (x : Slot). head_number (head_at (opposite x) v.bytes)) (sym spare);
      text = c.assemble.ensures.text ∙ ap head_text (in_opposite chosen v.bytes c.in_ok-slots.slots.zero c.in_ok-slots.slots.one zero one) ∙ ap (λ (x : Slot). head_text (head_at (opposite x) v.bytes)) (sym spare);
      files = c.assemble.ensures.files ∙ files_opposite chosen v.bytes c.read_slots.new.zero_files c.read_slots.new.one_files zero_files one_files ∙ ap (λ (x : Slot). files_at (opposite x) v.bytes) (sym spare);
      staged = c.assemble.ensures.staged;
      half = c.assemble.ensures.half;
    } in
    opened v w s p (r.quiet.ran.told here) (quiet_only 0 m w v.bytes r.quiet (h.stable told)) (r.quiet.bytes here ∙ same) found stands

pub returns-clause-settled : goal.returns-clause-settled
returns-clause-settled g c p q between =
    let one = between_read (g.D.Disk.view c.args.disk.now) (Two p q) between in
    (one.0, one.1, one.2, returns-clause-ready g c one.0 between.told one.2)

pub returns-clause-between : goal.returns-clause-between
returns-clause-between g c p q between =
    let v = g.D.Disk.view c.args.disk.now in
    let m = g.D.Disk.view c.read_header.new.disk in
    let w = g.D.Disk.view c.read_slots.new.disk in
    weaker v w v.images (StandsForOne (Two p q)) between.each (unchanged_joined v m w c.in_ok-header.ensures.any_moment c.in_ok-slots.ensures.any_moment)

pub returns-in_err-rooms-clause-ended : goal.returns-in_err-rooms-clause-ended
returns-in_err-rooms-clause-ended g c = let p = err_from_is_err_and c.from_residual.result c.from_residual.ensures.1 in rw (p.1, p.2) (ran_none (g.D.Disk.view c.args.disk.now))

pub returns-in_err-slots-clause-ended : goal.returns-in_err-slots-clause-ended
returns-in_err-slots-clause-ended g c =
    let p = err_from_is_err_and c.from_residual-in_err-slots.result c.from_residual-in_err-slots.ensures.1 in
    rw (p.1, p.2) (ended_after 2 (g.D.Disk.view c.args.disk.now) (g.D.Disk.view c.read_header.new.disk) (g.D.Disk.view c.read_slots.new.disk) c.in_err-slots.field-0.0 c.in_ok-header.ensures.ran c.in_err-slots.ensures.ended)

pub returns-in_err-header-clause-recognized : goal.returns-in_err-header-clause-recognized
returns-in_err-header-clause-recognized g c p told stands is =
    let q = err_from_is_err_and c.from_residual-in_err-header.result c.from_residual-in_err-header.ensures.1 in
    let same = handed_on Format Store c.from_residual-in_err-header.result q.0 c.in_err-header.field-0.0 Unformatted q.1 q.2 is in
    not_unformatted (g.D.Disk.view c.args.disk.now) p (g.D.Disk.view c.read_header.new.disk).size told stands (c.read_header.ensures.told_size told) (c.in_err-header.ensures.unformatted same)

pub returns-in_err-header-clause-undamaged : goal.returns-in_err-header-clause-undamaged
returns-in_err-header-clause-undamaged g c p told stands place found is =
    let q = err_from_is_err_and c.from_residual-in_err-header.result c.from_residual-in_err-header.ensures.1 in
    let same = handed_on Format Store c.from_residual-in_err-header.result q.0 c.in_err-header.field-0.0 (Damaged place found) q.1 q.2 is in
    header_not_damaged (g.D.Disk.view c.args.disk.now) p (g.D.Disk.view c.read_header.new.disk).size (record { place = place; found = found }) told stands (c.read_header.ensures.told_size told) (c.in_err-header.ensures.damaged place found same told)

pub returns-in_err-slots-clause-undamaged : goal.returns-in_err-slots-clause-undamaged
returns-in_err-slots-clause-undamaged g c p told stands place found is =
    let q = err_from_is_err_and c.from_residual-in_err-slots.result c.from_residual-in_err-slots.ensures.1 in
    let same = handed_on SlotPair Store c.from_residual-in_err-slots.result q.0 c.in_err-slots.field-0.0 (Damaged place found) q.1 q.2 is in
    let h = c.in_ok-header.ensures in
    slots_not_damaged p (g.D.Disk.view c.args.disk.now).bytes (g.D.Disk.view c.read_header.new.disk).bytes c.in_ok-header.header.room (record { place = place; found = found }) stands (h.bytes told) (h.room told) (c.in_err-slots.ensures.damaged place found same (h.ran.told told))

pub returns-in_err-header-clause-damaged_open : goal.returns-in_err-header-clause-damaged_open
returns-in_err-header-clause-damaged_open g c place found is told =
    let q = err_from_is_err_and c.from_residual-in_err-header.result c.from_residual-in_err-header.ensures.1 in
    let same = handed_on Format Store c.from_residual-in_err-header.result q.0 c.in_err-header.field-0.0 (Damaged place found) q.1 q.2 is in
    c.in_err-header.ensures.opened place found same told

pub returns-in_err-header-clause-damaged_long : goal.returns-in_err-header-clause-damaged_long
returns-in_err-header-clause-damaged_long g c place found is =
    let q = err_from_is_err_and c.from_residual-in_err-header.result c.from_residual-in_err-header.ensures.1 in
    let same = handed_on Format Store c.from_residual-in_err-header.result q.0 c.in_err-header.field-0.0 (Damaged place found) q.1 q.2 is in
    c.in_err-header.ensures.long place found same

pub returns-clause-keeps : goal.returns-clause-keeps
returns-clause-keeps g c =
    let v = g.D.Disk.view c.args.disk.now in
    let m = g.D.Disk.view c.read_header.new.disk in
    let w = g.D.Disk.view c.read_slots.new.disk in
    keeps_unchanged JOURNAL JOURNAL_LEN v w (unchanged_joined v m w c.in_ok-header.ensures.any_moment c.in_ok-slots.ensures.any_moment) (λ told. c.in_ok-slots.ensures.quiet.bytes (c.in_ok-header.ensures.ran.told told) ∙ c.in_ok-header.ensures.bytes told)
