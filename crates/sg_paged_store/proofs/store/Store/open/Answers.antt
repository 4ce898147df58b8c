use Rattle.std.proofs.Common.{◌≡◌, ℕ, ◌+◌, List, Option, None, Some, sym, ◌∙◌, ap, subst}
use Rattle.std.proofs.lemmas.Result.{err_from_is_err_and}
use Rattle.sg_disk.specs.View.{View, range, Only}
use Rattle.sg_disk.specs.StandsFor.{Two}
use Rattle.sg_disk.specs.declared.places.TheConstants.{HEADER_LEN, TABLE}
use Rattle.sg_pages.specs.Shelves.{Shelved}
use Rattle.sg_slots.specs.Slots.{slot_place}
use Rattle.sg_slots.specs.declared.slots.Slot.TheVariants.{Zero, One}
use Rattle.sg_staging.specs.Staged.{Staged, IsStagedIn}
use Rattle.sg_store_state.proofs.FaultlessLemmas.{faultless_alone}
use Rattle.sg_disk.proofs.Moments.{started, quiet_only, ran_none}
use Rattle.sg_slots.specs.declared.fault.OpenFault.TheVariants.{Unformatted, Damaged}
use Rattle.sg_slots.specs.declared.pair.SlotPair.{SlotPair}
use Rattle.sg_slots.proofs.RefusalLemmas.{ended_after, handed_on}
use Rattle.sg_slots.specs.Damage.{slots_damage}
use Rattle.sg_upgrade.specs.Upgrading.{IsNewBut}
use Rattle.sg_paged_slots.specs.Headers.{header_at, any_header_damage}
use Rattle.sg_paged_slots.specs.declared.headers.Header.{Header}
use Rattle.sg_contents.specs.StandsFor.{StandsFor, StandsForOne, IsNew}
use Rattle.sg_contents.proofs.Standing.{between_read}
use Rattle.sg_soundness.proofs.SoundHeader.{header_says}
use Rattle.sg_store_state.specs.State.{State}
use Rattle.sg_store_state.proofs.RenewLemmas.{both_read, both_renewed, both_opened, not_unformatted, header_not_damaged, old_undamaged, new_undamaged}
use Rattle.sg_paged_store.proofs.FaultLemmas.{in_header, in_slots, in_old, by_format}
use Rattle.sg_paged_store.proofs.OpeningLemmas.{Read, room_from, assembled_ready}
use Rattle.sg_paged_store.proofs.store.Store.open.Goals as goal

pub read_paged_slots-requires-clause-room : goal.read_paged_slots-requires-clause-room
read_paged_slots-requires-clause-room g c = room_from c.in_ok-header.header.format.room c.in_ok-header.ensures.room

pub assemble-requires-clause-room : goal.assemble-requires-clause-room
assemble-requires-clause-room g c = room_from c.in_ok-header.header.format.room c.in_ok-header.ensures.room

pub assemble-requires-clause-zero_files : goal.assemble-requires-clause-zero_files
assemble-requires-clause-zero_files g c =
    let r = c.in_ok-slots.ensures in
    let room : ℕ = c.in_ok-header.header.format.room in
    let files : Shelved = c.read_paged_slots.new.zero_files in
    subst (λ (k : Staged). IsStagedIn room files k) (sym c.in_ok-rooms.ensures.staged) (faultless_alone room (slot_place Zero + TABLE) Zero files r.zero_placed r.zero_ascending r.zero_table r.zero_map)

pub assemble-requires-clause-one_files : goal.assemble-requires-clause-one_files
assemble-requires-clause-one_files g c =
    let r = c.in_ok-slots.ensures in
    let room : ℕ = c.in_ok-header.header.format.room in
    let files : Shelved = c.read_paged_slots.new.one_files in
    subst (λ (k : Staged). IsStagedIn room files k) (sym c.in_ok-rooms.ensures.staged) (faultless_alone room (slot_place One + TABLE) One files r.one_placed r.one_ascending r.one_table r.one_map)

pub returns-clause-ready : goal.returns-clause-ready
returns-clause-ready g c p told standing =
    let v : View = g.D.Disk.view c.args.disk.now in
    let m : View = g.D.Disk.view c.read_any_header.new.disk in
    let u : View = g.D.Disk.view c.renew.new.disk in
    let w : View = g.D.Disk.view c.read_paged_slots.new.disk in
    let h : Header = c.in_ok-header.header in
    let head = c.in_ok-header.ensures in
    let r = c.in_ok-slots.ensures in
    let told_m = head.ran.told told in
    let told_u = c.in_ok-renew.ensures.ran.told told_m in
    let same : m.bytes ≡ v.bytes = head.bytes told in
    let only_m : Only m.bytes m = subst (λ (b : List ℕ). Only b m) (sym same) (head.stable told) in
    let is : h ≡ header_at m.bytes = head.header told ∙ ap header_at (sym same) in
    let before : StandsFor p m.bytes = subst (StandsFor p) (sym same) standing in
    let both = c.in_ok-renew.ensures.stands told_m only_m is p before in
    let only_u : Only u.bytes u = c.in_ok-renew.ensures.stable told_m only_m in
    let next : w.bytes ≡ u.bytes = r.quiet.bytes told_u in
    let only_w : Only w.bytes w = subst (λ (b : List ℕ). Only b w) (sym next) (quiet_only 0 u w u.bytes r.quiet only_u) in
    assembled_ready m.bytes w c.assemble.result h c.in_ok-slots.slots c.read_paged_slots.new.zero_files c.read_paged_slots.new.one_files p (r.quiet.ran.told told_u) only_w is before (subst (StandsFor p) (sym next) both.0) (subst (λ (b : List ℕ). IsNew (range b 0 HEADER_LEN)) (sym next) both.1)
    (subst (λ (b : List ℕ). Read b h.format.room c.in_ok-slots.slots c.read_paged_slots.new.zero_files c.read_paged_slots.new.one_files) (sym next) (record { zero_is = r.zero told_u; one_is = r.one told_u; spare_is = r.spare; zero_files = r.zero_files told_u; one_files = r.one_files told_u }))
    (record { display = c.assemble.ensures.display; epoch = c.assemble.ensures.epoch; room = c.assemble.ensures.room; spare = c.assemble.ensures.spare; gate = c.assemble.ensures.gate; number = c.assemble.ensures.number; text = c.assemble.ensures.text; files = c.assemble.ensures.files; staged = c.assemble.ensures.staged })

pub returns-clause-settled : goal.returns-clause-settled
returns-clause-settled g c p q between =
    let one = between_read (g.D.Disk.view c.args.disk.now) (Two p q) between in
    (one.0, one.1, one.2, returns-clause-ready g c one.0 between.told one.2)

pub returns-in_err-rooms-clause-between : goal.returns-in_err-rooms-clause-between
returns-in_err-rooms-clause-between g c p q between = started (g.D.Disk.view c.args.disk.now) (StandsForOne (Two p q)) between.each

pub returns-in_err-header-clause-between : goal.returns-in_err-header-clause-between
returns-in_err-header-clause-between g c p q between = both_read (g.D.Disk.view c.args.disk.now) (g.D.Disk.view c.read_any_header.new.disk) p q between c.read_any_header.ensures.any_moment

pub returns-in_err-renew-clause-between : goal.returns-in_err-renew-clause-between
returns-in_err-renew-clause-between g c p q between =
    let v : View = g.D.Disk.view c.args.disk.now in
    let m : View = g.D.Disk.view c.read_any_header.new.disk in
    let u : View = g.D.Disk.view c.renew.new.disk in
    let head = c.in_ok-header.ensures in
    let same : m.bytes ≡ v.bytes = head.bytes between.told in
    both_renewed v m u p q between c.read_any_header.ensures.any_moment (λ r standing. c.renew.ensures.any_moment (head.ran.told between.told) (subst (λ (b : List ℕ). Only b m) (sym same) (head.stable between.told)) (head.header between.told ∙ ap header_at (sym same)) r (subst (StandsFor r) (sym same) standing))

pub returns-in_err-slots-clause-between : goal.returns-in_err-slots-clause-between
returns-in_err-slots-clause-between g c p q between =
    let v : View = g.D.Disk.view c.args.disk.now in
    let m : View = g.D.Disk.view c.read_any_header.new.disk in
    let u : View = g.D.Disk.view c.renew.new.disk in
    let w : View = g.D.Disk.view c.read_paged_slots.new.disk in
    let head = c.in_ok-header.ensures in
    let same : m.bytes ≡ v.bytes = head.bytes between.told in
    both_opened v m u w p q between c.read_any_header.ensures.any_moment (λ r standing. c.renew.ensures.any_moment (head.ran.told between.told) (subst (λ (b : List ℕ). Only b m) (sym same) (head.stable between.told)) (head.header between.told ∙ ap header_at (sym same)) r (subst (StandsFor r) (sym same) standing)) c.read_paged_slots.ensures.any_moment

pub returns-clause-between : goal.returns-clause-between
returns-clause-between g c p q between =
    let v : View = g.D.Disk.view c.args.disk.now in
    let m : View = g.D.Disk.view c.read_any_header.new.disk in
    let u : View = g.D.Disk.view c.renew.new.disk in
    let w : View = g.D.Disk.view c.read_paged_slots.new.disk in
    let head = c.in_ok-header.ensures in
    let same : m.bytes ≡ v.bytes = head.bytes between.told in
    both_opened v m u w p q between c.read_any_header.ensures.any_moment (λ r standing. c.renew.ensures.any_moment (head.ran.told between.told) (subst (λ (b : List ℕ). Only b m) (sym same) (head.stable between.told)) (head.header between.told ∙ ap header_at (sym same)) r (subst (StandsFor r) (sym same) standing)) c.read_paged_slots.ensures.any_moment

pub returns-clause-stable : goal.returns-clause-stable
returns-clause-stable g c told =
    let v : View = g.D.Disk.view c.args.disk.now in
    let m : View = g.D.Disk.view c.read_any_header.new.disk in
    let u : View = g.D.Disk.view c.renew.new.disk in
    let w : View = g.D.Disk.view c.read_paged_slots.new.disk in
    let head = c.in_ok-header.ensures in
    let told_m = head.ran.told told in
    let same : m.bytes ≡ v.bytes = head.bytes told in
    let only_u : Only u.bytes u = c.in_ok-renew.ensures.stable told_m (subst (λ (b : List ℕ). Only b m) (sym same) (head.stable told)) in
    subst (λ (b : List ℕ). Only b w) (sym (c.in_ok-slots.ensures.quiet.bytes (c.in_ok-renew.ensures.ran.told told_m))) (quiet_only 0 u w u.bytes c.in_ok-slots.ensures.quiet only_u)

pub returns-in_err-rooms-clause-ended : goal.returns-in_err-rooms-clause-ended
returns-in_err-rooms-clause-ended g c = let p = err_from_is_err_and c.from_residual.result c.from_residual.ensures.1 in rw (p.1, p.2) (ran_none (g.D.Disk.view c.args.disk.now))

pub returns-in_err-renew-clause-ended : goal.returns-in_err-renew-clause-ended
returns-in_err-renew-clause-ended g c =
    let p = err_from_is_err_and c.from_residual-in_err-renew.result c.from_residual-in_err-renew.ensures.1 in
    rw (p.1, p.2) (ended_after 2 (g.D.Disk.view c.args.disk.now) (g.D.Disk.view c.read_any_header.new.disk) (g.D.Disk.view c.renew.new.disk) c.in_err-renew.field-0.0 c.in_ok-header.ensures.ran c.in_err-renew.ensures.ended)

pub returns-in_err-slots-clause-ended : goal.returns-in_err-slots-clause-ended
returns-in_err-slots-clause-ended g c =
    let p = err_from_is_err_and c.from_residual-in_err-slots.result c.from_residual-in_err-slots.ensures.1 in
    rw (p.1, p.2) (ended_after 2 (g.D.Disk.view c.args.disk.now) (g.D.Disk.view c.read_any_header.new.disk) (g.D.Disk.view c.read_paged_slots.new.disk) c.in_err-slots.field-0.0 c.in_ok-header.ensures.ran (ended_after 0 (g.D.Disk.view c.read_any_header.new.disk) (g.D.Disk.view c.renew.new.disk) (g.D.Disk.view c.read_paged_slots.new.disk) c.in_err-slots.field-0.0 c.in_ok-renew.ensures.ran c.in_err-slots.ensures.ended))

pub returns-in_err-header-clause-recognized : goal.returns-in_err-header-clause-recognized
returns-in_err-header-clause-recognized g c p told standing is =
    let q = err_from_is_err_and c.from_residual-in_err-header.result c.from_residual-in_err-header.ensures.1 in
    let same = handed_on Header State c.from_residual-in_err-header.result q.0 c.in_err-header.field-0.0 Unformatted q.1 q.2 is in
    not_unformatted (g.D.Disk.view c.args.disk.now) p (g.D.Disk.view c.read_any_header.new.disk).size told standing (c.read_any_header.ensures.told_size told) (c.in_err-header.ensures.unformatted same)

pub returns-in_err-header-clause-undamaged : goal.returns-in_err-header-clause-undamaged
returns-in_err-header-clause-undamaged g c p told standing place found is =
    let q = err_from_is_err_and c.from_residual-in_err-header.result c.from_residual-in_err-header.ensures.1 in
    let same = handed_on Header State c.from_residual-in_err-header.result q.0 c.in_err-header.field-0.0 (Damaged place found) q.1 q.2 is in
    header_not_damaged (g.D.Disk.view c.args.disk.now) p (g.D.Disk.view c.read_any_header.new.disk).size (record { place = place; found = found }) told standing (c.read_any_header.ensures.told_size told) (c.in_err-header.ensures.byte place found same told) (c.in_err-header.ensures.damaged place found same told)

pub returns-in_err-renew-clause-undamaged : goal.returns-in_err-renew-clause-undamaged
returns-in_err-renew-clause-undamaged g c p told standing place found is =
    let q = err_from_is_err_and c.from_residual-in_err-renew.result c.from_residual-in_err-renew.ensures.1 in
    let given = handed_on (Unit {0}) State c.from_residual-in_err-renew.result q.0 c.in_err-renew.field-0.0 (Damaged place found) q.1 q.2 is in
    let head = c.in_ok-header.ensures in
    let same = head.bytes told in
    let bad = c.in_err-renew.ensures.damaged place found given (head.ran.told told) in
    old_undamaged p (g.D.Disk.view c.read_any_header.new.disk).bytes c.in_ok-header.header (record { place = place; found = found }) (head.header told ∙ ap header_at (sym same)) bad.0 (subst (StandsFor p) (sym same) standing) bad.1

pub returns-in_err-slots-clause-undamaged : goal.returns-in_err-slots-clause-undamaged
returns-in_err-slots-clause-undamaged g c p told standing place found is =
    let q = err_from_is_err_and c.from_residual-in_err-slots.result c.from_residual-in_err-slots.ensures.1 in
    let given = handed_on SlotPair State c.from_residual-in_err-slots.result q.0 c.in_err-slots.field-0.0 (Damaged place found) q.1 q.2 is in
    let m : View = g.D.Disk.view c.read_any_header.new.disk in
    let u : View = g.D.Disk.view c.renew.new.disk in
    let h : Header = c.in_ok-header.header in
    let head = c.in_ok-header.ensures in
    let told_m = head.ran.told told in
    let same = head.bytes told in
    let is_head : h ≡ header_at m.bytes = head.header told ∙ ap header_at (sym same) in
    let before : StandsFor p m.bytes = subst (StandsFor p) (sym same) standing in
    let both = c.in_ok-renew.ensures.stands told_m (subst (λ (b : List ℕ). Only b m) (sym same) (head.stable told)) is_head p before in
    new_undamaged p u.bytes h.format.room (record { place = place; found = found }) (ap (λ (x : Header). x.format.room) is_head ∙ (header_says p m.bytes before).room) both.1 both.0 (c.in_err-slots.ensures.damaged place found given (c.in_ok-renew.ensures.ran.told told_m))

pub returns-in_err-header-clause-damaged : goal.returns-in_err-header-clause-damaged
returns-in_err-header-clause-damaged g c place found is told =
    let v : View = g.D.Disk.view c.args.disk.now in
    let q = err_from_is_err_and c.from_residual-in_err-header.result c.from_residual-in_err-header.ensures.1 in
    let given = handed_on Header State c.from_residual-in_err-header.result q.0 c.in_err-header.field-0.0 (Damaged place found) q.1 q.2 is in
    let bad = c.in_err-header.ensures.damaged place found given told in
    in_header v.size v.bytes (record { place = place; found = found }) (subst (λ (n : ℕ). any_header_damage n v.bytes ≡ Some (record { place = place; found = found })) (c.read_any_header.ensures.told_size told) bad)

pub returns-in_err-renew-clause-damaged : goal.returns-in_err-renew-clause-damaged
returns-in_err-renew-clause-damaged g c place found is told =
    let v : View = g.D.Disk.view c.args.disk.now in
    let h : Header = c.in_ok-header.header in
    let head = c.in_ok-header.ensures in
    let q = err_from_is_err_and c.from_residual-in_err-renew.result c.from_residual-in_err-renew.ensures.1 in
    let given = handed_on (Unit {0}) State c.from_residual-in_err-renew.result q.0 c.in_err-renew.field-0.0 (Damaged place found) q.1 q.2 is in
    let bad = c.in_err-renew.ensures.damaged place found given (head.ran.told told) in
    let sound : any_header_damage v.size v.bytes ≡ None = subst (λ (n : ℕ). any_header_damage n v.bytes ≡ None) (c.read_any_header.ensures.told_size told) (head.sound told) in
    in_slots v.size v.bytes (Some (record { place = place; found = found })) sound (in_old v.bytes h (Some (record { place = place; found = found })) (head.header told) bad.0 (subst (λ (b : List ℕ). slots_damage h.format.room b ≡ Some (record { place = place; found = found })) (head.bytes told) bad.1))

pub returns-in_err-slots-clause-damaged : goal.returns-in_err-slots-clause-damaged
returns-in_err-slots-clause-damaged g c place found is told =
    let v : View = g.D.Disk.view c.args.disk.now in
    let m : View = g.D.Disk.view c.read_any_header.new.disk in
    let u : View = g.D.Disk.view c.renew.new.disk in
    let h : Header = c.in_ok-header.header in
    let head = c.in_ok-header.ensures in
    let q = err_from_is_err_and c.from_residual-in_err-slots.result c.from_residual-in_err-slots.ensures.1 in
    let given = handed_on SlotPair State c.from_residual-in_err-slots.result q.0 c.in_err-slots.field-0.0 (Damaged place found) q.1 q.2 is in
    let told_m = head.ran.told told in
    let same : m.bytes ≡ v.bytes = head.bytes told in
    let only_m : Only m.bytes m = subst (λ (b : List ℕ). Only b m) (sym same) (head.stable told) in
    let sound : any_header_damage v.size v.bytes ≡ None = subst (λ (n : ℕ). any_header_damage n v.bytes ≡ None) (c.read_any_header.ensures.told_size told) (head.sound told) in
    let bad = c.in_err-slots.ensures.damaged place found given (c.in_ok-renew.ensures.ran.told told_m) in
    in_slots v.size v.bytes (Some (record { place = place; found = found })) sound
    (by_format v.bytes u.bytes h (Some (record { place = place; found = found })) (head.header told) (λ new. c.renew.ensures.kept new ∙ same)
    (λ old. (subst (λ (b : List ℕ). IsNewBut h.format.room b u.bytes) same (c.in_ok-renew.ensures.upgraded told_m only_m old), subst (λ (b : List ℕ). slots_damage h.format.room b ≡ None) same (c.in_ok-renew.ensures.sound told_m old))) bad)

pub returns-clause-sound : goal.returns-clause-sound
returns-clause-sound g c told =
    let v : View = g.D.Disk.view c.args.disk.now in
    let m : View = g.D.Disk.view c.read_any_header.new.disk in
    let u : View = g.D.Disk.view c.renew.new.disk in
    let h : Header = c.in_ok-header.header in
    let head = c.in_ok-header.ensures in
    let told_m = head.ran.told told in
    let same : m.bytes ≡ v.bytes = head.bytes told in
    let only_m : Only m.bytes m = subst (λ (b : List ℕ). Only b m) (sym same) (head.stable told) in
    let sound : any_header_damage v.size v.bytes ≡ None = subst (λ (n : ℕ). any_header_damage n v.bytes ≡ None) (c.read_any_header.ensures.told_size told) (head.sound told) in
    in_slots v.size v.bytes None sound
    (by_format v.bytes u.bytes h None (head.header told) (λ new. c.renew.ensures.kept new ∙ same)
    (λ old. (subst (λ (b : List ℕ). IsNewBut h.format.room b u.bytes) same (c.in_ok-renew.ensures.upgraded told_m only_m old), subst (λ (b : List ℕ). slots_damage h.format.room b ≡ None) same (c.in_ok-renew.ensures.sound told_m old))) (c.in_ok-slots.ensures.sound (c.in_ok-renew.ensures.ran.told told_m)))

pub returns-in_err-header-clause-unformatted : goal.returns-in_err-header-clause-unformatted
returns-in_err-header-clause-unformatted g c is =
    let q = err_from_is_err_and c.from_residual-in_err-header.result c.from_residual-in_err-header.ensures.1 in
    c.in_err-header.ensures.unformatted (handed_on Header State c.from_residual-in_err-header.result q.0 c.in_err-header.field-0.0 Unformatted q.1 q.2 is)

pub returns-in_err-header-clause-damaged_open : goal.returns-in_err-header-clause-damaged_open
returns-in_err-header-clause-damaged_open g c place found is told =
    let q = err_from_is_err_and c.from_residual-in_err-header.result c.from_residual-in_err-header.ensures.1 in
    c.in_err-header.ensures.opened place found (handed_on Header State c.from_residual-in_err-header.result q.0 c.in_err-header.field-0.0 (Damaged place found) q.1 q.2 is) told

pub returns-in_err-header-clause-damaged_long : goal.returns-in_err-header-clause-damaged_long
returns-in_err-header-clause-damaged_long g c place found is =
    let q = err_from_is_err_and c.from_residual-in_err-header.result c.from_residual-in_err-header.ensures.1 in
    c.in_err-header.ensures.long place found (handed_on Header State c.from_residual-in_err-header.result q.0 c.in_err-header.field-0.0 (Damaged place found) q.1 q.2 is)

pub returns-in_err-renew-clause-damaged_long : goal.returns-in_err-renew-clause-damaged_long
returns-in_err-renew-clause-damaged_long g c place found is =
    let q = err_from_is_err_and c.from_residual-in_err-renew.result c.from_residual-in_err-renew.ensures.1 in
    c.in_err-renew.ensures.long place found (handed_on (Unit {0}) State c.from_residual-in_err-renew.result q.0 c.in_err-renew.field-0.0 (Damaged place found) q.1 q.2 is)
