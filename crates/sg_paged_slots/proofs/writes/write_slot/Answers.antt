use Rattle.std.proofs.Common.{◌+◌, ◌-◌, length, arith}
use Rattle.sg_disk.specs.declared.places.TheConstants.{FIELDS, SLOT_LEN, TABLE, TEXT}
use Rattle.sg_disk.proofs.Writes.{within_joined, within_part, within_part_failed}
use Rattle.sg_slots.specs.Slots.{slot_place}
use Rattle.sg_slots.proofs.SlotLemmas.{place_high}
use Rattle.sg_paged_slots.proofs.writes.write_slot.Goals as goal

pub returns-in_err-write_at-clause-within : goal.returns-in_err-write_at-clause-within
returns-in_err-write_at-clause-within g c =
    let u = g.D.Disk.view c.args.disk.now in
    let v = g.D.Disk.view c.write_at.new.self in
    let a = slot_place c.args.slot + FIELDS in
    within_part_failed a (SLOT_LEN - FIELDS) (c.place-place.result + FIELDS) (length c.args.head.now) u v (omega (arith, c.place-place.ensures)) (omega (arith, c.place-place.ensures, c.requires.head)) c.in_err-write_at.ensures.failed

pub returns-in_err-write_at-2-clause-within : goal.returns-in_err-write_at-2-clause-within
returns-in_err-write_at-2-clause-within g c =
    let u = g.D.Disk.view c.args.disk.now in
    let v = g.D.Disk.view c.write_at.new.self in
    let w = g.D.Disk.view c.write_at-2.new.self in
    let a = slot_place c.args.slot + FIELDS in
    let high = place_high c.args.slot in
    let first = within_part a (SLOT_LEN - FIELDS) (c.place-place.result + FIELDS) c.args.head.now u v (omega (arith, c.place-place.ensures)) (omega (arith, c.place-place.ensures, c.requires.head)) (omega (arith, c.place-place.ensures, c.requires.head, c.requires.disk, high)) c.in_ok-write_at.ensures.passed in
    within_joined a (SLOT_LEN - FIELDS) u v w c.in_ok-write_at.ensures.passed.told first (within_part_failed a (SLOT_LEN - FIELDS) (c.place-place.result + TABLE) (length c.args.table.now) v w (omega (arith, c.place-place.ensures)) (omega (arith, c.place-place.ensures, c.requires.table)) c.in_err-write_at-2.ensures.failed)

pub returns-in_err-write_at-3-clause-within : goal.returns-in_err-write_at-3-clause-within
returns-in_err-write_at-3-clause-within g c =
    let u = g.D.Disk.view c.args.disk.now in
    let v = g.D.Disk.view c.write_at.new.self in
    let w = g.D.Disk.view c.write_at-2.new.self in
    let x = g.D.Disk.view c.write_at-3.new.self in
    let a = slot_place c.args.slot + FIELDS in
    let high = place_high c.args.slot in
    let first = within_part a (SLOT_LEN - FIELDS) (c.place-place.result + FIELDS) c.args.head.now u v (omega (arith, c.place-place.ensures)) (omega (arith, c.place-place.ensures, c.requires.head)) (omega (arith, c.place-place.ensures, c.requires.head, c.requires.disk, high)) c.in_ok-write_at.ensures.passed in
    let told_1 = c.in_ok-write_at.ensures.passed.told in
    let second = within_joined a (SLOT_LEN - FIELDS) u v w told_1 first (within_part a (SLOT_LEN - FIELDS) (c.place-place.result + TABLE) c.args.table.now v w (omega (arith, c.place-place.ensures)) (omega (arith, c.place-place.ensures, c.requires.table)) (omega (arith, c.place-place.ensures, c.requires.table, c.requires.disk, c.write_at.ensures.size, high)) c.in_ok-write_at-2.ensures.passed) in
    let told_2 : u.told → w.told = λ t. c.in_ok-write_at-2.ensures.passed.told (told_1 t) in
    within_joined a (SLOT_LEN - FIELDS) u w x told_2 second (within_part_failed a (SLOT_LEN - FIELDS) (c.place-place.result + TEXT) (length c.args.text.now) w x (omega (arith, c.place-place.ensures)) (omega (arith, c.place-place.ensures, c.requires.text)) c.in_err-write_at-3.ensures.failed)

pub returns-clause-within : goal.returns-clause-within
returns-clause-within g c =
    let u = g.D.Disk.view c.args.disk.now in
    let v = g.D.Disk.view c.write_at.new.self in
    let w = g.D.Disk.view c.write_at-2.new.self in
    let x = g.D.Disk.view c.write_at-3.new.self in
    let a = slot_place c.args.slot + FIELDS in
    let high = place_high c.args.slot in
    let first = within_part a (SLOT_LEN - FIELDS) (c.place-place.result + FIELDS) c.args.head.now u v (omega (arith, c.place-place.ensures)) (omega (arith, c.place-place.ensures, c.requires.head)) (omega (arith, c.place-place.ensures, c.requires.head, c.requires.disk, high)) c.in_ok-write_at.ensures.passed in
    let told_1 = c.in_ok-write_at.ensures.passed.told in
    let second = within_joined a (SLOT_LEN - FIELDS) u v w told_1 first (within_part a (SLOT_LEN - FIELDS) (c.place-place.result + TABLE) c.args.table.now v w (omega (arith, c.place-place.ensures)) (omega (arith, c.place-place.ensures, c.requires.table)) (omega (arith, c.place-place.ensures, c.requires.table, c.requires.disk, c.write_at.ensures.size, high)) c.in_ok-write_at-2.ensures.passed) in
    let told_2 : u.told → w.told = λ t. c.in_ok-write_at-2.ensures.passed.told (told_1 t) in
    within_joined a (SLOT_LEN - FIELDS) u w x told_2 second (within_part a (SLOT_LEN - FIELDS) (c.place-place.result + TEXT) c.args.text.now w x (omega (arith, c.place-place.ensures)) (omega (arith, c.place-place.ensures, c.requires.text)) (omega (arith, c.place-place.ensures, c.requires.text, c.requires.disk, c.write_at.ensures.size, c.write_at-2.ensures.size, high)) c.in_ok-write_at-3.ensures.passed)
