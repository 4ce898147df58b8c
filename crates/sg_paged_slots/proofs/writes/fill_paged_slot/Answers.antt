use Rattle.std.proofs.Common.{◌+◌, ◌-◌, length, arith}
use Rattle.sg_disk.specs.declared.places.TheConstants.{FIELDS, SLOT_LEN}
use Rattle.sg_pages.specs.declared.maps.TheConstants.{MAP_LEN}
use Rattle.sg_disk.proofs.Writes.{within_part, within_part_failed, within_same, within_same_failed}
use Rattle.sg_slots.specs.Slots.{slot_place}
use Rattle.sg_paged_slots.specs.PagedDamage.{map_place}
use Rattle.sg_paged_slots.proofs.BothLemmas.{both_first, both_second}
use Rattle.sg_paged_slots.proofs.writes.fill_paged_slot.Goals as goal

pub returns-in_err-write_slot-clause-within : goal.returns-in_err-write_slot-clause-within
returns-in_err-write_slot-clause-within g c =
    let u = g.D.Disk.view c.args.disk.now in
    let v = g.D.Disk.view c.write_slot.new.disk in
    both_first (slot_place c.args.slot + FIELDS) (SLOT_LEN - FIELDS) (map_place c.args.room c.args.slot) MAP_LEN u v c.write_slot.ensures.within

pub returns-in_err-write_at-clause-within : goal.returns-in_err-write_at-clause-within
returns-in_err-write_at-clause-within g c =
    let u = g.D.Disk.view c.args.disk.now in
    let v = g.D.Disk.view c.write_slot.new.disk in
    let w = g.D.Disk.view c.write_at.new.self in
    let a = slot_place c.args.slot + FIELDS in
    let b = map_place c.args.room c.args.slot in
    both_second a (SLOT_LEN - FIELDS) b MAP_LEN u v w c.in_ok-write_slot.ensures.ran.told (both_first a (SLOT_LEN - FIELDS) b MAP_LEN u v c.write_slot.ensures.within) (within_part_failed b MAP_LEN c.place_of_map.result (length c.args.map.now) v w (omega (arith, c.place_of_map.ensures)) (omega (arith, c.place_of_map.ensures, c.requires.map)) c.in_err-write_at.ensures.failed)

pub returns-in_err-sync-clause-within : goal.returns-in_err-sync-clause-within
returns-in_err-sync-clause-within g c =
    let u = g.D.Disk.view c.args.disk.now in
    let v = g.D.Disk.view c.write_slot.new.disk in
    let w = g.D.Disk.view c.write_at.new.self in
    let x = g.D.Disk.view c.sync.new.self in
    let a = slot_place c.args.slot + FIELDS in
    let b = map_place c.args.room c.args.slot in
    let told_1 = c.in_ok-write_slot.ensures.ran.told in
    let told_2 : u.told → w.told = λ t. c.in_ok-write_at.ensures.passed.told (told_1 t) in
    let second = both_second a (SLOT_LEN - FIELDS) b MAP_LEN u v w told_1 (both_first a (SLOT_LEN - FIELDS) b MAP_LEN u v c.write_slot.ensures.within) (within_part b MAP_LEN c.place_of_map.result c.args.map.now v w (omega (arith, c.place_of_map.ensures)) (omega (arith, c.place_of_map.ensures, c.requires.map)) (omega (arith, c.place_of_map.ensures, c.requires.map, c.requires.disk, c.write_slot.ensures.size)) c.in_ok-write_at.ensures.passed) in
    both_second a (SLOT_LEN - FIELDS) b MAP_LEN u w x told_2 second (within_same_failed b MAP_LEN w x c.in_err-sync.ensures.failed)

pub returns-clause-within : goal.returns-clause-within
returns-clause-within g c =
    let u = g.D.Disk.view c.args.disk.now in
    let v = g.D.Disk.view c.write_slot.new.disk in
    let w = g.D.Disk.view c.write_at.new.self in
    let x = g.D.Disk.view c.sync.new.self in
    let a = slot_place c.args.slot + FIELDS in
    let b = map_place c.args.room c.args.slot in
    let told_1 = c.in_ok-write_slot.ensures.ran.told in
    let told_2 : u.told → w.told = λ t. c.in_ok-write_at.ensures.passed.told (told_1 t) in
    let second = both_second a (SLOT_LEN - FIELDS) b MAP_LEN u v w told_1 (both_first a (SLOT_LEN - FIELDS) b MAP_LEN u v c.write_slot.ensures.within) (within_part b MAP_LEN c.place_of_map.result c.args.map.now v w (omega (arith, c.place_of_map.ensures)) (omega (arith, c.place_of_map.ensures, c.requires.map)) (omega (arith, c.place_of_map.ensures, c.requires.map, c.requires.disk, c.write_slot.ensures.size)) c.in_ok-write_at.ensures.passed) in
    both_second a (SLOT_LEN - FIELDS) b MAP_LEN u w x told_2 second (within_same b MAP_LEN w x c.in_ok-sync.ensures.passed)
