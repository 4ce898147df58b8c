use Rattle.std.proofs.Common.{◌+◌, ◌*◌, inl, arith}
use Rattle.sg_disk.specs.declared.places.TheConstants.{DATA, JOURNAL, JOURNAL_LEN}
use Rattle.sg_pages.specs.declared.maps.TheConstants.{MAP_LEN}
use Rattle.sg_contents.specs.declared.places.TheConstants.{SEALS_LEN}
use Rattle.sg_upgrade.proofs.ClearLemmas.{zeros_outside}
use Rattle.sg_format.proofs.formatting.clear_areas.Goals as goal

pub returns-clause-kept : goal.returns-clause-kept
returns-clause-kept g c told place n front zeros =
    let v = g.D.Disk.view c.args.disk.now in
    let w = g.D.Disk.view c.clear_area.new.disk in
    let x = g.D.Disk.view c.clear_area-2.new.disk in
    let here = c.in_ok-clear_area.ensures.ran.told told in
    zeros_outside place n (DATA + c.args.room + 2 * MAP_LEN) SEALS_LEN w.bytes x.bytes (c.in_ok-clear_area-2.ensures.torn here) (inl (omega (arith, front)))
    (zeros_outside place n JOURNAL JOURNAL_LEN v.bytes w.bytes (c.in_ok-clear_area.ensures.torn told) (inl front) zeros)

pub returns-clause-journal : goal.returns-clause-journal
returns-clause-journal g c told =
    let w = g.D.Disk.view c.clear_area.new.disk in
    let x = g.D.Disk.view c.clear_area-2.new.disk in
    let here = c.in_ok-clear_area.ensures.ran.told told in
    zeros_outside JOURNAL JOURNAL_LEN (DATA + c.args.room + 2 * MAP_LEN) SEALS_LEN w.bytes x.bytes (c.in_ok-clear_area-2.ensures.torn here) (inl (omega arith)) (c.in_ok-clear_area.ensures.zeros told)
