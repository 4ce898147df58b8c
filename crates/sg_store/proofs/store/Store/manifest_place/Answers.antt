use Rattle.std.proofs.Common.{◌+◌, ◌≤◌, length, ap, arith}
use Rattle.sg_base.specs.declared.limits.TheConstants.{MANIFEST_TEXT}
use Rattle.sg_slots.specs.Slots.{slot_place}
use Rattle.sg_store.specs.Ready.{text_length}
use Rattle.sg_store.proofs.ReadLemmas.{text_at}
use Rattle.sg_store.proofs.store.Store.manifest_place.Goals as goal
use Rattle.sg_disk.specs.declared.places.TheConstants.{TEXT}

pub returns-clause-text : goal.returns-clause-text
returns-clause-text c p bytes text knows is =
    let s = c.args.self.now in
    let long : length text ≤ MANIFEST_TEXT = omega (arith, s.text_fits, knows.text, ap text_length is) in
    text_at s p bytes text (c.place.result + TEXT) (omega (arith, c.place.ensures, ap slot_place c.opposite.ensures)) long knows is
