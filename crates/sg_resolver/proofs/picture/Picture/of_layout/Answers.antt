-- The entry that is added is that of the region at the loop's index.
use Rattle.std.proofs.Common.{◌<◌, length, refl}
use Rattle.std.proofs.lemmas.Option.{slice_get_read}
use Rattle.sg_resolver.proofs.Pictures.{one_more}
use Rattle.sg_resolver.proofs.picture.Picture.of_layout.Goals as goal

pub loop-i-preserved : goal.loop-i-preserved
loop-i-preserved c =
    let inside : c.loop-i.i < length c.args.layout.now.regions = rw (← c.regions-region-items.ensures.value) c.loop-i-test.true in
    let is = rw c.regions-region-items.ensures.value at c.region-item.is in
    let here = slice_get_read c.args.layout.now.regions (length c.args.layout.now.regions) c.loop-i.i c.region-item.result refl inside is in
    rw c.add.ensures
    (one_more c.args.layout.now.regions c.loop-i.i c.args.offset c.region-item.result c.item_at.result c.loop-i.picture inside is (c.item_at.ensures.value c.region-item.result here) c.loop-i.invariant)
