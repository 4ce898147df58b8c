use Rattle.std.proofs.Common.{rules}
use Rattle.json.specs.Print.{escape_byte}
use Rattle.sg_rows.proofs.layout.LayoutManifestRow.put.Goals as goal

pub returns : goal.returns
unfolding escape_byte
returns g c =
    let number = simp c.id.ensures at c.in_ok-put_number.ensures in
    let list = simp c.regions.ensures.value at c.in_ok-put_list.ensures in
    search rules
