use Rattle.std.proofs.Common.{◌≡◌, ℕ, ◌+◌, ◌-◌, List, length, ◌∙◌, ap, arith}
use borrow.Rule.Slice.PartMut.{put_mid}
use Rattle.sg_disk.proofs.Overwrites.{mid_put}
use Rattle.sg_disk.proofs.history.overwrite.Goals as goal

pub returns : goal.returns
returns c =
    let n = length c.args.written.now in
    let k : c.args.place + n - c.args.place ≡ n = omega arith in
    ap (λ (bs : List ℕ). put_mid c.args.place (c.args.place + n - c.args.place) c.args.bytes.now bs) c.copy_from_slice.ensures.after ∙ mid_put c.args.place (c.args.place + n - c.args.place) c.args.bytes.now c.args.written.now k
