use Rattle.std.proofs.Common.{◌≡◌, ℕ, ◌+◌, ◌-◌, List, length, replicate, ◌∙◌, ap, arith}
use Rattle.std.proofs.lemmas.List.{length-replicate, length-take, length-drop}
use borrow.Rule.Slice.PartMut.{put_mid}
use Rattle.sg_disk.proofs.Overwrites.{mid_put}
use Rattle.sg_disk.proofs.history.fill.Goals as goal

pub returns : goal.returns
returns c =
    let n = c.args.count in
    let k : c.args.place + n - c.args.place ≡ length (replicate n c.args.byte) = omega (arith, length-replicate n c.args.byte) in
    let filled : c.fill.new.self ≡ replicate n c.args.byte = c.fill.ensures.after (λ y e. e) ∙ ap (λ (m : ℕ). replicate m c.args.byte) (simp (length-take, length-drop) (omega arith)) in
    ap (λ (bs : List ℕ). put_mid c.args.place (c.args.place + n - c.args.place) c.args.bytes.now bs) filled ∙ mid_put c.args.place (c.args.place + n - c.args.place) c.args.bytes.now (replicate n c.args.byte) k
