use Rattle.std.proofs.Common.{rules, arith, ◌≡◌, sym, ◌∙◌}
use Rattle.json.specs.Print.{escape}
use Rattle.hex.specs.Hex.{encode_lower}
use Rattle.sg_rows.proofs.WrittenLemmas.{digest_plain}
use Rattle.sg_rows.proofs.file.put_digest.Goals as goal

pub returns : goal.returns
returns g c =
    let plain = digest_plain c.args.md5.now (λ k. let fits = c.type_inv.md5 k in omega (arith, fits)) in
    let digits : c.encode_to_slice.new.output ≡ escape (encode_lower c.args.md5.now) = c.in-Ok.ensures.written ∙ sym plain in
    let put = simp digits at c.put-in-Ok.ensures in
    search rules
