use Rattle.std.proofs.Common.{◌∙◌, ◌++◌, List, ℕ, ap}
use Rattle.std.specs.Prelude.{codes}
use Rattle.hex.specs.Hex.{encode_lower}
use Rattle.sg_replies.proofs.BodyLemmas.{digest_parts}
use Rattle.sg_rows.proofs.WrittenLemmas.{digest_plain}
use Rattle.sg_replies.proofs.saying.digest_text.Goals as goal

pub returns : goal.returns
returns c =
    c.text_between.ensures
    ∙ ap (λ (digits : List ℕ). codes "{\"found\":\"" ++ (digits ++ codes "\",\"refused\":\"DigestDiffers\"}"))
    (c.in-Ok.ensures.written ∙ ap encode_lower c.as_slice.ensures)
    ∙ digest_parts c.args.found.now (digest_plain c.args.found.now c.fits-found)
