use Rattle.std.proofs.Common.{◌∙◌, ap}
use Rattle.std.specs.Prelude.{Some}
use Rattle.sg_views.proofs.PieceLemmas.{kept_bytes}
use Rattle.sg_views.proofs.piece.bytes_from.Goals as goal

pub returns-in_ok-rest-in-Some-clause-bytes : goal.returns-in_ok-rest-in-Some-clause-bytes
returns-in_ok-rest-in-Some-clause-bytes g c = λ stored told pieces.
    let kept = (g.K.Keeper.view c.args.keeper.now).rows in
    let row = rw c.in-Some.is at (c.in_ok-get.ensures.row told) in
    c.in_ok-rest-in-Some.ensures
    ∙ kept_bytes c.args.media.0 c.args.offset stored kept (Some c.in-Some.bytes.items) pieces c.ranges.offset.fits (row ∙ ap kept c.piece_key.ensures)
