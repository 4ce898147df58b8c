use Rattle.std.proofs.Common.{◌≡◌, [], length, ap, arith}
use Rattle.sg_rows.specs.Written.{text_before}
use Rattle.sg_rows.proofs.WrittenLemmas.{text_alone}
use Rattle.sg_manifest.specs.Text.{text, snapshot_json}
use Rattle.sg_manifest.proofs.LengthLemmas.{text_short}
use Rattle.sg_manifest.proofs.text.text_len.Goals as goal

pub returns : goal.returns
unfolding text
returns c =
    let all = simp c.new-out.ensures at c.in-Ok.ensures.text in
    let same : length (text_before (snapshot_json c.args.snapshot.now) []) ≡ length (text c.args.snapshot.now) = ap length (text_alone (snapshot_json c.args.snapshot.now)) in
    omega (arith, all [], same, text_short c.args.snapshot.now c.in-Ok.ensures.valid, c.bytes.ensures)
