use Rattle.std.proofs.Common.{[], sym, ◌∙◌, append-nil}
use Rattle.sg_rows.proofs.WrittenLemmas.{text_alone}
use Rattle.sg_manifest.specs.Text.{text, snapshot_json}
use Rattle.sg_manifest.proofs.text.write.Goals as goal

pub returns : goal.returns
unfolding text
returns c =
    let all = simp c.new-out.ensures at c.in_ok-put_snapshot.ensures.text in
    c.into_vec.ensures ∙ (sym (append-nil c.put_snapshot.new.out) ∙ (all [] ∙ text_alone (snapshot_json c.args.snapshot.now)))
