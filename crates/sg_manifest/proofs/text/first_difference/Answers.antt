use Rattle.std.proofs.Common.{◌≡◌, [], sym, ◌∙◌, ap}
use Rattle.sg_rows.proofs.WrittenLemmas.{text_alone}
use Rattle.sg_manifest.specs.Text.{text, snapshot_json}
use Rattle.sg_manifest.specs.Agreement.{start, against, difference}
use Rattle.sg_manifest.proofs.AgreementLemmas.{against_nothing, none_or_same, place_of}
use Rattle.sg_manifest.proofs.text.first_difference.Goals as goal

-- where the bytes and the whole text differ
whole : (c : goal.After-difference) → c.difference.result ≡ difference (against (start c.args.bytes.now) (text c.args.snapshot.now))
unfolding text
whole c =
    let all = simp c.new-comparison.ensures at c.in-Ok.ensures.text in
    c.difference.ensures ∙ ap difference (sym (against_nothing c.put_snapshot.new.out) ∙ (all [] ∙ ap (against (start c.args.bytes.now)) (text_alone (snapshot_json c.args.snapshot.now))))

pub returns-clause-same : goal.returns-clause-same
returns-clause-same c = none_or_same c.difference.result c.args.bytes.now (text c.args.snapshot.now) (whole c)

pub returns-clause-place : goal.returns-clause-place
returns-clause-place c = place_of c.difference.result c.args.bytes.now (text c.args.snapshot.now) (whole c)
