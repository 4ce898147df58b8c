use Rattle.std.proofs.Common.{◌≡◌, ◌⊎◌, Some, sym, subst}
use Rattle.std.proofs.lemmas.Option.{MatchOption-at_none, MatchOption-at_some}
use Rattle.serde_json.specs.Data.{Data}
use Rattle.sg_edit_rows.specs.Older.{older_json}
use Rattle.sg_records.specs.Saved.{saved_json}
use Rattle.sg_records.proofs.SavedLemmas.{json_kept, map_ok}
use Rattle.sg_records.proofs.saved.said.Goals as goal

pub returns-in-Some-clause-again : goal.returns-in-Some-clause-again
returns-in-Some-clause-again c = map_ok c.saved_in.result _ _ (λ x again e h kind text.
    let k = json_kept e c.args.bytes.now h text in
    let found = c.in_ok-value.ensures k.json k.plain k.text k.again in
    let json = MatchOption-at_some _ _ _ c.in-Some.is found in
    again e h kind (subst (λ (d : Data). (d ≡ saved_json e) ⊎ (older_json e.row ≡ Some d)) (sym json) k.said)) c.saved_in.ensures.again

pub returns-in-None-clause-again : goal.returns-in-None-clause-again
returns-in-None-clause-again c e h kind text =
    let k = json_kept e c.args.bytes.now h text in
    let found = c.in_ok-value.ensures k.json k.plain k.text k.again in
    absurd (MatchOption-at_none _ _ c.in-None.is found)
