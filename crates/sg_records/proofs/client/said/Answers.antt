use Rattle.std.proofs.Common.{◌∙◌, ap, sym, refl}
use Rattle.std.proofs.lemmas.Option.{MatchOption-at_none, MatchOption-at_some}
use Rattle.sg_rows.proofs.CompactSound.{read-Sound}
use Rattle.sg_records.specs.Clients.{client_json, client_text}
use Rattle.sg_records.specs.Reading.{client_in}
use Rattle.sg_records.proofs.ReplyLemmas.{client_again}
use Rattle.sg_records.proofs.SoundSaved.{client_sound}
use Rattle.sg_records.proofs.client.said.Goals as goal

pub returns-in-Some-clause-again : goal.returns-in-Some-clause-again
unfolding client_text
returns-in-Some-clause-again c k h is text =
    let sound = client_sound k h in
    let found = c.in_ok-value.ensures (client_json k) sound.plain (sym text) (read-Sound refl sound) in
    let json = MatchOption-at_some _ _ _ c.in-Some.is found in
    c.client_in.ensures ∙ (ap (client_in c.args.number) json ∙ (ap (λ n. client_in n (client_json k)) (sym is) ∙ client_again k h))

pub returns-in-None-clause-again : goal.returns-in-None-clause-again
unfolding client_text
returns-in-None-clause-again c k h is text =
    let sound = client_sound k h in
    let found = c.in_ok-value.ensures (client_json k) sound.plain (sym text) (read-Sound refl sound) in
    absurd (MatchOption-at_none _ _ c.in-None.is found)
