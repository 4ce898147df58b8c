use Rattle.std.proofs.Common.{sym, ◌∙◌}
use Rattle.std.proofs.lemmas.Bool.{false≢true}
use Rattle.sg_calendar.proofs.ZoneLemmas.{zone_of_text-refused, zone_of_text-read, zone_of_text-unread}
use Rattle.sg_calendar.proofs.zone.read_text.Goals as goal

pub returns-then-not-is_zone_text : goal.returns-then-not-is_zone_text
returns-then-not-is_zone_text c = zone_of_text-refused _ (sym c.is_zone_text.ensures ∙ c.if-not-is_zone_text.true)

pub returns-in-Ok : goal.returns-in-Ok
returns-in-Ok c = zone_of_text-read _ _ (sym c.if-not-is_zone_text.ensures) c.in-Ok.ensures.value

pub returns-in-Err : goal.returns-in-Err
returns-in-Err c = zone_of_text-unread _ (λ h. false≢true (c.in-Err.ensures.succeeds.1 h))
