use Rattle.std.proofs.Common.{arith, w64, to_z, of_z}
use Rattle.std.proofs.lemmas.Bool.{false≢true}
use Rattle.jiff_core.proofs.SignedLemmas.{signed_casts, one_part}
use Rattle.sg_events.proofs.ActiveLemmas.{open_either}
use Rattle.sg_events.proofs.activity.is_open.Goals as goal

pub returns-then-today-gt0-clause-meaning : goal.returns-then-today-gt0-clause-meaning
returns-then-today-gt0-clause-meaning c =
    let part = one_part (to_z w64 (of_z w64 c.second-second.result)) in
    open_either _ _ _ _ _ _ _ (λ h. false≢true (c.if-is_open_on.ensures.meaning.1 h)) c.is_open_on-then-today-gt0.ensures.meaning c.is_open_on.ensures.valid
    (omega (arith, signed_casts, part)) (omega (arith, signed_casts, part)) (omega (arith, signed_casts, part))
