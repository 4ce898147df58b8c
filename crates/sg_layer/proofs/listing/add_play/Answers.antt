-- A play that finds an hour full needn't be listed.
use Rattle.std.proofs.Common.{List, [], ◌∷◌, ap, sym, subst, arith}
use Rattle.sg_voice.specs.declared.play.Play.{Play}
use Rattle.sg_voice.specs.Hour.{total}
use Rattle.sg_voice.proofs.RoundLemmas.{weight_append}
use Rattle.sg_layer.specs.Front.{Leads}
use Rattle.sg_layer.proofs.FrontLemmas.{leads_on}
use Rattle.sg_layer.proofs.listing.add_play.Goals as goal

pub returns-clause-items : goal.returns-clause-items
returns-clause-items c = λ next all h.
    subst (λ (ps : List Play). Leads ps next all) (sym c.append.ensures.items) (leads_on c.args.plays.now.items c.args.play next all (omega (arith, c.requires.seconds, c.if-seconds-ge-HOUR.false)) h)

pub returns-clause-seconds : goal.returns-clause-seconds
returns-clause-seconds c =
    omega (arith, c.requires.seconds, ap (λ (ps : List Play). total ps) c.append.ensures.items, weight_append (λ (p : Play). p.seconds) c.args.plays.now.items (c.args.play ∷ []))
