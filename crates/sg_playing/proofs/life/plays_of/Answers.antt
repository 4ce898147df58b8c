use Rattle.std.proofs.Common.{rules, arith, ◌≡◌, ◌∙◌, List, ap, subst, sym}
use Rattle.std.specs.List.{sum_by}
use Rattle.std.proofs.lemmas.Grind.{common_steps}
use Rattle.sg_base.specs.declared.play.PlayBody.{PlayBody}
use Rattle.sg_playing.specs.Plays.{plays_of}
use Rattle.sg_playing.specs.Seconds.{IsInOrder, seconds_for}
use Rattle.sg_playing.proofs.LifeLemmas.{plays_ordered, seconds_counted}
use Rattle.sg_playing.proofs.life.plays_of.Goals as goal

pub returns-clause-seconds : goal.returns-clause-seconds
returns-clause-seconds c = λ event layout.
    let whole : c.keep-2.new.plays.items ≡ plays_of c.args.turns.now = first_of (search rules, grind (arith, common_steps)) in
    ap (λ (plays : List PlayBody). sum_by (seconds_for event layout) plays) whole ∙ seconds_counted event layout c.args.turns.now

pub returns-clause-order : goal.returns-clause-order
returns-clause-order c = λ forward.
    let whole : c.keep-2.new.plays.items ≡ plays_of c.args.turns.now = first_of (search rules, grind (arith, common_steps)) in
    subst IsInOrder (sym whole) (plays_ordered c.args.turns.now forward)
