-- One play further, the rest of the plays is that play and what comes after it.
use Rattle.std.proofs.Common.{◌≡◌, ◌+◌, List, ◌∷◌, ◌++◌, drop, get_or, subst}
use Rattle.sg_voice.specs.declared.play.Play.{Play}
use Rattle.sg_layer.specs.Front.{Leads}
use Rattle.sg_layer.proofs.ListLemmas.{drop_at}
use Rattle.sg_layer.proofs.listing.add_plays.Goals as goal

pub loop-play-preserved : goal.loop-play-preserved
loop-play-preserved c =
    let i = c.loop-play.play-index in
    let ps = c.args.added.now in
    let none : Play = record { event = 0; layout = 0; seconds = 0 } in
    let one = c.add_play-seconds.ensures in
    let split : drop i ps ≡ get_or ps i none ∷ drop (i + 1) ps = drop_at ps i none c.loop-play-test.true in
    record {
      items = λ next all h. one.items (drop (i + 1) ps ++ next) all (subst (λ (qs : List Play). Leads c.loop-play.plays.items (qs ++ next) all) split (c.loop-play.invariant.items next all h));
      seconds = one.seconds;
      few = one.few;
      room = one.room;
    }
