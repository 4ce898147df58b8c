use Rattle.std.proofs.Common.{◌<◌, List, length, sym, subst, arith}
use Rattle.std.proofs.lemmas.Bool.Decides.{nat_tests}
use Rattle.sg_voice.specs.declared.play.Play.{Play}
use Rattle.sg_layer.specs.Front.{IsFront, marked}
use Rattle.sg_layer.specs.Lists.{plays_of, highest}
use Rattle.sg_layer.proofs.FrontLemmas.{front_some}
use Rattle.sg_layer.proofs.SoundLemmas.{else_some}
use Rattle.sg_layer.proofs.listing.list_plays.Goals as goal

pub returns-else-is_empty-clause-items : goal.returns-else-is_empty-clause-items
returns-else-is_empty-clause-items c =
    let all = plays_of (highest (marked c.args.marks.now c.args.entries.now)) in
    let ps = c.list_marked.new.plays.items in
    let some : 0 < length ps = grind (arith, nat_tests, c.is_empty.ensures, c.if-is_empty.false) in
    subst (λ (qs : List Play). IsFront ps qs) (sym (else_some c.args.default all (front_some ps all c.list_marked.ensures.items some))) c.list_marked.ensures.items
