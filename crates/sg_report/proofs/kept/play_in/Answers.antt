use Rattle.std.proofs.Common.{◌≡◌, ◌==◌, [], length, true}
use Rattle.std.proofs.lemmas.Bool.{eqb-true}
use Rattle.std.proofs.lemmas.List.{nil_from_length}
use Rattle.sg_report.proofs.PlayLemmas.{play_says}
use Rattle.sg_report.proofs.kept.play_in.Goals as goal

pub returns : goal.returns
returns c =
    let empty : (length c.in_ok-to.rest.now == 0) ≡ true = cc in
    let none : c.in_ok-to.rest.now ≡ [] = nil_from_length c.in_ok-to.rest.now (eqb-true (length c.in_ok-to.rest.now) 0 empty) in
    play_says c.play_of.result _ _ _ _ _ _ _ _ _ c.in_ok-event.ensures c.in_ok-layout.ensures c.in_ok-from.ensures c.in_ok-to.ensures none c.play_of.ensures
