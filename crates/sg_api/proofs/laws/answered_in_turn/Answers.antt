use Rattle.sg_api.specs.Rule.{Answered}
use Rattle.sg_api.proofs.FoldLemmas.{counted_after, stands_after}
use Rattle.sg_api.proofs.HistoryLemmas.{in_turn}
use Rattle.sg_connection.specs.Exchanges.{in_pairs}
use Rattle.sg_api.proofs.laws.answered_in_turn.Goals as goal

pub returns-clause-stands : goal.returns-clause-stands
returns-clause-stands g c = stands_after g.K.Keeper.view

pub returns-clause-counted : goal.returns-clause-counted
returns-clause-counted g c = counted_after g.K.Keeper.view

pub returns-clause-door : goal.returns-clause-door
returns-clause-door g c = in_turn (in_pairs (Answered g.K.Keeper.view))
