use Rattle.std.proofs.Common.{◌≡◌, ◌+◌, ◌==◌, ◌↔◌, refl, subst, sym}
use Rattle.std.specs.Prelude.{IsTrue}
use Rattle.sg_playing.specs.Rounds.{HasTurned, IsSyncTurn, RoundsView}
use Rattle.sg_playing.proofs.RoundLemmas.{syncs_iff}
use Rattle.sg_playing.proofs.rounds.Rounds.turn.Goals as goal

pub returns-clause-syncs : goal.returns-clause-syncs
returns-clause-syncs c = λ n turned.
    let view : RoundsView = record { every = c.self.inside.every; since = c.self.inside.since } in
    let same : view ≡ c.args.self.now = c.self.view_is in
    let now : HasTurned view n = subst (λ (v : RoundsView). HasTurned v n) (sym same) turned in
    subst (λ (v : RoundsView). IsTrue (c.self.inside.since == c.self.inside.every) ↔ IsSyncTurn v.every (n + 1)) same
    (syncs_iff view n (c.self.inside.since == c.self.inside.every) c.if-self-eq0.false c.self.invariant refl now)
