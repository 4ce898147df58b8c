use Rattle.std.proofs.Common.{◌≡◌, ℕ, ◌-◌, ◌∙◌, ap, arith, drop}
use Rattle.sg_journal.specs.Ready.{plays_of}
use Rattle.sg_journal.proofs.ReadyLemmas.{acknowledged_agrees}
use Rattle.sg_journal.proofs.journal.Journal.acknowledged.Goals as goal

pub returns-clause-agrees : goal.returns-clause-agrees
returns-clause-agrees c p area agrees =
    let j = c.args.self.now in
    let first : c.loop.self.first ≡ c.args.next = omega arith in
    acknowledged_agrees j c.loop.self p area c.args.next agrees c.requires.first first c.loop.invariant.next (c.loop.invariant.plays ∙ ap (λ (n : ℕ). drop (n - j.first) (plays_of j)) first) c.loop.invariant.oldest c.loop.invariant.epoch
