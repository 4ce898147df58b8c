use Rattle.std.proofs.Common.{◌≡◌, sym, ◌∙◌, ap}
use Rattle.sg_base.specs.declared.file.Listed.{Listed}
use Rattle.sg_store.proofs.StageLemmas.{some_half, half_there}
use Rattle.sg_store_runs.proofs.StepLemmas.{seals}
use Rattle.sg_store_runs.proofs.steps.seal.Goals as goal

pub returns-clause-stepped : goal.returns-clause-stepped
returns-clause-stepped c bytes old shows =
    let s = c.args.store.now in
    let found = some_half s.half (λ h. h.count ≡ h.placed.file.length) (c.may_seal.ensures.lawful c.if-not-may_seal.false) in
    let there = half_there s old.contents bytes found.0 found.1 shows.stands shows.knows in
    seals s c.stage_seal.new.self bytes old there.f there.is (there.long ∙ found.2 ∙ ap (λ (l : Listed). l.length) (sym there.listed)) (c.in_ok-stage_seal.ensures.digest bytes there.f shows.staged there.is) (c.in_ok-stage_seal.ensures.sealed_bytes bytes there.f there.is) c.stage_seal.ensures.idle c.stage_seal.ensures.snapshot (c.stage_seal.ensures.staged bytes) shows
