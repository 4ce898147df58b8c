use Rattle.std.proofs.Common.{◌∙◌, sym}
use Rattle.sg_missing.proofs.WantedLemmas.{first_found, first_left}
use Rattle.sg_missing.proofs.wanted.first_missing.Goals as goal

pub returns-then-not-held : goal.returns-then-not-held
returns-then-not-held g c =
    sym (first_found (g.S.Staging.holds c.args.store.now) c.args.files.now c.loop-file.file-index _ c.loop-file-test.true (sym c.held.ensures ∙ c.if-not-held.true))
    ∙ c.loop-file.invariant

pub loop-file-preserved : goal.loop-file-preserved
loop-file-preserved g c =
    sym (first_left (g.S.Staging.holds c.args.store.now) c.args.files.now c.loop-file.file-index _ c.loop-file-test.true (sym c.held.ensures ∙ c.if-not-held.false))
    ∙ c.loop-file.invariant
