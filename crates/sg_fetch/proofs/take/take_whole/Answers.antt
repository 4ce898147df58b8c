use Rattle.std.proofs.Common.{Bool, ◌+◌, length, refl, sym, subst, inr}
use Rattle.std.proofs.lemmas.Bool.{eq-eqb}
use Rattle.sg_timeline.specs.declared.step.Cause.TheVariants.{DigestDiffers}
use Rattle.sg_timeline.specs.declared.step.StepEnd.TheVariants.{Stay}
use Rattle.sg_intake.specs.Stocks.{stock}
use Rattle.sg_fetch.specs.Fetching.{WholeEnds}
use Rattle.sg_fetch.proofs.StockLemmas.{gives_up_some, part_more}
use Rattle.sg_fetch.proofs.take.take_whole.Goals as goal

pub returns-in-Ok-Differs-clause-ended : goal.returns-in-Ok-Differs-clause-ended
returns-in-Ok-Differs-clause-ended g c =
    let piece = c.args.piece.now in
    let old = stock (g.S.Staging.holds c.args.store.now) (g.S.Staging.part c.args.store.now) (g.S.Intake.came c.args.store.now) in
    let mid = stock (g.S.Staging.holds c.bring.new.self) (g.S.Staging.part c.bring.new.self) (g.S.Intake.came c.bring.new.self) in
    let new = stock (g.S.Staging.holds c.seal.new.self) (g.S.Staging.part c.seal.new.self) (g.S.Intake.came c.seal.new.self) in
    subst (λ (last : Bool). WholeEnds last piece old c.args.body.now new (Stay (DigestDiffers piece.file.media piece.file.md5 c.in-Ok-Differs.found)))
    (sym (eq-eqb (piece.at + piece.count) piece.file.length c.if-piece.false))
    (inr (
      c.in-Ok-Differs.found,
      gives_up_some old mid new piece.file piece.at (piece.at + length c.args.body.now) c.args.body.now c.in-Ok-Differs.found c.requires.begun
          (part_more (g.S.Staging.part c.args.store.now) (g.S.Staging.part c.bring.new.self) piece.file piece.at (length c.args.body.now) c.requires.begun c.in-Ok.ensures.part)
          c.in-Ok.ensures.holds c.in-Ok.ensures.came c.in-Ok-Differs.ensures.idle (c.in-Ok-Differs.ensures.given_up c.in-Ok-Differs.found c.in-Ok-Differs.field-0-is)
          (c.in-Ok-Differs.ensures.differs c.in-Ok-Differs.found c.in-Ok-Differs.field-0-is),
      refl,
    ))
