use Rattle.std.proofs.Common.{◌++◌, Bool, drop, sym, ◌∙◌, ap, arith}
use Rattle.sg_manifest.specs.Agreement.{Agreement, against}
use Rattle.sg_manifest.proofs.AgreementLemmas.{agreeing, agreeing_inside, further_at}
use Rattle.sg_manifest.proofs.comparison.ComparisonTextOut.put.Goals as goal

pub overflow_add-self : goal.overflow_add-self
overflow_add-self c = omega (arith, agreeing_inside c.self.inside.bytes.now c.self.inside.place c.args.piece.now c.common_length-same.result c.common_length-same.ensures c.self.invariant)

pub invariant_of-self : goal.invariant_of-self
invariant_of-self c = agreeing_inside c.self.inside.bytes.now c.self.inside.place c.args.piece.now c.common_length-same.result c.common_length-same.ensures c.self.invariant

pub returns : goal.returns
returns c = λ rest.
    let view = ap (λ (b : Bool). let a : Agreement = record { left = drop c.self.inside.place c.self.inside.bytes.now; count = c.self.inside.place; apart = b } in a) (sym c.if-self.false) ∙ c.self.view_is in
    further_at c.self.inside.bytes.now c.self.inside.place c.args.piece.now rest c.common_length-same.result (agreeing c.self.inside.bytes.now c.self.inside.place c.args.piece.now c.common_length-same.result c.common_length-same.ensures)
    ∙ ap (λ (a : Agreement). against a (c.args.piece.now ++ rest)) view
