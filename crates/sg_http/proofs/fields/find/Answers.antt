use Rattle.httparse.specs.declared.spans.HeaderSpan.{HeaderSpan}
use Rattle.sg_http.proofs.FieldLemmas.{repeated}
use Rattle.sg_http.proofs.fields.find.Goals as goal

pub returns-in-Some-position : goal.returns-in-Some-position
returns-in-Some-position c =
    let none : HeaderSpan = record { name = record { start = 0; end = 0 }; value = record { start = 0; end = 0 } } in
    repeated _ _ _ _ _ (c.in-Some.ensures.1 none) (c.in-Some-position.ensures.1 none)
