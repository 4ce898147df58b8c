use Rattle.std.proofs.Common.{◌≡◌}
use Rattle.sg_http.specs.Places.{values_from}
use Rattle.sg_http.proofs.fields.position.Given as goal

abbrev pub invariant-loop-i : goal.invariant-loop-i
invariant-loop-i l = values_from l.buf l.name l.fields l.i ≡ values_from l.buf l.name l.fields l.from
