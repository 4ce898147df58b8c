use Rattle.std.proofs.Common.{◌≡◌, drop}
use Rattle.httparse.specs.Grammar.{skip_ows}
use Rattle.sg_http.proofs.text.trim_start.Given as goal

abbrev pub invariant-loop-i : goal.invariant-loop-i
invariant-loop-i l = skip_ows (drop l.i l.part) ≡ skip_ows l.part
