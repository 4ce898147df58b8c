use Rattle.std.proofs.Common.{◌≡◌, ◌≤◌, length, reverse, take}
use Rattle.httparse.specs.Grammar.{skip_ows}
use Rattle.sg_http.proofs.text.trim_end.Given as goal

abbrev pub invariant-loop-end : goal.invariant-loop-end
invariant-loop-end l = record {
  within : l.end ≤ length l.part;
  same : skip_ows (reverse (take l.end l.part)) ≡ skip_ows (reverse l.part);
}

abbrev pub decreases-loop-end : goal.decreases-loop-end
decreases-loop-end l = l.end
