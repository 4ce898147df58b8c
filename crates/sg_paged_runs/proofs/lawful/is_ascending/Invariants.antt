use Rattle.std.proofs.Common.{ℕ, ◌<◌, get_or}
use Rattle.sg_base.specs.declared.file.Listed.{Listed}
use Rattle.sg_paged_runs.proofs.lawful.is_ascending.Given as goal

abbrev pub invariant-loop-i : goal.invariant-loop-i
invariant-loop-i l = (a b : ℕ) (d : Listed) → a < b → b < l.i → (get_or l.files a d).media.0 < (get_or l.files b d).media.0
