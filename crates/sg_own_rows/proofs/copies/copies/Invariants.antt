use Rattle.std.proofs.Common.{◌≡◌, take}
use Rattle.sg_own_rows.specs.Numbers.{picked}
use Rattle.sg_own_rows.specs.Own.{all_in}
use Rattle.sg_own_rows.proofs.copies.copies.Given as goal

abbrev pub invariant-loop-entry : goal.invariant-loop-entry
invariant-loop-entry g l = l.rows.items ≡ all_in g.T.OfManifest.inside (picked l.among (take l.entry-index l.entries))
