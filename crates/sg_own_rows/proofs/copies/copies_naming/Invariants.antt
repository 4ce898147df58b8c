use Rattle.std.proofs.Common.{◌≡◌, take}
use Rattle.sg_own_rows.specs.Numbers.{naming}
use Rattle.sg_own_rows.specs.Own.{all_in, event_in}
use Rattle.sg_own_rows.proofs.copies.copies_naming.Given as goal

abbrev pub invariant-loop-entry : goal.invariant-loop-entry
invariant-loop-entry l = l.rows.items ≡ all_in event_in (naming l.some (take l.entry-index l.entries))
