use Rattle.std.proofs.Common.{◌≡◌, true}
use Rattle.std.specs.List.{AllWithin}
use Rattle.sg_base.specs.declared.file.Listed.{Listed}
use Rattle.sg_store_state.specs.State.{is_held}
use Rattle.sg_paged_runs.proofs.lawful.are_held.Given as goal

abbrev pub invariant-loop-file : goal.invariant-loop-file
invariant-loop-file l = AllWithin (λ (f : Listed). is_held l.store f ≡ true) l.files 0 l.file-index
