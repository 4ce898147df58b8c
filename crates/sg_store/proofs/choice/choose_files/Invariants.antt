use Rattle.std.proofs.Common.{◌≡◌, ◌++◌, map, take}
use Rattle.sg_store.specs.Ready.{chosen}
use Rattle.sg_store.proofs.choice.choose_files.Given as goal

abbrev pub invariant-loop-file : goal.invariant-loop-file
invariant-loop-file l = l.next ≡ map (chosen (l.current ++ l.staged)) (take l.file-index l.files)
