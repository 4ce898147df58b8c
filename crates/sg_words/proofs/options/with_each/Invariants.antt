use Rattle.std.proofs.Common.{◌≡◌, map, drop}
use Rattle.clap.specs.Words.{app_of}
use Rattle.sg_words.specs.Options.{with_each}
use Rattle.sg_words.proofs.options.with_each.Given as goal

abbrev pub invariant-loop-name : goal.invariant-loop-name
invariant-loop-name l =
    with_each l.required (map (λ n. n.now) (drop l.name-index l.names)) (app_of l.command) ≡ with_each l.required (map (λ n. n.now) l.names) (app_of l.initial.command)
