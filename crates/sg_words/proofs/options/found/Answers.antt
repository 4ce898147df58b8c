use Rattle.std.proofs.Common.{◌≡◌, sym, ◌∙◌}
use Rattle.clap.specs.Words.{app_of, kind_of}
use Rattle.clap.specs.declared.error.kind.ErrorKind.TheVariants as kind
use Rattle.sg_words.specs.Options.{found_in}
use Rattle.sg_words.proofs.OptionLemmas.{none_found, simple_of, some_found}
use Rattle.sg_words.proofs.options.found.Goals as goal

pub returns-in-Ok : goal.returns-in-Ok
unfolding found_in
returns-in-Ok c = some_found _ _ _ (c.in-Ok.ensures.kinds c.requires) (c.in-Ok.ensures.matches (simple_of (app_of c.args.command) c.requires)).0

pub returns : goal.returns
unfolding found_in
returns c = none_found _ c.in-Err.error _ (c.in-Err.ensures.kinds c.requires) (λ out. c.in_default.not-OutOfMemory (c.kind.ensures ∙ out))
