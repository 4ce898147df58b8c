use Rattle.std.proofs.Common.{◌≡◌, false, true, sym, ◌∙◌}
use Rattle.sg_words.specs.Options.{given}
use Rattle.sg_words.proofs.options.given.Goals as goal

pub returns-then-not-are_apart : goal.returns-then-not-are_apart
unfolding given
returns-then-not-are_apart c =
    let bad : c.are_apart.result ≡ false = cc in
    rw (sym c.are_apart.ensures ∙ bad)

pub returns : goal.returns
unfolding given
returns c =
    let good : c.are_apart.result ≡ true = cc in
    rw (sym c.are_apart.ensures ∙ good, ← c.in_ok-command.ensures) c.found.ensures
