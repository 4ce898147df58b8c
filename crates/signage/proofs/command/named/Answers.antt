use Rattle.std.proofs.Common.{sym}
use Rattle.std.proofs.lemmas.Slice.Eq.{bytes_eq-Decides}
use Rattle.std.specs.Prelude.{codes}
use Rattle.sg_words.specs.Options.{texts}
use Rattle.signage.proofs.WordLemmas.{preview_named, said_named}
use Rattle.signage.proofs.command.named.Goals as goal

pub returns-then-eq : goal.returns-then-eq
returns-then-eq c = preview_named c.args.name.now (texts c.args.others.now) c.preview_of.result ((bytes_eq-Decides c.args.name.now (codes "preview")).0 (sym c.if-eq.ensures)) c.preview_of.ensures

pub returns-else-eq : goal.returns-else-eq
returns-else-eq c =
    let said = rw c.requires at c.command_said.ensures in
    said_named c.args.name.now (texts c.args.others.now) c.command_said.result
    (λ is.
    let equal = (bytes_eq-Decides c.args.name.now (codes "preview")).1 is in
    let differs = c.if-eq.ensures in
    cc) said
