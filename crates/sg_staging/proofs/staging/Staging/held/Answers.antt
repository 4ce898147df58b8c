use Rattle.std.proofs.Common.{◌≡◌, true, is_some, sym, ◌∙◌, ap}
use Rattle.sg_pages.specs.Shelves.{found_at, stands}
use Rattle.sg_staging.specs.Staged.{Staged, stands_as}
use Rattle.sg_staging.proofs.ChoiceLemmas.{mapped_some, held_first, held_second}
use Rattle.sg_staging.proofs.staging.Staging.held.Goals as goal

pub returns-then-is_some : goal.returns-then-is_some
returns-then-is_some c =
    let current = c.args.current.now in
    let file = c.args.file.now in
    let here : is_some (stands_as (stands current) file) ≡ true = mapped_some (found_at current.pages) c.find.result (stands_as (stands current) file) c.find.ensures.found ∙ sym c.is_some.ensures ∙ c.if-is_some.true in
    c.if-is_some.true ∙ sym (held_first (stands current) (stands c.args.self.now.sealed) file here)

pub returns-else-is_some : goal.returns-else-is_some
returns-else-is_some c =
    let current = c.args.current.now in
    let file = c.args.file.now in
    let sealed = c.self.inside.sealed in
    let none = mapped_some (found_at current.pages) c.find.result (stands_as (stands current) file) c.find.ensures.found ∙ sym c.is_some.ensures ∙ c.if-is_some.false in
    let here = mapped_some (found_at sealed.pages) c.find-else-is_some.result (stands_as (stands sealed) file) c.find-else-is_some.ensures.found in
    c.is_some-else-is_some.ensures ∙ sym here ∙ ap (λ (s : Staged). is_some (stands_as (stands s.sealed) file)) c.self.view_is ∙ sym (held_second (stands current) (stands c.args.self.now.sealed) file none)
