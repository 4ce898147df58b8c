use Rattle.std.proofs.Common.{ℕ, ◌++◌, ◌∷◌, [], List, sym, ◌∙◌, ap, subst}
use Rattle.sg_placing.specs.declared.placed.Placed.{Placed}
use Rattle.sg_pages.specs.Shelves.{Shelved, FileAt, stands, stands_in, stand_in, IsFilled}
use Rattle.sg_pages.proofs.ShelfLemmas.{stands_more}
use Rattle.sg_pages.proofs.shelf.Shelf.push.Goals as goal

pub returns-clause-stands : goal.returns-clause-stands
returns-clause-stands c filled long =
    let before = subst IsFilled (sym c.self.view_is) filled in
    let new : FileAt = record { file = c.args.file.file; stand = stand_in c.args.pages.now c.args.file } in
    ap (λ (l : List Placed). stands_in c.push_pages.new.pages.items l) c.push_file.ensures.items
    ∙ ap (λ (l : List ℕ). stands_in l (c.self.inside.files.items ++ c.args.file ∷ [])) c.push_pages.ensures.items
    ∙ stands_more c.self.inside.pages.items c.args.pages.now c.self.inside.files.items c.args.file before
    ∙ ap (λ (s : Shelved). stands s ++ new ∷ []) c.self.view_is
