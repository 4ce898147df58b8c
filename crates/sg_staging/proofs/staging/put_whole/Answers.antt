use Rattle.std.proofs.Common.{◌≡◌, ◌++◌, ◌∷◌, [], ◌≤◌, List, false, length, is_some, sym, ◌∙◌, ap, subst}
use Rattle.std.proofs.lemmas.Bool.{true≢false}
use Rattle.sg_pages.specs.Shelves.{FileAt, stands, found_at, pages_for}
use Rattle.sg_pages.specs.declared.page_set.TheConstants.{MAX_PAGES}
use Rattle.sg_staging.specs.Staged.{stands_as, pages_of_files}
use Rattle.sg_staging.proofs.ShelfLemmas.{stands_pages}
use Rattle.sg_staging.proofs.ChoiceLemmas.{find_first, find_second, found_pages, room_more, held_second}
use Rattle.sg_staging.proofs.staging.put_whole.Goals as goal

pub push_found-requires-clause-pages : goal.push_found-requires-clause-pages
push_found-requires-clause-pages c =
    let current = c.args.current.now in
    let next = c.args.next.now in
    let found = c.in-Some.found in
    let x : FileAt = found_at current.pages found in
    let is = find_first (stands current) (stands c.args.sealed.now) c.args.file.now x c.in-Some.ensures.found in
    room_more next.pages (stands next) x MAX_PAGES (pages_for found.placed) (stands_pages next.pages next.files c.requires.filled) (found_pages current.pages found (c.in-Some.ensures.inside c.requires.current)) (subst (λ (y : FileAt). length (pages_of_files (stands next ++ y ∷ [])) ≤ MAX_PAGES) is c.requires.pages)

pub push_found-requires-in-Some-find-clause-pages : goal.push_found-requires-in-Some-find-clause-pages
push_found-requires-in-Some-find-clause-pages c =
    let sealed = c.args.sealed.now in
    let next = c.args.next.now in
    let found = c.in-Some-find.found in
    let x : FileAt = found_at sealed.pages found in
    let is = find_second (stands c.args.current.now) (stands sealed) c.args.file.now x c.in-None.ensures.found c.in-Some-find.ensures.found in
    room_more next.pages (stands next) x MAX_PAGES (pages_for found.placed) (stands_pages next.pages next.files c.requires.filled) (found_pages sealed.pages found (c.in-Some-find.ensures.inside c.requires.sealed)) (subst (λ (y : FileAt). length (pages_of_files (stands next ++ y ∷ [])) ≤ MAX_PAGES) is c.requires.pages)

pub unreachable-requires : goal.unreachable-requires
unreachable-requires c =
    let xs : List FileAt = stands c.args.current.now in
    let ys : List FileAt = stands c.args.sealed.now in
    let f = c.args.file.now in
    let first : is_some (stands_as xs f) ≡ false = sym (ap is_some c.in-None.ensures.found) in
    let second : is_some (stands_as ys f) ≡ false = sym (ap is_some c.in-None-find.ensures.found) in
    true≢false (sym c.requires.held ∙ held_second xs ys f first ∙ second)

pub returns-in-Some-clause-stands : goal.returns-in-Some-clause-stands
returns-in-Some-clause-stands c =
    let current = c.args.current.now in
    let x : FileAt = found_at current.pages c.in-Some.found in
    c.push_found.ensures.stands c.requires.filled ∙ ap (λ (y : FileAt). stands c.args.next.now ++ y ∷ []) (sym (find_first (stands current) (stands c.args.sealed.now) c.args.file.now x c.in-Some.ensures.found))

pub returns-in-Some-find-clause-stands : goal.returns-in-Some-find-clause-stands
returns-in-Some-find-clause-stands c =
    let sealed = c.args.sealed.now in
    let x : FileAt = found_at sealed.pages c.in-Some-find.found in
    c.push_found-in-Some-find.ensures.stands c.requires.filled ∙ ap (λ (y : FileAt). stands c.args.next.now ++ y ∷ []) (sym (find_second (stands c.args.current.now) (stands sealed) c.args.file.now x c.in-None.ensures.found c.in-Some-find.ensures.found))
