use Rattle.std.proofs.Common.{◌≡◌, ℕ, ◌/◌, ◌<◌, ◌++◌, [], All, length, take, refl, arith, sym, ◌∙◌, ap, subst}
use Rattle.sg_disk.specs.declared.places.TheConstants.{PAGE}
use Rattle.sg_pages.specs.Pages.{free_pages}
use Rattle.sg_pages.specs.Shelves.{all_taken_at, stands, IsPlacedIn}
use Rattle.sg_pages.proofs.ShelfLemmas.{marks_both, whole_pages}
use Rattle.sg_staging.proofs.staging.put_free.Goals as goal

pub add_shelf-requires : goal.add_shelf-requires
add_shelf-requires c =
    let long = c.clear.ensures.long in
    record {
      filled = c.requires.current.filled;
      files = subst (λ (n : ℕ). All (IsPlacedIn n) c.args.current.now.files) (whole_pages c.args.room (length c.clear.new.self) c.requires.room long) c.requires.current.files;
      pages = subst (λ (n : ℕ). All (λ page. page < n) c.args.current.now.pages) (sym long) c.requires.current.pages;
    }

pub add_shelf-requires-2 : goal.add_shelf-requires-2
add_shelf-requires-2 c =
    let long = c.add_shelf.ensures.long ∙ c.clear.ensures.long in
    record {
      filled = c.requires.sealed.filled;
      files = subst (λ (n : ℕ). All (IsPlacedIn n) c.args.sealed.now.files) (whole_pages c.args.room (length c.add_shelf.new.self) c.requires.room long) c.requires.sealed.files;
      pages = subst (λ (n : ℕ). All (λ page. page < n) c.args.sealed.now.pages) (sym long) c.requires.sealed.pages;
    }

pub returns-clause-chosen : goal.returns-clause-chosen
returns-clause-chosen c =
    let taken = all_taken_at (stands c.args.current.now ++ stands c.args.sealed.now) in
    let marked = marks_both c.args.current.now c.args.sealed.now c.add_shelf-2.new.self (c.add_shelf-2.ensures.marks _ (c.add_shelf.ensures.marks [] c.clear.ensures.none)) in
    let long = c.add_shelf-2.ensures.long ∙ c.add_shelf.ensures.long ∙ c.clear.ensures.long in
    c.put_lowest.ensures.pages taken marked ∙ ap (λ (n : ℕ). c.args.pages.now.items ++ take c.args.need (free_pages taken n)) long

pub returns-then-free-need-clause-none : goal.returns-then-free-need-clause-none
returns-then-free-need-clause-none c =
    let taken = all_taken_at (stands c.args.current.now ++ stands c.args.sealed.now) in
    let marked = marks_both c.args.current.now c.args.sealed.now c.add_shelf-2.new.self (c.add_shelf-2.ensures.marks _ (c.add_shelf.ensures.marks [] c.clear.ensures.none)) in
    let long = c.add_shelf-2.ensures.long ∙ c.add_shelf.ensures.long ∙ c.clear.ensures.long in
    (refl, c.free-free.ensures taken marked ∙ ap (λ (n : ℕ). length (free_pages taken n)) long, omega arith)

pub returns-clause-enough : goal.returns-clause-enough
returns-clause-enough c =
    let taken = all_taken_at (stands c.args.current.now ++ stands c.args.sealed.now) in
    let marked = marks_both c.args.current.now c.args.sealed.now c.add_shelf-2.new.self (c.add_shelf-2.ensures.marks _ (c.add_shelf.ensures.marks [] c.clear.ensures.none)) in
    let long = c.add_shelf-2.ensures.long ∙ c.add_shelf.ensures.long ∙ c.clear.ensures.long in
    let all : c.free-free.result ≡ length (free_pages taken (c.args.room / PAGE)) = c.free-free.ensures taken marked ∙ ap (λ (n : ℕ). length (free_pages taken n)) long in
    omega (arith, all)
