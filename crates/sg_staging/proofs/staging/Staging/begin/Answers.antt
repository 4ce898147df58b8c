use Rattle.std.proofs.Common.{◌≡◌, ◌++◌, ◌≤◌, ◌/◌, ℕ, List, Some, take, length, refl, sym, ◌∙◌, ap, subst}
use Rattle.std.specs.Int.{div_ceil}
use Rattle.sg_disk.specs.declared.places.TheConstants.{PAGE}
use Rattle.sg_pages.specs.Pages.{needed, free_pages}
use Rattle.sg_pages.specs.Shelves.{all_taken_at, stands, IsShelfIn}
use Rattle.sg_staging.specs.Staged.{HalfStaged, Staged, free_beside}
use Rattle.sg_staging.proofs.StageLemmas.{current_in, sealed_in, begun_in}
use Rattle.sg_staging.proofs.staging.Staging.begin.Goals as goal

pub put_free-requires-clause-current : goal.put_free-requires-clause-current
put_free-requires-clause-current c = current_in c.args.room c.args.current.now c.args.self.now c.requires.staged

pub put_free-requires-clause-sealed : goal.put_free-requires-clause-sealed
put_free-requires-clause-sealed c = subst (λ (s : Staged). IsShelfIn c.args.room s.sealed) (sym c.self.view_is) (sealed_in c.args.room c.args.current.now c.args.self.now c.requires.staged)

pub returns-clause-staged : goal.returns-clause-staged
returns-clause-staged c =
    let s : Staged = c.args.self.now in
    let current = c.args.current.now in
    let room : ℕ = c.args.room in
    let half : HalfStaged = record { file = c.args.file.now; pages = c.put_free.new.pages.items; count = 0; hasher = c.new.result } in
    let t : Staged = record { sealed = c.self.inside.sealed; half = Some half } in
    let need : c.div_ceil-need.result ≡ needed c.args.file.now.length = c.div_ceil-need.ensures ∙ ap (λ (n : ℕ). div_ceil n PAGE) c.from.ensures in
    let pages : half.pages ≡ take (needed c.args.file.now.length) (free_beside room current s) =
    c.in_ok-put_free.ensures.chosen ∙ ap (λ (l : List ℕ). l ++ take c.div_ceil-need.result (free_pages (all_taken_at (stands current ++ stands c.self.inside.sealed)) (room / PAGE))) c.clear.ensures.items ∙ ap (λ (n : ℕ). take n (free_pages (all_taken_at (stands current ++ stands c.self.inside.sealed)) (room / PAGE))) need ∙ ap (λ (k : Staged). take (needed c.args.file.now.length) (free_pages (all_taken_at (stands current ++ stands k.sealed)) (room / PAGE))) c.self.view_is in
    let enough : needed c.args.file.now.length ≤ length (free_beside room current s) =
    subst (λ (k : Staged). needed c.args.file.now.length ≤ length (free_pages (all_taken_at (stands current ++ stands k.sealed)) (room / PAGE))) c.self.view_is (subst (λ (n : ℕ). n ≤ length (free_pages (all_taken_at (stands current ++ stands c.self.inside.sealed)) (room / PAGE))) need c.in_ok-put_free.ensures.enough) in
    begun_in room current s t half c.requires.staged c.requires.idle c.requires.new c.requires.media (c.requires.some, c.requires.long) c.requires.few (ap (λ (k : Staged). k.sealed) c.self.view_is) refl pages enough refl
