use Rattle.std.proofs.Common.{◌≡◌, ◌++◌, ◌∷◌, [], ◌≤◌, ℕ, List, Option, None, Some, IfSome, option_map, length, refl, sym, ◌∙◌, ap, subst, arith, length-append}
use Rattle.sg_base.specs.declared.limits.TheConstants.{MANIFEST_FILES}
use Rattle.sg_disk.specs.Contents.{Stand}
use Rattle.sg_disk.specs.Contents.{Pages}
use Rattle.sg_placing.specs.declared.placed.Placed.{Placed}
use Rattle.sg_pages.specs.Pages.{needed}
use Rattle.sg_pages.specs.Shelves.{Shelved, stands, IsFilled}
use Rattle.sg_staging.specs.Staged.{HalfStaged, Staged, half_at, IsStagedIn}
use Rattle.sg_staging.specs.declared.staging.Half.{Half}
use Rattle.sg_staging.proofs.ShelfLemmas.{stand_whole}
use Rattle.sg_staging.proofs.StageLemmas.{dropped_in, moved_in}
use Rattle.sg_staging.proofs.staging.Staging.seal.Goals as goal

abbrev half_of : List ℕ → Half → HalfStaged
half_of pages h = record { file = h.file; pages = pages; count = h.count; hasher = h.hasher }

pub returns-then-ne-clause-staged : goal.returns-then-ne-clause-staged
returns-then-ne-clause-staged c room current is =
    let s : Staged = c.args.self.now in
    let t : Staged = record { sealed = c.self.inside.sealed; half = None } in
    subst (λ (h : Option Half). IsStagedIn room current (record { sealed = c.self.inside.sealed; half = option_map (half_of c.self.inside.pages.items) h })) (sym c.take.ensures.after) (dropped_in room current s t is (ap (λ (k : Staged). k.sealed) c.self.view_is) refl)

pub returns-clause-staged : goal.returns-clause-staged
returns-clause-staged c room current is =
    let s : Staged = c.args.self.now in
    let pages : List ℕ = c.self.inside.pages.items in
    let half : HalfStaged = half_of pages c.in-Some.half in
    let sealed : Shelved = c.self.inside.sealed in
    let t : Staged = record { sealed = c.push.new.self; half = None } in
    let same : sealed ≡ s.sealed = ap (λ (k : Staged). k.sealed) c.self.view_is in
    let was : s.half ≡ Some half = sym (ap (λ (k : Staged). k.half) c.self.view_is) ∙ ap (option_map (half_of pages)) (sym c.in-Some.ensures.value) in
    let long : length pages ≡ needed half.file.length = subst (λ (h : Option HalfStaged). IfSome h (λ x. length x.pages ≡ needed x.file.length)) was c.requires.place.long in
    let given : length c.as_slice.result.now ≡ needed half.file.length = ap (λ (l : List ℕ). length l) c.as_slice.ensures.value ∙ long in
    let filled : IsFilled sealed = subst IsFilled (sym same) c.requires.place.filled in
    let file : Placed = record { file = half.file; place = 0 } in
    let at = stand_whole half.file c.as_slice.result.now given ∙ ap Pages c.as_slice.ensures.value in
    let stand : stands c.push.new.self ≡ stands s.sealed ++ half_at half ∷ [] =
    c.push.ensures.stands filled given ∙ ap (λ (x : Stand). stands sealed ++ record { file = half.file; stand = x } ∷ []) at ∙ ap (λ (k : Shelved). stands k ++ half_at half ∷ []) same in
    let few : length c.push.new.self.files ≤ MANIFEST_FILES =
    omega (arith, ap (λ (k : Shelved). length k.files) c.push.ensures.both, length-append sealed.files (file ∷ []), ap (λ (k : Shelved). length k.files) same, c.requires.place.few) in
    subst (λ (h : Option Half). IsStagedIn room current (record { sealed = c.push.new.self; half = option_map (half_of pages) h })) (sym c.take.ensures.after) (moved_in room current s t half is was stand (c.push.ensures.filled filled given) few refl)
