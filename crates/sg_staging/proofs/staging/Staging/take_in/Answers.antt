use Rattle.std.proofs.Common.{◌≡◌, ◌+◌, ◌≤◌, ℕ, List, Option, Some, IsSomeAnd, option_map, length, refl, sym, ◌∙◌, ap, subst}
use Rattle.sg_staging.specs.Staged.{HalfStaged, Staged}
use Rattle.sg_staging.specs.declared.staging.Half.{Half}
use Rattle.sg_staging.proofs.StageLemmas.{taken_in}
use Rattle.sg_staging.proofs.staging.Staging.take_in.Goals as goal

abbrev half_of : List ℕ → Half → HalfStaged
half_of pages h = record { file = h.file; pages = pages; count = h.count; hasher = h.hasher }

pub returns-in-Some-clause-staged : goal.returns-in-Some-clause-staged
returns-in-Some-clause-staged c room current is =
    let s : Staged = c.args.self.now in
    let pages : List ℕ = c.self.inside.pages.items in
    let half : HalfStaged = half_of pages c.in-Some.half in
    let more : HalfStaged = record { file = half.file; pages = pages; count = half.count + length c.args.bytes.now; hasher = c.update.new.self } in
    let t : Staged = record { sealed = c.self.inside.sealed; half = Some more } in
    let was : s.half ≡ Some half = sym (ap (λ (k : Staged). k.half) c.self.view_is) ∙ ap (option_map (half_of pages)) (sym c.in-Some.ensures.value) in
    let fits : more.count ≤ more.file.length = subst (λ (h : Option HalfStaged). IsSomeAnd h (λ x. x.count + length c.args.bytes.now ≤ x.file.length)) was c.requires in
    taken_in room current s t half more is was (ap (λ (k : Staged). k.sealed) c.self.view_is) refl refl refl fits
