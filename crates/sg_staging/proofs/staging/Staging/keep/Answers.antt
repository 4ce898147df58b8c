use Rattle.std.proofs.Common.{◌≡◌, ◌⊎◌, inl, inr, Bool, Option, None, filter, refl, ◌∙◌, ap}
use Rattle.sg_placing.specs.Placing.{is_listed}
use Rattle.sg_pages.specs.Shelves.{FileAt, stands}
use Rattle.sg_staging.specs.Staged.{HalfStaged, Staged}
use Rattle.sg_staging.proofs.StageLemmas.{kept_in}
use Rattle.sg_staging.proofs.staging.Staging.keep.Goals as goal

as_before : (x y z : Option HalfStaged) → y ≡ x → (z ≡ y) ⊎ (z ≡ None) → (z ≡ x) ⊎ (z ≡ None)
as_before x y z same (inl kept) = inl (kept ∙ same)
as_before x y z same (inr none) = inr none

pub returns-clause-staged : goal.returns-clause-staged
returns-clause-staged c room current is =
    let s : Staged = c.args.self.now in
    let test : FileAt → Bool = λ f. is_listed c.args.files.now f.file in
    let mid : Staged = record { sealed = c.keep.new.self; half = s.half } in
    kept_in room current s mid c.keep_half.new.self test is (c.keep.ensures.stands ∙ ap (λ (k : Staged). filter test (stands k.sealed)) c.self.view_is) c.keep.ensures.filled refl c.keep_half.ensures.sealed (as_before s.half _ c.keep_half.new.self.half (ap (λ (k : Staged). k.half) c.self.view_is) c.keep_half.ensures.either)
