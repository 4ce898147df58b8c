use Rattle.std.proofs.Common.{◌≡◌, ◌⊎◌, inl, inr, Bool, Option, None, ◌∙◌}
use Rattle.std.specs.List.{list_any}
use Rattle.sg_base.specs.declared.file.Listed.{Listed}
use Rattle.sg_placing.specs.Placing.{same_file}
use Rattle.sg_placing.specs.declared.placed.Placed.{Placed}
use Rattle.sg_store.specs.declared.store.Half.{Half}
use Rattle.sg_store.proofs.StageLemmas.{kept_staged}
use Rattle.sg_store.proofs.store.Store.stage_keep.Goals as goal

as_before : (x y z : Option Half) → y ≡ x → (z ≡ y) ⊎ (z ≡ None) → (z ≡ x) ⊎ (z ≡ None)
as_before x y z same (inl kept) = inl (kept ∙ same)
as_before x y z same (inr none) = inr none

pub returns-clause-staged : goal.returns-clause-staged
returns-clause-staged c bytes has =
    let test : Placed → Bool = λ p. list_any (λ (f : Listed). same_file f p.file) c.args.files.now in
    kept_staged c.args.self.now c.keep_half.new.self bytes test (c.keep_half.ensures.snapshot.current ∙ c.keep_sealed.ensures.snapshot.current) (c.keep_half.ensures.sealed ∙ c.keep_sealed.ensures.sealed) (as_before c.args.self.now.half c.keep_sealed.new.self.half c.keep_half.new.self.half c.keep_sealed.ensures.half c.keep_half.ensures.either) has
