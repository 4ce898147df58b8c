use Rattle.std.proofs.Common.{◌≡◌, Bool, List, [], true, slice_index_or, ◌∙◌, ap, subst}
use Rattle.sg_base.specs.declared.file.Listed.{Listed}
use Rattle.sg_missing.specs.Missing.{Holding, holding, missing}
use Rattle.sg_sync.proofs.StepLemmas.{all_held, no_whole, none_staged}
use Rattle.sg_sync.proofs.step.advance.Goals as goal

pub switch-requires-clause-held : goal.switch-requires-clause-held
switch-requires-clause-held g c = λ k d lt.
    let here : Holding = holding (g.S.Staging.holds c.args.store.now) (g.S.Staging.part c.args.store.now) in
    let files : List Listed = c.args.listing.now.snapshot.files in
    let none = rw c.in-Ok-None.field-0-is at c.in-Ok-None.ensures.none in
    let idle = rw c.in-Ok-None.field-0-is at c.in-Ok-None.ensures.idle in
    ap (λ (holds : Listed → Bool). holds (slice_index_or files k d)) (ap g.S.Staging.holds idle.2)
    ∙ all_held here files (subst (λ (l : List Listed). missing here l ≡ []) c.files.ensures.files none) k d lt

pub switch-requires-clause-part : goal.switch-requires-clause-part
switch-requires-clause-part g c =
    let here : Holding = holding (g.S.Staging.holds c.args.store.now) (g.S.Staging.part c.args.store.now) in
    let files : List Listed = c.args.listing.now.snapshot.files in
    let none = rw c.in-Ok-None.field-0-is at c.in-Ok-None.ensures.none in
    let idle = rw c.in-Ok-None.field-0-is at c.in-Ok-None.ensures.idle in
    ap g.S.Staging.part idle.2 ∙ none_staged here files c.requires.fit (subst (λ (l : List Listed). missing here l ≡ []) c.files.ensures.files none)

pub returns-in-Ok-None-clause-counts : goal.returns-in-Ok-None-clause-counts
returns-in-Ok-None-clause-counts g c = no_whole c.switch.result (g.S.Programme.number c.fetch_next.new.store) c.args.listing.now.text _ c.switch.ensures.end
