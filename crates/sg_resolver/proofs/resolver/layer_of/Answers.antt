-- The entries and the play are those of the picture's layer, which a valid snapshot makes.
use Rattle.std.proofs.Common.{◌≡◌, List, None, Some, ap, sym, subst, ◌∙◌}
use Rattle.sg_base.specs.declared.ids.LayoutId.{LayoutId}
use Rattle.sg_voice.specs.declared.play.Play.{Play}
use Rattle.sg_layer.specs.declared.entry.Entry.{Entry}
use Rattle.sg_layer.specs.declared.kind.Kind.TheVariants.{Interrupt as Sharing}
use Rattle.sg_layer.specs.Shown.{IsLayer}
use Rattle.sg_manifest.specs.Snapshot.{SnapshotRow}
use Rattle.sg_resolver.specs.Lists.{play_of, entries_of, default_play}
use Rattle.sg_resolver.proofs.ValidLemmas.{picture_sound}
use Rattle.sg_resolver.proofs.resolver.layer_of.Goals as goal

pub new-requires : goal.new-requires
new-requires c =
    let s = c.args.catalog.now in
    let default : c.play-default.result ≡ default_play s = c.play-default.ensures ∙ (ap (λ (l : LayoutId). play_of s 0 l) c.default.ensures.value ∙ ap (λ (r : SnapshotRow). play_of s 0 r.default) c.snapshot.ensures) in
    let normal = subst (λ (xs : List Entry). IsLayer (record { normal = xs; interrupts = entries_of s Sharing; default = Some (default_play s); kept = None })) (sym c.in_ok-normal.ensures.value) (picture_sound s None c.in_ok-normal.ensures.valid) in
    let both = subst (λ (xs : List Entry). IsLayer (record { normal = c.in_ok-normal.normal.items; interrupts = xs; default = Some (default_play s); kept = None })) (sym c.in_ok-interrupts.ensures.value) normal in
    subst (λ (p : Play). IsLayer (record { normal = c.in_ok-normal.normal.items; interrupts = c.in_ok-interrupts.interrupts.items; default = Some p; kept = None })) (sym default) both
