-- The entries are those of the layer above the picture, which a valid snapshot makes.
use Rattle.std.proofs.Common.{List, [], None, sym, subst}
use Rattle.sg_layer.specs.declared.entry.Entry.{Entry}
use Rattle.sg_layer.specs.Shown.{IsLayer}
use Rattle.sg_overlay.proofs.OverLemmas.{overlay_sound}
use Rattle.sg_overlay.proofs.overlays.layer_of.Goals as goal

pub new-requires-2 : goal.new-requires-2
new-requires-2 c =
    let normal = subst (λ (xs : List Entry). IsLayer (record { normal = xs; interrupts = []; default = None; kept = None })) (sym c.in_ok-normal.ensures.value) (overlay_sound c.args.catalog.now None c.in_ok-normal.ensures.valid) in
    subst (λ (xs : List Entry). IsLayer (record { normal = c.in_ok-normal.normal.items; interrupts = xs; default = None; kept = None })) (sym c.new.ensures.items) normal
