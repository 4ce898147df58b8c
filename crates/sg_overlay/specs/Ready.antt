-- What overlays keep beside their snapshot.
use Rattle.std.specs.Prelude.{◌≡◌}
use Rattle.sg_layer.specs.Shown.{LayerValue}
use Rattle.sg_manifest.specs.Snapshot.{SnapshotRow, IsSnapshot}
use Rattle.sg_overlay.specs.Over.{overlay_layer}

-- the layer is that above the picture
pub record IsReady (s : SnapshotRow) (layer : LayerValue) : Type 0 where
  pub valid : IsSnapshot s
  pub layer_is : layer ≡ overlay_layer s layer.kept
