-- What contracts see of a snapshot that was adopted, and what a resolver keeps beside it.
use Rattle.std.specs.Prelude.{◌≡◌, Ok, Option, ℤ}
use Rattle.sg_calendar.specs.Zone.{ZoneView, zone_of}
use Rattle.sg_layer.specs.Shown.{LayerValue}
use Rattle.sg_manifest.specs.Snapshot.{SnapshotRow, IsSnapshot}
use Rattle.sg_resolver.specs.Lists.{picture_layer}

-- a snapshot that was adopted, and the segment of local seconds for which the hour is kept that was built last
pub record Adopted : Type 0 where
  pub snapshot : SnapshotRow
  pub kept : Option (ℤ × ℤ)

-- the zone is the one that the snapshot's rule tells, and the layer is that of the picture
pub record IsReady (s : SnapshotRow) (told : ZoneView) (layer : LayerValue) : Type 0 where
  pub valid : IsSnapshot s
  pub zone : zone_of s.zone ≡ Ok told
  pub layer_is : layer ≡ picture_layer s layer.kept
