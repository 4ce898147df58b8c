-- What is gathered of a snapshot's rows, so that they are found fast. No public clause cites it.
use Rattle.std.specs.Prelude.{◌≡◌, ℕ, List, map}
use Rattle.sg_base.specs.Layout.{longest}
use Rattle.sg_manifest.specs.Snapshot.{SnapshotRow, IsSnapshot}

-- what is gathered of a valid snapshot's rows, in the order of these: ids, and how long a layout lasts
pub record IsCatalog (s : SnapshotRow) (ids lasting campaign_ids daypart_ids : List ℕ) : Type 0 where
  pub valid : IsSnapshot s
  pub layouts : ids ≡ map (λ l. l.id.0) s.layouts
  pub seconds : lasting ≡ map (λ l. longest l.regions) s.layouts
  pub campaigns : campaign_ids ≡ map (λ c. c.id.0) s.campaigns
  pub dayparts : daypart_ids ≡ map (λ d. d.id.0) s.dayparts
