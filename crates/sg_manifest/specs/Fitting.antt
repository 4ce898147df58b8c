-- For private clauses: what is known of rows that were read.
use Rattle.std.specs.Prelude.{IsTrue}
use Rattle.std.specs.List.{IsDistinct}
use Rattle.sg_rows.specs.Order.{same_number}
use Rattle.sg_rows.specs.Zone.{IsZone}
use Rattle.sg_rows.specs.Rows.{IsId}
use Rattle.sg_manifest.specs.Snapshot.{SnapshotRow, HasValidRows, IsWithinLimits, is_version}

-- ids are distinct in each list
pub record IsApart (s : SnapshotRow) : Type 0 where
  pub layouts : IsDistinct (same_number (λ l. l.id.0)) s.layouts
  pub campaigns : IsDistinct (same_number (λ c. c.id.0)) s.campaigns
  pub dayparts : IsDistinct (same_number (λ d. d.id.0)) s.dayparts
  pub events : IsDistinct (same_number (λ e. e.id.0)) s.events
  pub files : IsDistinct (same_number (λ f. f.media.0)) s.files

-- each row is valid by itself, and no list has too many or one id twice
pub record IsDraft (s : SnapshotRow) : Type 0 where
  pub version : IsTrue (is_version s.version)
  pub zone : IsZone s.zone
  pub default : IsId s.default.0
  pub rows : HasValidRows s
  pub few : IsWithinLimits s
  pub apart : IsApart s
