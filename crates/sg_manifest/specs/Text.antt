-- The text of a manifest: the compact JSON (RFC 8259) of a snapshot, members in byte order of their names.
use Rattle.std.specs.Prelude.{◌≡◌, ℕ, ◌≤◌, List, codes, length}
use Rattle.serde_json.specs.Data.{Data, object, member, no_members}
use Rattle.serde_json.specs.Written.{compact_text}
use Rattle.sg_base.specs.declared.limits.TheConstants.{MANIFEST_TEXT}
use Rattle.sg_rows.specs.Text.{whole, list_of, campaign_json, daypart_json, event_json, file_json, layout_json, zone_json}
use Rattle.sg_manifest.specs.Snapshot.{SnapshotRow, IsSnapshot, form_of}

-- the snapshot in its version
abbrev pub snapshot_json : SnapshotRow → Data
snapshot_json s = object
    (member (codes "campaigns") (list_of campaign_json s.campaigns)
    (member (codes "dayparts") (list_of (daypart_json (form_of s.version)) s.dayparts)
    (member (codes "default") (whole s.default.0)
    (member (codes "events") (list_of (event_json (form_of s.version)) s.events)
    (member (codes "files") (list_of file_json s.files)
    (member (codes "layouts") (list_of layout_json s.layouts)
    (member (codes "version") (whole s.version)
    (member (codes "zone") (zone_json s.zone) no_members))))))))

-- the canonical text
unfoldable pub text : SnapshotRow → List ℕ
text s = compact_text (snapshot_json s)

-- the bytes are the text of this valid snapshot, within the limit of a text
pub record IsManifest (bytes : List ℕ) (s : SnapshotRow) : Type 0 where
  pub valid : IsSnapshot s
  pub is : bytes ≡ text s
  pub short : length bytes ≤ MANIFEST_TEXT
