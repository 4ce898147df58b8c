-- The text of a valid snapshot has fewer bytes than 64 bits can count.
use Rattle.std.proofs.Common.{◌-◌, ◌^◌, ◌<◌, ◌≤◌, length, arith}
use Rattle.sg_base.specs.declared.zone.ZoneRule.{ZoneRule}
use Rattle.sg_base.specs.declared.zone.ZoneRule.TheVariants.{Offset, Posix}
use Rattle.sg_rows.specs.Rows.{IsLayoutRow, IsCampaignRow, IsDaypartRow, IsEventRow, IsListed}
use Rattle.sg_rows.specs.Text.{layout_json, campaign_json, daypart_json, event_json, file_json, zone_json}
use Rattle.sg_rows.specs.Zone.{IsZone}
use Rattle.sg_rows.proofs.Weights.{weight, length-weight, list_weight, layout_weight, campaign_weight, daypart_weight, event_weight, file_weight}
use Rattle.sg_rows.proofs.ZoneLemmas.{short_zone}
use Rattle.sg_manifest.specs.Snapshot.{SnapshotRow, IsSnapshot, form_of}
use Rattle.sg_manifest.specs.Text.{snapshot_json, text}
use Rattle.sg_manifest.proofs.WholeAgain.{snapshot_sound}

zone_weight : (z : ZoneRule) → IsZone z → weight (zone_json z) ≤ 1000
zone_weight (Offset minutes) h = omega arith
zone_weight (Posix text) h = omega (arith, short_zone text h)

snapshot_weight : (s : SnapshotRow) → IsSnapshot s → weight (snapshot_json s) ≤ 300000000
snapshot_weight s h =
    let form = form_of s.version in
    let campaigns = list_weight campaign_json IsCampaignRow 20000 campaign_weight s.campaigns h.rows.campaigns in
    let dayparts = list_weight (daypart_json form) (IsDaypartRow form) 20000 (daypart_weight form) s.dayparts h.rows.dayparts in
    let events = list_weight (event_json form) (IsEventRow form) 20000 (λ e _. event_weight form e) s.events h.rows.events in
    let files = list_weight file_json IsListed 20000 file_weight s.files h.rows.files in
    let layouts = list_weight layout_json IsLayoutRow 400000 layout_weight s.layouts h.rows.layouts in
    omega (
      arith,
      campaigns,
      dayparts,
      events,
      files,
      layouts,
      zone_weight s.zone h.zone,
      h.few.campaigns,
      h.few.dayparts,
      h.few.events,
      h.few.files,
      h.few.layouts,
    )

pub text_short : (s : SnapshotRow) → IsSnapshot s → length (text s) < 2 ^ 64 - 1
unfolding text
text_short s h = omega (arith, length-weight (snapshot_json s) (snapshot_sound s h).plain, snapshot_weight s h)
