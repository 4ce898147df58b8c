-- Answers are made of own rows alone.
use Rattle.std.proofs.Common.{◌≡◌, List, refl, ap, sym, ◌∙◌}
use Rattle.std.specs.Prelude.{Option, None, Some}
use Rattle.sg_base.specs.declared.ids.DisplayId.{DisplayId}
use Rattle.sg_base.specs.declared.kind.Kind.TheVariants as kind
use Rattle.sg_base.specs.declared.row.DisplayRow.{DisplayRow}
use Rattle.sg_manifest.specs.Snapshot.{SnapshotRow}
use Rattle.sg_own_rows.specs.declared.own.Own.{Own}
use Rattle.sg_own_rows.specs.declared.own.Own.TheVariants as own
use Rattle.sg_own_rows.specs.Own.{all_in, campaign_in, daypart_in, display_in, event_in, file_in, files_of, files_of_display, layout_in, own_of_display, too_large, unless_large}
use Rattle.sg_tables.specs.Entries.{Kept}
use Rattle.sg_tables.specs.Refusals.{row_at}
use Rattle.sg_tables.specs.Rows.{at}
use Rattle.sg_views.specs.Views.{OwnRows, manifest_reply, manifest_with, own_rows_of, own_rows_with}

abbrev snapshot_of : DisplayRow → OwnRows → SnapshotRow
snapshot_of d o = record {
  version = 2;
  zone = d.zone;
  default = d.default;
  layouts = all_in layout_in o.layouts;
  campaigns = all_in campaign_in o.campaigns;
  dayparts = all_in daypart_in o.dayparts;
  events = all_in event_in o.events;
  files = all_in file_in o.media;
}

abbrev made_with : OwnRows → Option DisplayRow → Own
made_with o None = own.Unknown
made_with o (Some d) = unless_large (snapshot_of d o) (too_large (snapshot_of d o))

made_of : (rows : List Kept) (d : Option DisplayRow) → own_of_display rows d ≡ made_with (own_rows_with rows d) (own_rows_with rows d).display
made_of rows None = refl
made_of rows (Some d) = refl

listed_of : (rows : List Kept) (d : Option DisplayRow) → files_of_display rows d ≡ all_in file_in (own_rows_with rows d).media
listed_of rows None = refl
listed_of rows (Some d) = refl

abbrev display_at : DisplayId → List Kept → Option DisplayRow
display_at display rows = display_in (row_at (at kind.Display display.0) rows)

pub same_manifest : (display : DisplayId) (one other : List Kept) → own_rows_of display one ≡ own_rows_of display other → manifest_reply display one ≡ manifest_reply display other
same_manifest display one other same =
    ap manifest_with
    (made_of one (display_at display one) ∙ (ap (λ o. made_with o o.display) same ∙ sym (made_of other (display_at display other))))

pub same_files : (display : DisplayId) (one other : List Kept) → own_rows_of display one ≡ own_rows_of display other → files_of display one ≡ files_of display other
same_files display one other same =
    listed_of one (display_at display one) ∙ (ap (λ o. all_in file_in o.media) same ∙ sym (listed_of other (display_at display other)))
