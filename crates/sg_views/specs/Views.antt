-- What a display is answered, by its own rows.
use Rattle.std.specs.Prelude.{ℕ, nat_lt, if◌then◌else◌, List, [], Option, None, Some, length}
use Rattle.sg_base.specs.declared.ids.DisplayId.{DisplayId}
use Rattle.sg_base.specs.declared.kind.Kind.TheVariants as kind
use Rattle.sg_base.specs.declared.kind.LimitName.TheVariants as limit
use Rattle.sg_base.specs.declared.limits.TheConstants.{MANIFEST_TEXT}
use Rattle.sg_base.specs.declared.row.DisplayRow.{DisplayRow}
use Rattle.sg_manifest.specs.Text.{text}
use Rattle.sg_own_rows.specs.declared.own.Own.{Own}
use Rattle.sg_own_rows.specs.declared.own.Own.TheVariants as own
use Rattle.sg_own_rows.specs.Own.{display_in, own_campaigns, own_dayparts, own_events, own_layouts, own_media, own_of}
use Rattle.sg_tables.specs.Entries.{Kept}
use Rattle.sg_tables.specs.Refusals.{row_at}
use Rattle.sg_tables.specs.Rows.{at}
use Rattle.sg_views.specs.declared.manifest.ManifestReply.{ManifestReply}
use Rattle.sg_views.specs.declared.manifest.ManifestReply.TheVariants.{Text, Unknown, TooLarge}

-- ---- own rows, all of them

-- the rows that are a display's own: itself, and by kind what it and the rows for it name
pub record OwnRows : Type 0 where
  pub display : Option DisplayRow
  pub events : List Kept
  pub campaigns : List Kept
  pub dayparts : List Kept
  pub layouts : List Kept
  pub media : List Kept

-- a display that isn't there has none
abbrev pub own_rows_with : List Kept → Option DisplayRow → OwnRows
own_rows_with rows None = record { display = None; events = []; campaigns = []; dayparts = []; layouts = []; media = [] }
own_rows_with rows (Some d) = record {
  display = Some d;
  events = own_events d rows;
  campaigns = own_campaigns d rows;
  dayparts = own_dayparts d rows;
  layouts = own_layouts d rows;
  media = own_media d rows;
}

abbrev pub own_rows_of : DisplayId → List Kept → OwnRows
own_rows_of display rows = own_rows_with rows (display_in (row_at (at kind.Display display.0) rows))

-- ---- the manifest

-- a text as it is answered, or that it is too long
abbrev pub unless_long : List ℕ → ManifestReply
unless_long text = if nat_lt MANIFEST_TEXT (length text) then TooLarge limit.Text (length text) else Text text

abbrev pub manifest_with : Own → ManifestReply
manifest_with own.Unknown = Unknown
manifest_with (own.TooLarge name count) = TooLarge name count
manifest_with (own.Rows s) = unless_long (text s)

-- what a display is answered that asks for its manifest
abbrev pub manifest_reply : DisplayId → List Kept → ManifestReply
manifest_reply display rows = manifest_with (own_of display rows)
