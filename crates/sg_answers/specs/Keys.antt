-- Who may ask what: the operator for all that is no display's, and each display for what is its own.
use Rattle.std.specs.Prelude.{ℕ, Bool, false, List, Option, None, Some}
use Rattle.std.specs.Str.{bytes_eq}
use Rattle.sg_base.specs.declared.ids.DisplayId.{DisplayId}
use Rattle.sg_base.specs.declared.kind.Kind.TheVariants as kind
use Rattle.sg_base.specs.declared.row.DisplayRow.{DisplayRow}
use Rattle.sg_own_rows.specs.Own.{display_in}
use Rattle.sg_routes.specs.declared.asked.Asked.{Asked}
use Rattle.sg_routes.specs.declared.asked.Asked.TheVariants.{Edits, Piece, Report, Enrol, Manifest, File, Plays}
use Rattle.sg_tables.specs.Entries.{Kept}
use Rattle.sg_tables.specs.Refusals.{row_at}
use Rattle.sg_tables.specs.Rows.{at}

abbrev pub is_key : List ℕ → Option (List ℕ) → Bool
is_key wanted None = false
is_key wanted (Some given) = bytes_eq wanted given

abbrev pub is_key_of : Option DisplayRow → Option (List ℕ) → Bool
is_key_of None key = false
is_key_of (Some d) key = is_key d.key key

-- it is the display's key; one that isn't there has none
abbrev pub opens : DisplayId → List Kept → Option (List ℕ) → Bool
opens display rows key = is_key_of (display_in (row_at (at kind.Display display.0) rows)) key

abbrev pub may_ask : List ℕ → List Kept → Asked → Option (List ℕ) → Bool
may_ask operator rows Edits key = is_key operator key
may_ask operator rows (Piece media offset) key = is_key operator key
may_ask operator rows (Report from to) key = is_key operator key
may_ask operator rows (Enrol display) key = opens display rows key
may_ask operator rows (Manifest display) key = opens display rows key
may_ask operator rows (File display media offset) key = opens display rows key
may_ask operator rows (Plays display) key = opens display rows key
