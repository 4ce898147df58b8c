-- The rows of media, layouts, campaigns, dayparts, groups, displays and events as a keeper has them.
use Rattle.std.specs.Prelude.{◌≡◌, ◌⊎◌, ℕ, ◌%◌, ◌==◌, ◌&&◌, nat_lt, Bool, IsTrue, if◌then◌else◌, List, codes, Option, Some, None}
use Rattle.serde_json.specs.Data.{Data, boolean, string, object, member, no_members}
use Rattle.serde_json.specs.Written.{compact_text}
use Rattle.hex.specs.Hex.{encode_lower}
use Rattle.sg_base.specs.declared.file.Listed.{Listed}
use Rattle.sg_base.specs.declared.limits.TheConstants.{PIECE_LEN}
use Rattle.sg_edit_rows.specs.EditRows.{IsRow, row_json}
use Rattle.sg_edit_rows.specs.Older.{older_json}
use Rattle.sg_rows.specs.declared.form.RowForm.TheVariants.{Edit}
use Rattle.sg_rows.specs.Text.{whole}
use Rattle.sg_tables.specs.Entries.{Kept}
use Rattle.sg_tables.specs.Tables.{file_of}

-- a medium with what has come of it
abbrev pub medium_json : Listed → ℕ → Bool → Data
medium_json f received complete = object
    (member (codes "complete") (boolean complete)
    (member (codes "id") (whole f.media.0)
    (member (codes "length") (whole f.length)
    (member (codes "md5") (string (encode_lower f.md5))
    (member (codes "received") (whole received) no_members)))))

abbrev pub saved_json_of : Option Listed → Kept → Data
saved_json_of None e = row_json Edit e.row
saved_json_of (Some f) e = medium_json f e.received e.complete

abbrev pub saved_json : Kept → Data
saved_json e = saved_json_of (file_of e.row) e

-- the text that is written of a row
unfoldable pub saved_text : Kept → List ℕ
saved_text e = compact_text (saved_json e)

-- a text of a row: the one that is written, or one that a server wrote before version 2
abbrev pub IsSavedText : Kept → List ℕ → Type 0
IsSavedText e text = (text ≡ saved_text e) ⊎ ((json : Data) × (older_json e.row ≡ Some json) × (text ≡ compact_text json))

-- ---- what is kept

-- all bytes of a complete medium have come, and of another some whole pieces, but not all; other rows are complete
abbrev pub is_state : Option Listed → ℕ → Bool → Bool
is_state None received complete = (received == 0) && complete
is_state (Some f) received complete = if complete then received == f.length else (nat_lt received f.length && received % PIECE_LEN == 0)

-- a row as it may be kept
pub record IsSaved (e : Kept) : Type 0 where
  pub row : IsRow Edit e.row
  pub state : IsTrue (is_state (file_of e.row) e.received e.complete)
