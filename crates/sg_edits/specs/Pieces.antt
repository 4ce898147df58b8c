-- Pieces of media: what each is answered, and what it leaves.
use Rattle.std.specs.Prelude.{◌≡◌, ℕ, ◌^◌, ◌<◌, ◌+◌, ◌-◌, ◌/◌, ◌%◌, ◌==◌, ◌&&◌, ◌||◌, nat_lt, not, min, Bool, false, if◌then◌else◌, List, [], ◌++◌, Option, None, Some, length}
use Rattle.std.specs.List.{AllByRecursion}
use Rattle.std.specs.Str.{bytes_eq}
use Rattle.md5.specs.Md5.{md5}
use Rattle.sg_base.specs.declared.file.Listed.{Listed}
use Rattle.sg_base.specs.declared.ids.MediaId.{MediaId}
use Rattle.sg_base.specs.declared.kind.Kind.TheVariants as kind
use Rattle.sg_base.specs.declared.limits.TheConstants.{PIECE_LEN}
use Rattle.sg_base.specs.Rising.{IsRising}
use Rattle.sg_edits.specs.declared.piece_reply.PieceReply.{PieceReply}
use Rattle.sg_edits.specs.declared.piece_reply.PieceReply.TheVariants as piece
use Rattle.sg_steps.specs.Calls.{pieces_of, without_pieces}
use Rattle.sg_steps.specs.State.{Content, piece_at}
use Rattle.sg_keeper.specs.Changes.{with_row}
use Rattle.sg_records.specs.Numbers.{piece_number}
use Rattle.sg_records.specs.Saved.{IsSaved, saved_text}
use Rattle.sg_tables.specs.Entries.{Kept, number_of_kept}
use Rattle.sg_tables.specs.Refusals.{row_at}
use Rattle.sg_tables.specs.Rows.{at, number_at}
use Rattle.sg_tables.specs.Tables.{file_of, holding, whole, with_medium}

-- how many bytes the next piece of a file has
abbrev pub wanted : ℕ → ℕ → ℕ
wanted length received = min PIECE_LEN (length - received)

abbrev pub is_same : Option (List ℕ) → List ℕ → Bool
is_same None bytes = false
is_same (Some held) bytes = bytes_eq held bytes

-- the piece has come already: at this offset the medium has a piece of these very bytes
abbrev pub is_held : List ℕ → ℕ → List ℕ → Bool
is_held stored offset bytes = (offset % PIECE_LEN == 0) && is_same (piece_at (offset / PIECE_LEN) stored) bytes

-- what a piece finds: the rows of the server, the bytes that its medium has, and the rows of the keeper
pub record Asked : Type 0 where
  pub rows : List Kept
  pub media : MediaId
  pub offset : ℕ
  pub bytes : List ℕ
  pub stored : List ℕ
  pub kept : ℕ → Option (List ℕ)

-- what it leaves of them, and its answer
pub record Put : Type 0 where
  pub rows : List Kept
  pub reply : PieceReply
  pub stored : List ℕ
  pub kept : ℕ → Option (List ℕ)

abbrev pub only_answered : Asked → PieceReply → Put
only_answered q reply = record { rows = q.rows; reply = reply; stored = q.stored; kept = q.kept }

-- the keeper's rows with a medium's own
abbrev pub with_medium_row : MediaId → Kept → (ℕ → Option (List ℕ)) → ℕ → Option (List ℕ)
with_medium_row media e kept = with_row (number_at (at kind.Media media.0)) (Some (saved_text e)) kept

-- the keeper's rows with a new piece after the bytes that have come, and the medium as it is then
abbrev pub kept_with : MediaId → ℕ → List ℕ → Kept → (ℕ → Option (List ℕ)) → ℕ → Option (List ℕ)
kept_with media received bytes e kept =
    with_medium_row media e (with_row (piece_number media.0 (received / PIECE_LEN)) (Some bytes) kept)

-- the keeper's rows without the pieces of a medium, and the medium as it is then
abbrev pub kept_without : MediaId → ℕ → Kept → (ℕ → Option (List ℕ)) → ℕ → Option (List ℕ)
kept_without media received e kept = with_medium_row media e (without_pieces media.0 (pieces_of received) kept)

-- the piece is added
abbrev pub added : Asked → (Kept → Kept) → Kept → PieceReply → Put
added q change e reply = record {
  rows = with_medium change q.media q.rows;
  reply = reply;
  stored = q.stored ++ q.bytes;
  kept = kept_with q.media e.received q.bytes (change e) q.kept;
}

-- all that came is dropped
abbrev pub dropped : Asked → Kept → Put
dropped q e = record {
  rows = with_medium (holding 0) q.media q.rows;
  reply = piece.DigestDiffers (md5 (q.stored ++ q.bytes));
  stored = [];
  kept = kept_without q.media e.received (holding 0 e) q.kept;
}

-- the last piece: the bytes are those that were declared, or all are dropped
abbrev pub put_last : Asked → Listed → Kept → Put
put_last q file e = if bytes_eq (md5 (q.stored ++ q.bytes)) file.md5 then added q whole e (piece.Complete q.media) else dropped q e

-- the next piece, which has its length
abbrev pub put_next : Asked → Listed → Kept → Put
put_next q file e =
    if nat_lt (e.received + length q.bytes) file.length
    then added q (holding (e.received + length q.bytes)) e (piece.Held (e.received + length q.bytes))
    else put_last q file e

abbrev pub held_reply : MediaId → Kept → PieceReply
held_reply media e = if e.complete then piece.Complete media else piece.Held e.received

-- a piece that hasn't come: the next one, of its length
abbrev pub put_new : Asked → Listed → Kept → Put
put_new q file e =
    if e.complete || not (q.offset == e.received) then only_answered q (piece.PieceOrder e.received)
    else (if not (length q.bytes == wanted file.length e.received) then only_answered q (piece.PieceLength (wanted file.length e.received))
    else put_next q file e)

abbrev pub put_at : Asked → Listed → Kept → Put
put_at q file e = if is_held q.stored q.offset q.bytes then only_answered q (held_reply q.media e) else put_new q file e

abbrev pub put_of : Asked → Option Listed → Kept → Put
put_of q None e = only_answered q (piece.Unknown q.media)
put_of q (Some file) e = put_at q file e

abbrev pub put_in : Asked → Option Kept → Put
put_in q None = only_answered q (piece.Unknown q.media)
put_in q (Some e) = put_of q (file_of e.row) e

-- a piece of a medium
abbrev pub piece_put : Asked → Put
piece_put q = put_in q (row_at (at kind.Media q.media.0) q.rows)

-- the content with a medium's bytes
abbrev pub with_bytes : ℕ → List ℕ → Content → Content
with_bytes media bytes content = record content { bytes = λ m. if m == media then bytes else content.bytes m }

-- rows that have the pieces of a medium
abbrev pub HavePieces : ℕ → List ℕ → (ℕ → Option (List ℕ)) → Type 0
HavePieces media stored kept = (i : ℕ) → i < 2 ^ 32 → kept (piece_number media i) ≡ piece_at i stored

-- the rows have these bytes of a medium, of which so many have come
pub record Holds (media : ℕ) (stored : List ℕ) (received : ℕ) (kept : ℕ → Option (List ℕ)) : Type 0 where
  pub pieces : HavePieces media stored kept
  pub long : received ≡ length stored

-- rows as they may be kept, by key
pub record AreSaved (rows : List Kept) : Type 0 where
  pub saved : AllByRecursion IsSaved rows
  pub rising : IsRising number_of_kept rows
