-- Pieces of files. A keeper has the bytes of each medium in pieces, one row each.
use Rattle.std.specs.Prelude.{◌≡◌, ℕ, ◌^◌, ◌<◌, ◌-◌, ◌*◌, ◌%◌, ◌==◌, nat_lt, if◌then◌else◌, List, Option, None, Some, length, take, drop, MatchBool}
use Rattle.std.specs.List.{find}
use Rattle.sg_base.specs.declared.file.Listed.{Listed}
use Rattle.sg_base.specs.declared.ids.MediaId.{MediaId}
use Rattle.sg_base.specs.declared.limits.TheConstants.{PIECE_LEN}
use Rattle.sg_records.specs.Numbers.{piece_number}
use Rattle.sg_views.specs.declared.piece.FileReply.{FileReply}
use Rattle.sg_views.specs.declared.piece.FileReply.TheVariants.{Bytes, NotListed, PastEnd}

-- ---- the rows of a keeper

-- a piece of a medium's bytes, counted from 0
abbrev pub piece_at : ℕ → List ℕ → Option (List ℕ)
piece_at index bytes = if nat_lt (index * PIECE_LEN) (length bytes) then Some (take PIECE_LEN (drop (index * PIECE_LEN) bytes)) else None

-- rows that have the pieces of a medium
abbrev pub HavePieces : ℕ → List ℕ → (ℕ → Option (List ℕ)) → Type 0
HavePieces media stored kept = (i : ℕ) → i < 2 ^ 32 → kept (piece_number media i) ≡ piece_at i stored

-- ---- answers

-- the file of a medium among some
abbrev pub listed : MediaId → List Listed → Option Listed
listed media files = find (λ f. f.media.0 == media.0) files

-- the bytes from an offset to the next multiple of a piece's length, or to the end
abbrev pub piece_from : ℕ → List ℕ → List ℕ
piece_from offset bytes = take (PIECE_LEN - offset % PIECE_LEN) (drop offset bytes)

-- what a display is answered that asks for a piece of a file with these bytes
abbrev pub file_reply : Option Listed → ℕ → List ℕ → FileReply
file_reply None offset bytes = NotListed
file_reply (Some f) offset bytes = if nat_lt offset f.length then Bytes (piece_from offset bytes) else PastEnd f.length

-- ---- answers, whatever the bytes are

abbrev pub IsBytes : FileReply → Type 0
IsBytes reply = (bytes : List ℕ) × (reply ≡ Bytes bytes)

abbrev pub IsFileReply : Option Listed → ℕ → FileReply → Type 0
IsFileReply None offset reply = reply ≡ NotListed
IsFileReply (Some f) offset reply = MatchBool (nat_lt offset f.length) (IsBytes reply) (reply ≡ PastEnd f.length)
