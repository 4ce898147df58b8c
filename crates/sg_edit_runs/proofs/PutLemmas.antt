-- What a piece makes of a server and of its medium's bytes, whatever rows the keeper has.
use Rattle.std.proofs.Common.{◌≡◌, ℕ, ◌+◌, ◌==◌, ◌||◌, nat_lt, not, Bool, true, false, List, ◌++◌, Option, Some, None, refl, length}
use Rattle.std.specs.Prelude.{if◌then◌else◌}
use Rattle.std.specs.Str.{bytes_eq}
use Rattle.md5.specs.Md5.{md5}
use Rattle.sg_base.specs.declared.file.Listed.{Listed}
use Rattle.sg_base.specs.declared.kind.Kind.TheVariants as kind
use Rattle.sg_edits.specs.declared.piece_reply.PieceReply.{PieceReply}
use Rattle.sg_edits.specs.declared.piece_reply.PieceReply.TheVariants as piece
use Rattle.sg_edits.specs.Pieces.{Asked, Put, added, dropped, held_reply, is_held, only_answered, piece_put, put_at, put_in, put_last, put_new, put_next, put_of, wanted}
use Rattle.sg_tables.specs.Entries.{Kept}
use Rattle.sg_tables.specs.Refusals.{row_at}
use Rattle.sg_tables.specs.Rows.{at}
use Rattle.sg_tables.specs.Tables.{file_of, holding, whole}

-- all but the keeper's rows are the same
pub record AreSame (a b : Put) : Type 0 where
  pub rows : a.rows ≡ b.rows
  pub reply : a.reply ≡ b.reply
  pub stored : a.stored ≡ b.stored

abbrev pub over : (ℕ → Option (List ℕ)) → Asked → Asked
over kept q = record { rows = q.rows; media = q.media; offset = q.offset; bytes = q.bytes; stored = q.stored; kept = kept }

if_same : (c : Bool) (x y p q : Put) → AreSame x p → AreSame y q → AreSame (if c then x else y) (if c then p else q)
if_same true x y p q a b = a
if_same false x y p q a b = b

only_same : (kept : ℕ → Option (List ℕ)) (q : Asked) (reply : PieceReply) → AreSame (only_answered q reply) (only_answered (over kept q) reply)
only_same kept q reply = record { rows = refl; reply = refl; stored = refl }

added_same : (kept : ℕ → Option (List ℕ)) (q : Asked) (change : Kept → Kept) (e : Kept) (reply : PieceReply) → AreSame (added q change e reply) (added (over kept q) change e reply)
added_same kept q change e reply = record { rows = refl; reply = refl; stored = refl }

dropped_same : (kept : ℕ → Option (List ℕ)) (q : Asked) (e : Kept) → AreSame (dropped q e) (dropped (over kept q) e)
dropped_same kept q e = record { rows = refl; reply = refl; stored = refl }

last_same : (kept : ℕ → Option (List ℕ)) (q : Asked) (file : Listed) (e : Kept) → AreSame (put_last q file e) (put_last (over kept q) file e)
last_same kept q file e =
    if_same (bytes_eq (md5 (q.stored ++ q.bytes)) file.md5) (added q whole e (piece.Complete q.media)) (dropped q e)
    (added (over kept q) whole e (piece.Complete q.media)) (dropped (over kept q) e)
    (added_same kept q whole e (piece.Complete q.media)) (dropped_same kept q e)

next_same : (kept : ℕ → Option (List ℕ)) (q : Asked) (file : Listed) (e : Kept) → AreSame (put_next q file e) (put_next (over kept q) file e)
next_same kept q file e =
    if_same (nat_lt (e.received + length q.bytes) file.length) (added q (holding (e.received + length q.bytes)) e (piece.Held (e.received + length q.bytes))) (put_last q file e)
    (added (over kept q) (holding (e.received + length q.bytes)) e (piece.Held (e.received + length q.bytes))) (put_last (over kept q) file e)
    (added_same kept q (holding (e.received + length q.bytes)) e (piece.Held (e.received + length q.bytes))) (last_same kept q file e)

new_same : (kept : ℕ → Option (List ℕ)) (q : Asked) (file : Listed) (e : Kept) → AreSame (put_new q file e) (put_new (over kept q) file e)
new_same kept q file e =
    let order : PieceReply = piece.PieceOrder e.received in
    let long : PieceReply = piece.PieceLength (wanted file.length e.received) in
    if_same (e.complete || not (q.offset == e.received)) (only_answered q order)
    (if not (length q.bytes == wanted file.length e.received) then only_answered q long else put_next q file e)
    (only_answered (over kept q) order)
    (if not (length q.bytes == wanted file.length e.received) then only_answered (over kept q) long else put_next (over kept q) file e)
    (only_same kept q order)
    (if_same (not (length q.bytes == wanted file.length e.received)) (only_answered q long) (put_next q file e) (only_answered (over kept q) long) (put_next (over kept q) file e)
    (only_same kept q long) (next_same kept q file e))

at_same : (kept : ℕ → Option (List ℕ)) (q : Asked) (file : Listed) (e : Kept) → AreSame (put_at q file e) (put_at (over kept q) file e)
at_same kept q file e =
    if_same (is_held q.stored q.offset q.bytes) (only_answered q (held_reply q.media e)) (put_new q file e)
    (only_answered (over kept q) (held_reply q.media e)) (put_new (over kept q) file e)
    (only_same kept q (held_reply q.media e)) (new_same kept q file e)

of_same : (kept : ℕ → Option (List ℕ)) (q : Asked) (file : Option Listed) (e : Kept) → AreSame (put_of q file e) (put_of (over kept q) file e)
of_same kept q None e = only_same kept q (piece.Unknown q.media)
of_same kept q (Some file) e = at_same kept q file e

in_same : (kept : ℕ → Option (List ℕ)) (q : Asked) (e : Option Kept) → AreSame (put_in q e) (put_in (over kept q) e)
in_same kept q None = only_same kept q (piece.Unknown q.media)
in_same kept q (Some e) = of_same kept q (file_of e.row) e

pub put_same : (kept : ℕ → Option (List ℕ)) (q : Asked) → AreSame (piece_put q) (piece_put (over kept q))
put_same kept q = in_same kept q (row_at (at kind.Media q.media.0) q.rows)
