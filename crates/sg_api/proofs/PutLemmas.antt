-- What a piece is answered, and what it leaves of the server, doesn't depend on the keeper's rows.
use Rattle.std.proofs.Common.{◌≡◌, ℕ, ◌+◌, Bool, true, false, List, ◌++◌, length, Option, None, Some, refl}
use Rattle.std.specs.Prelude.{nat_lt, not, ◌==◌, ◌||◌, if◌then◌else◌}
use Rattle.std.specs.Str.{bytes_eq}
use Rattle.md5.specs.Md5.{md5}
use Rattle.sg_base.specs.declared.file.Listed.{Listed}
use Rattle.sg_base.specs.declared.ids.MediaId.{MediaId}
use Rattle.sg_base.specs.declared.kind.Kind.TheVariants as kind
use Rattle.sg_edits.specs.Media.{asked}
use Rattle.sg_edits.specs.Pieces.{Asked, Put, is_held, piece_put, put_at, put_in, put_last, put_new, put_next, put_of, wanted}
use Rattle.sg_tables.specs.Entries.{Kept}
use Rattle.sg_tables.specs.Refusals.{row_at}
use Rattle.sg_tables.specs.Rows.{at}
use Rattle.sg_tables.specs.Tables.{file_of}

pub record Alike (p q : Put) : Type 0 where
  pub rows : p.rows ≡ q.rows
  pub reply : p.reply ≡ q.reply
  pub stored : p.stored ≡ q.stored

alike_if : (b : Bool) (p p' q q' : Put) → Alike p p' → Alike q q' → Alike (if b then p else q) (if b then p' else q')
alike_if true p p' q q' h k = h
alike_if false p p' q q' h k = k

-- the same question over other rows
abbrev over : (ℕ → Option (List ℕ)) → Asked → Asked
over kept q = record q { kept = kept }

alike_last : (q : Asked) (kept : ℕ → Option (List ℕ)) (file : Listed) (e : Kept) → Alike (put_last q file e) (put_last (over kept q) file e)
alike_last q kept file e = alike_if (bytes_eq (md5 (q.stored ++ q.bytes)) file.md5) _ _ _ _
    (record { rows = refl; reply = refl; stored = refl }) (record { rows = refl; reply = refl; stored = refl })

alike_next : (q : Asked) (kept : ℕ → Option (List ℕ)) (file : Listed) (e : Kept) → Alike (put_next q file e) (put_next (over kept q) file e)
alike_next q kept file e = alike_if (nat_lt (e.received + length q.bytes) file.length) _ _ _ _
    (record { rows = refl; reply = refl; stored = refl }) (alike_last q kept file e)

alike_new : (q : Asked) (kept : ℕ → Option (List ℕ)) (file : Listed) (e : Kept) → Alike (put_new q file e) (put_new (over kept q) file e)
alike_new q kept file e = alike_if (e.complete || not (q.offset == e.received)) _ _ _ _
    (record { rows = refl; reply = refl; stored = refl })
    (alike_if (not (length q.bytes == wanted file.length e.received)) _ _ _ _
    (record { rows = refl; reply = refl; stored = refl }) (alike_next q kept file e))

alike_at : (q : Asked) (kept : ℕ → Option (List ℕ)) (file : Listed) (e : Kept) → Alike (put_at q file e) (put_at (over kept q) file e)
alike_at q kept file e = alike_if (is_held q.stored q.offset q.bytes) _ _ _ _
    (record { rows = refl; reply = refl; stored = refl }) (alike_new q kept file e)

alike_of : (q : Asked) (kept : ℕ → Option (List ℕ)) (file : Option Listed) (e : Kept) → Alike (put_of q file e) (put_of (over kept q) file e)
alike_of q kept None e = record { rows = refl; reply = refl; stored = refl }
alike_of q kept (Some file) e = alike_at q kept file e

alike_in : (q : Asked) (kept : ℕ → Option (List ℕ)) (e : Option Kept) → Alike (put_in q e) (put_in (over kept q) e)
alike_in q kept None = record { rows = refl; reply = refl; stored = refl }
alike_in q kept (Some e) = alike_of q kept (file_of e.row) e

pub alike_put : (rows : List Kept) (media : MediaId) (offset : ℕ) (bytes stored : List ℕ) (one other : ℕ → Option (List ℕ))
    → Alike (piece_put (asked rows media offset bytes stored one)) (piece_put (asked rows media offset bytes stored other))
alike_put rows media offset bytes stored one other =
    alike_in (asked rows media offset bytes stored one) other (row_at (at kind.Media media.0) rows)
