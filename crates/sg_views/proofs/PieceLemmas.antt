-- A part of a piece, and the same part of all bytes.
use Rattle.std.proofs.Common.{◌≡◌, ℕ, ◌+◌, ◌-◌, ◌*◌, ◌/◌, ◌%◌, ◌^◌, ◌<◌, ◌≤◌, Bool, true, false, List, [], length, take, drop, refl, ap, sym, ◌∙◌, arith}
use Rattle.std.specs.Prelude.{Option, Some, None, nat_lt, unwrap_or, if◌then◌else◌}
use Rattle.std.proofs.lemmas.Bool.{ltb-false}
use Rattle.std.proofs.lemmas.List.{drop-drop, drop-take, drop_all}
use Rattle.std.proofs.Math.Seq.{take-nil}
use Rattle.sg_base.specs.declared.limits.TheConstants.{PIECE_LEN}
use Rattle.sg_views.specs.Pieces.{HavePieces, piece_at, piece_from}
use Rattle.sg_records.specs.Numbers.{piece_number}

cut_within : (start r p : ℕ) (s : List ℕ) → r ≤ p → drop r (take p (drop start s)) ≡ take (p - r) (drop (start + r) s)
cut_within start r p s le =
    let e : r + (p - r) ≡ p = omega arith in
    ap (λ n. drop r (take n (drop start s))) (sym e) ∙ (drop-take r (p - r) (drop start s) ∙ ap (take (p - r)) (drop-drop r start s))

cut_by : (start r : ℕ) (s : List ℕ) (b : Bool) → nat_lt start (length s) ≡ b → r ≤ PIECE_LEN
    → drop r (unwrap_or (if b then Some (take PIECE_LEN (drop start s)) else None) []) ≡ take (PIECE_LEN - r) (drop (start + r) s)
cut_by start r s true e le = cut_within start r PIECE_LEN s le
cut_by start r s false e le =
    let past : length s ≤ start = ltb-false start (length s) e in
    drop_all r [] (omega arith) ∙ sym (ap (take (PIECE_LEN - r)) (drop_all (start + r) s (omega arith)) ∙ take-nil (PIECE_LEN - r))

-- what a piece has from an offset on, the bytes have there
pub rest_of_piece : (offset : ℕ) (s : List ℕ) → drop (offset % PIECE_LEN) (unwrap_or (piece_at (offset / PIECE_LEN) s) []) ≡ piece_from offset s
rest_of_piece offset s =
    let whole : offset / PIECE_LEN * PIECE_LEN + offset % PIECE_LEN ≡ offset = omega arith in
    cut_by (offset / PIECE_LEN * PIECE_LEN) (offset % PIECE_LEN) s _ refl (omega arith)
    ∙ ap (λ n. take (PIECE_LEN - offset % PIECE_LEN) (drop n s)) whole

-- a row that is kept has the bytes of its piece
pub kept_bytes : (media offset : ℕ) (stored : List ℕ) (kept : ℕ → Option (List ℕ)) (row : Option (List ℕ)) → HavePieces media stored kept → offset < 2 ^ 32
    → row ≡ kept (piece_number media (offset / PIECE_LEN)) → drop (offset % PIECE_LEN) (unwrap_or row []) ≡ piece_from offset stored
kept_bytes media offset stored kept row pieces fits e =
    let early : offset / PIECE_LEN < 2 ^ 32 = omega arith in
    ap (λ r. drop (offset % PIECE_LEN) (unwrap_or r [])) (e ∙ pieces (offset / PIECE_LEN) early) ∙ rest_of_piece offset stored
