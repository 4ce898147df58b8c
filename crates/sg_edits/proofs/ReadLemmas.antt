-- The bytes of a medium, piece after piece.
use Rattle.std.proofs.Common.{◌≡◌, ◌∙◌, ℕ, ◌+◌, ◌*◌, ◌<◌, ◌≤◌, ◌^◌, ◌++◌, List, length, take, drop, Some, refl, ap, sym, arith, length-drop}
use Rattle.std.specs.Prelude.{Option, unwrap_or, []}
use Rattle.std.proofs.lemmas.Bool.{lt-ltb}
use Rattle.std.proofs.lemmas.List.{drop-append-le, take-append-le, take_all}
use Rattle.std.proofs.Math.Seq.{drop-append_seam, take-add}
use Rattle.sg_steps.specs.Calls.{pieces_of}
use Rattle.sg_steps.specs.State.{piece_at}

-- a piece of which a byte has come
pub is_there : (i : ℕ) (bytes : List ℕ) → i * 65536 < length bytes → piece_at i bytes ≡ Some (take 65536 (drop (i * 65536) bytes))
is_there i bytes lt = rw (lt-ltb (i * 65536) (length bytes) lt) refl

more_there : (r i : ℕ) → i < pieces_of r → i * 65536 < r
more_there r i lt = omega arith

-- the bytes up to a piece, and the piece after them
pub next_bytes : (stored : List ℕ) (i : ℕ) → i < pieces_of (length stored) → take (i * 65536) stored ++ unwrap_or (piece_at i stored) [] ≡ take ((i + 1) * 65536) stored
next_bytes stored i lt =
    let next : (i + 1) * 65536 ≡ i * 65536 + 65536 = omega arith in
    ap (λ p. take (i * 65536) stored ++ unwrap_or p []) (is_there i stored (more_there (length stored) i lt))
    ∙ sym (ap (λ n. take n stored) next ∙ take-add (i * 65536) 65536 stored)

-- after the last piece all bytes have come
pub all_bytes : (stored : List ℕ) (i : ℕ) → pieces_of (length stored) ≤ i → take (i * 65536) stored ≡ stored
all_bytes stored i le = take_all (i * 65536) stored (omega (arith, le))

pub index_fits : (r i : ℕ) → r < 2 ^ 32 → i < pieces_of r → i < 2 ^ 32
index_fits r i fits lt = omega arith

-- ---- bytes and some more

pub front_there : (a b : List ℕ) (i n : ℕ) → i + n ≤ length a → take n (drop i (a ++ b)) ≡ take n (drop i a)
front_there a b i n le = ap (take n) (drop-append-le i a b (omega arith)) ∙ take-append-le n (drop i a) b (omega (arith, length-drop i a))

pub next_piece : (a b : List ℕ) (n : ℕ) → length b ≤ n → take n (drop (length a) (a ++ b)) ≡ b
next_piece a b n le = ap (take n) (drop-append_seam a b) ∙ take_all n b le
