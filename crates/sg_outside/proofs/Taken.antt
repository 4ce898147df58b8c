-- What a take from memory gives, and what it leaves.
use Rattle.std.proofs.Common.{◌≡◌, ℕ, ◌+◌, ◌-◌, ◌≤◌, ◌<◌, List, [], ◌++◌, length, take, drop, min, sym, ap, ◌∙◌, arith, length-drop, length-append}
use Rattle.std.proofs.lemmas.List.{take-append-drop, drop-drop, length-take-le, take_all, drop_all}
use Rattle.std.proofs.Math.Seq.{take-append_seam}

-- `&bytes[place..]` is what follows the first `place` bytes
pub left_is : (bytes : List ℕ) (place : ℕ) → take (length bytes - place) (drop place bytes) ≡ drop place bytes
left_is bytes place = take_all _ _ (omega (arith, length-drop place bytes))

-- a copy of the next n bytes, put at the front of a buffer, and the bytes past them: together what was left
pub given_and_left : (bytes copied tail : List ℕ) (place n : ℕ) → copied ≡ take n (drop place bytes) → n ≤ length (drop place bytes)
    → drop place bytes ≡ take n (copied ++ tail) ++ drop (place + n) bytes
given_and_left bytes copied tail place n is h =
    let len : length copied ≡ n = ap length is ∙ length-take-le n (drop place bytes) h in
    let front : take n (copied ++ tail) ≡ copied = ap (λ m. take m (copied ++ tail)) (sym len) ∙ take-append_seam copied tail in
    sym (take-append-drop n (drop place bytes))
    ∙ ap (λ l. l ++ drop n (drop place bytes)) (sym is ∙ sym front)
    ∙ ap (λ l. take n (copied ++ tail) ++ l) (drop-drop n place bytes)

-- no more is given than the buffer has room for
pub given_within : (copied into : List ℕ) (n : ℕ) → length copied ≡ n → n ≤ length (copied ++ drop n into)
given_within copied into n len = omega (arith, len, length-append copied (drop n into))

-- where nothing is given to a buffer that has room, nothing was left
pub none_left : (bytes copied into : List ℕ) (place n limit : ℕ) → length copied ≡ n → n ≡ min (min (length (drop place bytes)) (length into)) limit → 0 < limit
    → n ≡ 0 → 0 < length (copied ++ drop n into) → drop (place + n) bytes ≡ []
none_left bytes copied into place n limit len count some none room =
    drop_all (place + n) bytes (omega (arith, len, none, count, length-drop place bytes, length-append copied (drop n into), length-drop n into))
