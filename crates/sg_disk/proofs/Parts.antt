-- Parts of a range, and of what was written.
use Rattle.std.proofs.Common.{◌≡◌, ℕ, ◌+◌, ◌-◌, ◌<◌, ◌≤◌, List, [], ◌∷◌, ◌++◌, length, get_or, take, drop, refl, sym, ◌∙◌, ap, arith}
use Rattle.std.proofs.Math.Seq.{take-add}
use Rattle.std.proofs.lemmas.List.{drop_at, take_at, drop-drop, take_all}
use Rattle.sg_disk.specs.View.{range, put}
use Rattle.sg_disk.proofs.Ranges.{range_put, byte_in, byte_put, range-range}

pub range_none : (c : List ℕ) (place : ℕ) → range c place 0 ≡ []
unfolding range
range_none c place = refl

-- one range behind another
pub range_more : (c : List ℕ) (place l n : ℕ) → range c place l ++ range c (place + l) n ≡ range c place (l + n)
unfolding range
range_more c place l n = ap (λ (d : List ℕ). take l (drop place c) ++ take n d) (sym (drop-drop l place c)) ∙ sym (take-add l n (drop place c))

-- the front of a list, and what follows it
pub range_front : (xs ys : List ℕ) (n : ℕ) → length xs ≡ n → range (xs ++ ys) 0 n ≡ xs
unfolding range
range_front xs ys n is = take_at xs ys n is

pub range_behind : (xs ys : List ℕ) (p q n : ℕ) → length xs ≡ q → p ≡ q + (p - q) → range (xs ++ ys) p n ≡ range ys (p - q) n
unfolding range
range_behind xs ys p q n is at = ap (λ (l : List ℕ). take n l) (ap (λ (k : ℕ). drop k (xs ++ ys)) at ∙ sym (drop-drop (p - q) q (xs ++ ys)) ∙ ap (λ (l : List ℕ). drop (p - q) l) (drop_at xs ys q is))

-- a whole list
pub range_all : (xs : List ℕ) (n : ℕ) → length xs ≡ n → range xs 0 n ≡ xs
unfolding range
range_all xs n is = take_all n xs (omega (arith, is))

-- a part of a slice as a range
pub part_range : (c : List ℕ) (place end n : ℕ) → place + n ≡ end → take (end - place) (drop place c) ≡ range c place n
unfolding range
part_range c place end n is = let same : end - place ≡ n = omega (arith, is) in ap (λ (k : ℕ). take k (drop place c)) same

-- a byte of what is written, and a range of it
pub byte_written : (c : List ℕ) (place p : ℕ) (bs : List ℕ) → place + length bs ≤ length c → p < length bs → get_or (put c place bs) (place + p) 0 ≡ get_or bs p 0
byte_written c place p bs fits lt = sym (byte_in (put c place bs) place (length bs) p lt) ∙ ap (λ (d : List ℕ). get_or d p 0) (range_put c place bs fits)

pub range_written : (c : List ℕ) (place p n : ℕ) (bs : List ℕ) → place + length bs ≤ length c → p + n ≤ length bs → range (put c place bs) (place + p) n ≡ range bs p n
range_written c place p n bs fits le = sym (range-range (put c place bs) place (length bs) p n le) ∙ ap (λ (d : List ℕ). range d p n) (range_put c place bs fits)

-- one byte of an area that was written, and a range of it
pub area_byte_written : (c d : List ℕ) (a l place byte : ℕ) → d ≡ put c (a + place) (byte ∷ []) → place + 1 ≤ l → a + place + 1 ≤ length c → get_or (range d a l) place 0 ≡ byte
area_byte_written c d a l place byte is fits long = byte_in d a l place (omega arith) ∙ ap (λ (e : List ℕ). get_or e (a + place) 0) is ∙ byte_put c (a + place) byte long

pub area_range_written : (c d : List ℕ) (a l place : ℕ) (bs : List ℕ) → d ≡ put c (a + place) bs → place + length bs ≤ l → a + place + length bs ≤ length c → range (range d a l) place (length bs) ≡ bs
area_range_written c d a l place bs is fits long = range-range d a l place (length bs) fits ∙ ap (λ (e : List ℕ). range e (a + place) (length bs)) is ∙ range_put c (a + place) bs long
