-- Ranges of bytes, and what a torn write leaves of them.
use Rattle.std.proofs.Common.{◌≡◌, ◌⊎◌, inl, inr, min, ℕ, ◌+◌, ◌-◌, ◌<◌, ◌≤◌, List, [], ◌∷◌, ◌++◌, length, get_or, take, drop, refl, sym, ◌∙◌, ap, arith, length-append, length-take, length-drop, append_assoc}
use Rattle.std.proofs.lemmas.List.{drop-take, take-take, drop-drop, take_at, drop_at, length-take-le, get_or-take, get_or-drop, get_or_at}
use Rattle.sg_disk.specs.View.{range, put, Torn}

-- two lists that begin alike have a shorter front alike
pub front_same : (m n : ℕ) (old new : List ℕ) → m ≤ n → take n new ≡ take n old → take m new ≡ take m old
front_same m n old new le e = sym (take-take m n new le) ∙ ap (λ (c : List ℕ). take m c) e ∙ take-take m n old le

-- two lists that end alike have a shorter end alike
pub back_same : (m n : ℕ) (old new : List ℕ) → n ≤ m → drop n new ≡ drop n old → drop m new ≡ drop m old
back_same m n old new le e =
    let at : m ≡ n + (m - n) = omega arith in
    ap (λ (k : ℕ). drop k new) at ∙ sym (drop-drop (m - n) n new) ∙ ap (λ (c : List ℕ). drop (m - n) c) e ∙ drop-drop (m - n) n old ∙ ap (λ (k : ℕ). drop k old) (sym at)

-- a torn write that wrote nothing
pub torn_none : (place n : ℕ) (c : List ℕ) → Torn place n c c
torn_none place n c = record { same_length = refl; before = refl; after = refl }

-- a range outside the one that is written
pub range_kept : (place n p l : ℕ) (old new : List ℕ) → Torn place n old new → (p + l ≤ place) ⊎ (place + n ≤ p) → range new p l ≡ range old p l
unfolding range
range_kept place n p l old new torn (inl le) = sym (drop-take p l new) ∙ ap (λ (c : List ℕ). drop p c) (front_same (p + l) place old new le torn.before) ∙ drop-take p l old
range_kept place n p l old new torn (inr le) = ap (λ (c : List ℕ). take l c) (back_same p (place + n) old new le torn.after)

-- a range of a range
pub range-range : (c : List ℕ) (a l p n : ℕ) → p + n ≤ l → range (range c a l) p n ≡ range c (a + p) n
unfolding range
range-range c a l p n le =
    let whole : l ≡ p + (l - p) = omega arith in
    let fits : n ≤ l - p = omega arith in
    ap (λ (k : ℕ). take n (drop p (take k (drop a c)))) whole ∙ ap (λ (d : List ℕ). take n d) (drop-take p (l - p) (drop a c)) ∙ take-take n (l - p) (drop p (drop a c)) fits ∙ ap (λ (d : List ℕ). take n d) (drop-drop p a c)

pub length-range : (c : List ℕ) (a l : ℕ) → a + l ≤ length c → length (range c a l) ≡ l
unfolding range
length-range c a l le = simp (length-take, length-drop) (omega arith)

-- a torn write inside an area
pub torn_in : (a l p n : ℕ) (old new : List ℕ) → p + n ≤ l → Torn (a + p) n old new → Torn p n (range old a l) (range new a l)
unfolding range
torn_in a l p n old new le torn =
    let whole : l ≡ (p + n) + (l - (p + n)) = omega arith in
    let fits : p ≤ l = omega arith in
    let far : a + p + n ≤ a + (p + n) = omega arith in
    let front : (c : List ℕ) → take p (take l (drop a c)) ≡ drop a (take (a + p) c) = λ c. take-take p l (drop a c) fits ∙ sym (drop-take a p c) in
    let back : (c : List ℕ) → drop (p + n) (take l (drop a c)) ≡ take (l - (p + n)) (drop (a + (p + n)) c) = λ c. ap (λ (k : ℕ). drop (p + n) (take k (drop a c))) whole ∙ drop-take (p + n) (l - (p + n)) (drop a c) ∙ ap (λ (d : List ℕ). take (l - (p + n)) d) (drop-drop (p + n) a c) in
    record {
      same_length = simp (length-take, length-drop) (ap (λ (k : ℕ). min l (k - a)) torn.same_length);
      before = front new ∙ ap (λ (c : List ℕ). drop a c) torn.before ∙ sym (front old);
      after = back new ∙ ap (λ (d : List ℕ). take (l - (p + n)) d) (back_same (a + (p + n)) (a + p + n) old new far torn.after) ∙ sym (back old);
    }

-- a write that was done whole
pub put_is_torn : (c : List ℕ) (place : ℕ) (bs : List ℕ) → place + length bs ≤ length c → Torn place (length bs) c (put c place bs)
unfolding put
put_is_torn c place bs le =
    let rest : List ℕ = drop (place + length bs) c in
    let fits : place ≤ length c = omega arith in
    let front : length (take place c) ≡ place = length-take-le place c fits in
    let both : length (take place c ++ bs) ≡ place + length bs = simp length-append (omega (arith, front)) in
    record {
      same_length = simp (length-append, length-take, length-drop) (omega arith);
      before = take_at (take place c) (bs ++ rest) place front;
      after = ap (λ (d : List ℕ). drop (place + length bs) d) (sym (append_assoc (take place c) bs rest)) ∙ drop_at (take place c ++ bs) rest (place + length bs) both;
    }

-- the range that is written
pub range_put : (c : List ℕ) (place : ℕ) (bs : List ℕ) → place + length bs ≤ length c → range (put c place bs) place (length bs) ≡ bs
unfolding range put
range_put c place bs le =
    let rest : List ℕ = drop (place + length bs) c in
    let fits : place ≤ length c = omega arith in
    let front : length (take place c) ≡ place = length-take-le place c fits in
    ap (λ (d : List ℕ). take (length bs) d) (drop_at (take place c) (bs ++ rest) place front) ∙ take_at bs rest (length bs) refl

pub length-put : (c : List ℕ) (place : ℕ) (bs : List ℕ) → place + length bs ≤ length c → length (put c place bs) ≡ length c
length-put c place bs le = let torn = put_is_torn c place bs le in torn.same_length

-- a byte outside the range that is written
pub byte_kept : (place n p : ℕ) (old new : List ℕ) → Torn place n old new → (p < place) ⊎ (place + n ≤ p) → get_or new p 0 ≡ get_or old p 0
byte_kept place n p old new torn (inl lt) = sym (get_or-take place new p 0 lt) ∙ ap (λ (c : List ℕ). get_or c p 0) torn.before ∙ get_or-take place old p 0 lt
byte_kept place n p old new torn (inr le) =
    let at : p ≡ (place + n) + (p - (place + n)) = omega arith in
    ap (λ (k : ℕ). get_or new k 0) at ∙ sym (get_or-drop (place + n) new (p - (place + n)) 0) ∙ ap (λ (c : List ℕ). get_or c (p - (place + n)) 0) torn.after ∙ get_or-drop (place + n) old (p - (place + n)) 0 ∙ ap (λ (k : ℕ). get_or old k 0) (sym at)

-- a byte of an area
pub byte_in : (c : List ℕ) (a l p : ℕ) → p < l → get_or (range c a l) p 0 ≡ get_or c (a + p) 0
unfolding range
byte_in c a l p lt = get_or-take l (drop a c) p 0 lt ∙ get_or-drop a c p 0

-- one byte that is written
pub byte_put : (c : List ℕ) (place b : ℕ) → place + 1 ≤ length c → get_or (put c place (b ∷ [])) place 0 ≡ b
unfolding put
byte_put c place b le =
    let fits : place ≤ length c = omega arith in
    get_or_at (take place c) b (drop (place + 1) c) 0 place (length-take-le place c fits)

-- a larger range
pub torn_wider : (place n p l : ℕ) (old new : List ℕ) → p ≤ place → place + n ≤ p + l → Torn place n old new → Torn p l old new
torn_wider place n p l old new low high torn = record {
  same_length = torn.same_length;
  before = front_same p place old new low torn.before;
  after = back_same (p + l) (place + n) old new high torn.after;
}

-- one write behind another
pub torn_joined : (place n : ℕ) (a b c : List ℕ) → Torn place n a b → Torn place n b c → Torn place n a c
torn_joined place n a b c first second = record {
  same_length = second.same_length ∙ first.same_length;
  before = second.before ∙ first.before;
  after = second.after ∙ first.after;
}
