-- The bytes of a file that stands in parts: what a write inside one part adds to them, and where a range of them stands.
use Rattle.std.proofs.Common.{◌≡◌, ◌⊎◌, inl, inr, ℕ, zero, suc, ◌+◌, ◌-◌, ◌*◌, ◌/◌, ◌%◌, ◌<◌, ◌≤◌, min, List, [], ◌∷◌, ◌++◌, length, get_or, take, drop, refl, sym, ◌∙◌, ap, subst, arith, length-drop, append_assoc}
use Rattle.std.specs.List.{flat_map}
use Rattle.std.proofs.Math.Seq.{take-append-add}
use Rattle.std.proofs.lemmas.List.{take-append-le, drop-append-le, drop-drop, drop_at, take-take, length-take-le, get_or-take}
use Rattle.std.proofs.lemmas.Bool.{cases_lt}
use Rattle.sg_disk.specs.View.{range, Torn}
use Rattle.sg_disk.specs.Contents.{Segment, Stand, parts_of, parts_at}
use Rattle.sg_disk.specs.Contents.{Extent, Pages}
use Rattle.sg_disk.specs.declared.places.TheConstants.{DATA, PAGE}
use Rattle.sg_disk.proofs.Ranges.{range-range, range_kept, length-range}
use Rattle.sg_disk.proofs.Parts.{range_more}
use Rattle.sg_pages.specs.Pages.{needed}
use Rattle.sg_pages.specs.Shelves.{byte_place}

-- the bytes of these parts, one behind another
abbrev pub bytes_of : List ℕ → List Segment → List ℕ
bytes_of c parts = flat_map (λ s. range c s.place s.size) parts

-- how many bytes they have
abbrev pub size_of : List Segment → ℕ
size_of [] = 0
size_of (s ∷ parts) = s.size + size_of parts

-- a disk of this length has each part whole
abbrev pub AreWithin : ℕ → List Segment → Type 0
AreWithin n [] = Unit {0}
AreWithin n (s ∷ parts) = (s.place + s.size ≤ n) × AreWithin n parts

-- the front of a list that another one follows
range_left : (xs ys : List ℕ) (p n : ℕ) → p + n ≤ length xs → range (xs ++ ys) p n ≡ range xs p n
unfolding range
range_left xs ys p n le =
    let near : p ≤ length xs = omega (arith, le) in
    let far : n ≤ length (drop p xs) = omega (arith, le, length-drop p xs) in
    ap (λ (l : List ℕ). take n l) (drop-append-le p xs ys near) ∙ take-append-le n (drop p xs) ys far

-- a range behind the front of a list
range_right : (xs ys : List ℕ) (a p n : ℕ) → length xs ≡ a → range (xs ++ ys) (a + p) n ≡ range ys p n
unfolding range
range_right xs ys a p n is = ap (λ (l : List ℕ). take n l) (sym (drop-drop p a (xs ++ ys)) ∙ ap (λ (l : List ℕ). drop p l) (drop_at xs ys a is))

-- a range of one part is a range of the disk
pub range_of_part : (c : List ℕ) (before : List Segment) (s : Segment) (behind : List Segment) (m n : ℕ) → AreWithin (length c) (before ++ s ∷ behind) → m + n ≤ s.size → range (bytes_of c (before ++ s ∷ behind)) (size_of before + m) n ≡ range c (s.place + m) n
range_of_part c [] s behind m n within le =
    let long : length (range c s.place s.size) ≡ s.size = length-range c s.place s.size within.0 in
    let at : 0 + m ≡ m = omega arith in
    ap (λ (k : ℕ). range (range c s.place s.size ++ bytes_of c behind) k n) at ∙ range_left (range c s.place s.size) (bytes_of c behind) m n (omega (arith, le, long)) ∙ range-range c s.place s.size m n le
range_of_part c (b ∷ before) s behind m n within le =
    let long : length (range c b.place b.size) ≡ b.size = length-range c b.place b.size within.0 in
    let at : b.size + size_of before + m ≡ b.size + (size_of before + m) = omega arith in
    ap (λ (k : ℕ). range (range c b.place b.size ++ bytes_of c (before ++ s ∷ behind)) k n) at ∙ range_right (range c b.place b.size) (bytes_of c (before ++ s ∷ behind)) b.size (size_of before + m) n long ∙ range_of_part c before s behind m n within.1 le

-- a shorter range from the same place
front_of_range : (c : List ℕ) (place n m : ℕ) → m ≤ n → take m (range c place n) ≡ range c place m
unfolding range
front_of_range c place n m le = take-take m n (drop place c) le

-- the bytes up to a place inside one part
pub front_of_part : (c : List ℕ) (before : List Segment) (s : Segment) (behind : List Segment) (m : ℕ) → AreWithin (length c) (before ++ s ∷ behind) → m ≤ s.size → take (size_of before + m) (bytes_of c (before ++ s ∷ behind)) ≡ bytes_of c before ++ range c s.place m
front_of_part c [] s behind m within le =
    let long : length (range c s.place s.size) ≡ s.size = length-range c s.place s.size within.0 in
    let at : 0 + m ≡ m = omega arith in
    ap (λ (k : ℕ). take k (range c s.place s.size ++ bytes_of c behind)) at ∙ take-append-le m (range c s.place s.size) (bytes_of c behind) (omega (arith, le, long)) ∙ front_of_range c s.place s.size m le
front_of_part c (b ∷ before) s behind m within le =
    let long : length (range c b.place b.size) ≡ b.size = length-range c b.place b.size within.0 in
    let at : b.size + size_of before + m ≡ length (range c b.place b.size) + (size_of before + m) = omega (arith, long) in
    ap (λ (k : ℕ). take k (range c b.place b.size ++ bytes_of c (before ++ s ∷ behind))) at ∙ take-append-add (range c b.place b.size) (bytes_of c (before ++ s ∷ behind)) (size_of before + m) ∙ ap (λ (l : List ℕ). range c b.place b.size ++ l) (front_of_part c before s behind m within.1 le) ∙ sym (append_assoc (range c b.place b.size) (bytes_of c before) (range c s.place m))

-- A write of bytes inside one part, which leaves what stands before them in the parts, puts them behind the bytes so far
pub written_in_part : (c d : List ℕ) (before : List Segment) (s : Segment) (behind : List Segment) (m : ℕ) (bs : List ℕ) → AreWithin (length c) (before ++ s ∷ behind) → length d ≡ length c → m + length bs ≤ s.size → bytes_of d before ≡ bytes_of c before → range d s.place m ≡ range c s.place m → range d (s.place + m) (length bs) ≡ bs
    → take (size_of before + m + length bs) (bytes_of d (before ++ s ∷ behind)) ≡ take (size_of before + m) (bytes_of c (before ++ s ∷ behind)) ++ bs
written_in_part c d before s behind m bs within same_length le earlier front there =
    let within_d : AreWithin (length d) (before ++ s ∷ behind) = subst (λ (n : ℕ). AreWithin n (before ++ s ∷ behind)) (sym same_length) within in
    let at : size_of before + m + length bs ≡ size_of before + (m + length bs) = omega arith in
    ap (λ (k : ℕ). take k (bytes_of d (before ++ s ∷ behind))) at
    ∙ front_of_part d before s behind (m + length bs) within_d le
    ∙ ap (λ (l : List ℕ). bytes_of d before ++ l) (sym (range_more d s.place m (length bs)))
    ∙ sym (append_assoc (bytes_of d before) (range d s.place m) (range d (s.place + m) (length bs)))
    ∙ ap (λ (l : List ℕ). bytes_of d before ++ range d s.place m ++ l) there
    ∙ ap (λ (l : List ℕ). l ++ range d s.place m ++ bs) earlier
    ∙ ap (λ (l : List ℕ). bytes_of c before ++ l ++ bs) front
    ∙ ap (λ (l : List ℕ). l ++ bs) (sym (front_of_part c before s behind m within (omega (arith, le))))

-- the parts of a file in pages: up to a page, that page, and those behind it
pub parts_split : (n i : ℕ) (pages : List ℕ) (d : ℕ) → i < length pages → parts_of n pages ≡ parts_of n (take i pages) ++ record { place = DATA + PAGE * get_or pages i d; size = min (n - PAGE * i) PAGE } ∷ parts_of (n - PAGE * suc i) (drop (suc i) pages)
parts_split n i [] d lt = absurd (omega (arith, lt))
parts_split n zero (page ∷ pages) d lt =
    let here : n ≡ n - PAGE * 0 = omega arith in
    let later : n - PAGE ≡ n - PAGE * 1 = omega arith in
    ap (λ (k : ℕ). record { place = DATA + PAGE * page; size = min k PAGE } ∷ parts_of (n - PAGE) pages) here ∙ ap (λ (k : ℕ). record { place = DATA + PAGE * page; size = min (n - PAGE * 0) PAGE } ∷ parts_of k pages) later
parts_split n (suc i) (page ∷ pages) d lt =
    let here : n - PAGE - PAGE * i ≡ n - PAGE * suc i = omega arith in
    let later : n - PAGE - PAGE * suc i ≡ n - PAGE * suc (suc i) = omega arith in
    let first : Segment = record { place = DATA + PAGE * page; size = min n PAGE } in
    ap (λ (l : List Segment). first ∷ l) (parts_split (n - PAGE) i pages d (omega (arith, lt)))
    ∙ ap (λ (k : ℕ). first ∷ parts_of (n - PAGE) (take i pages) ++ record { place = DATA + PAGE * get_or pages i d; size = min k PAGE } ∷ parts_of (n - PAGE - PAGE * suc i) (drop (suc i) pages)) here
    ∙ ap (λ (k : ℕ). first ∷ parts_of (n - PAGE) (take i pages) ++ record { place = DATA + PAGE * get_or pages i d; size = min (n - PAGE * suc i) PAGE } ∷ parts_of k (drop (suc i) pages)) later

-- the first pages of a file are full
pub size_of_pages : (n : ℕ) (pages : List ℕ) → PAGE * length pages ≤ n → size_of (parts_of n pages) ≡ PAGE * length pages
size_of_pages n [] le = refl
size_of_pages n (page ∷ pages) le =
    let rest : size_of (parts_of (n - PAGE) pages) ≡ PAGE * length pages = size_of_pages (n - PAGE) pages (omega (arith, le)) in
    omega (arith, rest, le)

-- A range of a file that lies in one page, or in the file's range, stands on the disk from the place of its first byte on
pub range_of_file : (c : List ℕ) (n : ℕ) (stand : Stand) (offset m : ℕ) → ((pages : List ℕ) → stand ≡ Pages pages → length pages ≡ needed n) → AreWithin (length c) (parts_at n stand) → 0 < m → offset + m ≤ n → ((pages : List ℕ) → stand ≡ Pages pages → offset % PAGE + m ≤ PAGE) → range (bytes_of c (parts_at n stand)) offset m ≡ range c (byte_place stand offset) m
range_of_file c n (Extent place) offset m enough within some fits row =
    let at : 0 + offset ≡ offset = omega arith in
    ap (λ (k : ℕ). range (bytes_of c (record { place = place; size = n } ∷ [])) k m) (sym at) ∙ range_of_part c [] (record { place = place; size = n }) [] offset m within (omega (arith, fits))
range_of_file c n (Pages pages) offset m enough within some fits row =
    let i : ℕ = offset / PAGE in
    let r : ℕ = offset % PAGE in
    let whole : offset ≡ PAGE * i + r = omega arith in
    let lt : i < length pages = grind (arith, enough pages refl, fits, some) in
    let s : Segment = record { place = DATA + PAGE * get_or pages i 0; size = min (n - PAGE * i) PAGE } in
    let before : List Segment = parts_of n (take i pages) in
    let behind : List Segment = parts_of (n - PAGE * suc i) (drop (suc i) pages) in
    let split : parts_of n pages ≡ before ++ s ∷ behind = parts_split n i pages 0 lt in
    let front : length (take i pages) ≡ i = length-take-le i pages (omega (arith, lt)) in
    let size : size_of before ≡ PAGE * i = size_of_pages n (take i pages) (omega (arith, front, whole, fits)) ∙ ap (λ (k : ℕ). PAGE * k) front in
    let at : offset ≡ size_of before + r = omega (arith, whole, size) in
    ap (λ (l : List Segment). range (bytes_of c l) offset m) split
    ∙ ap (λ (k : ℕ). range (bytes_of c (before ++ s ∷ behind)) k m) at
    ∙ range_of_part c before s behind r m (subst (AreWithin (length c)) split within) (omega (arith, row pages refl, whole, fits))

-- what stands in pages stays, where a write is inside another page
pub pages_kept : (n : ℕ) (pages : List ℕ) (q r l : ℕ) → r + l ≤ PAGE → ((k : ℕ) → k < length pages → get_or pages k 0 ≡ q → ⊥) → (c d : List ℕ) → Torn (DATA + PAGE * q + r) l c d → bytes_of d (parts_of n pages) ≡ bytes_of c (parts_of n pages)
pages_kept n [] q r l fits other c d torn = refl
pages_kept n (page ∷ pages) q r l fits other c d torn =
    let here : range d (DATA + PAGE * page) (min n PAGE) ≡ range c (DATA + PAGE * page) (min n PAGE) = range_kept (DATA + PAGE * q + r) l (DATA + PAGE * page) (min n PAGE) c d torn (apart (other 0 (omega arith))) in
    let rest : bytes_of d (parts_of (n - PAGE) pages) ≡ bytes_of c (parts_of (n - PAGE) pages) = pages_kept (n - PAGE) pages q r l fits (λ k lt. other (suc k) (omega (arith, lt))) c d torn in
    ap (λ (b : List ℕ). b ++ bytes_of d (parts_of (n - PAGE) pages)) here ∙ ap (λ (b : List ℕ). range c (DATA + PAGE * page) (min n PAGE) ++ b) rest
  where
    apart : (page ≡ q → ⊥) → (DATA + PAGE * page + min n PAGE ≤ DATA + PAGE * q + r) ⊎ (DATA + PAGE * q + r + l ≤ DATA + PAGE * page)
    apart differ = elim (cases_lt page q) [
      | inl below ↦ inl (omega (arith, below))
      | inr from ↦ elim (cases_lt q page) [
        | inl above ↦ inr (omega (arith, above, fits))
        | inr upto ↦ absurd (differ (omega (arith, from, upto)))
      ]
    ]

-- The next bytes of a file in pages, written at their place and inside one page, stand behind those that came before them
pub written_in_file : (c d : List ℕ) (n : ℕ) (pages : List ℕ) (offset : ℕ) (bs : List ℕ) → length pages ≡ needed n → ((k i : ℕ) → k < i → i < length pages → get_or pages k 0 ≡ get_or pages i 0 → ⊥) → AreWithin (length c) (parts_of n pages) → 0 < length bs → offset + length bs ≤ n → offset % PAGE + length bs ≤ PAGE → Torn (byte_place (Pages pages) offset) (length bs) c d → range d (byte_place (Pages pages) offset) (length bs) ≡ bs
    → take (offset + length bs) (bytes_of d (parts_of n pages)) ≡ take offset (bytes_of c (parts_of n pages)) ++ bs
written_in_file c d n pages offset bs enough distinct within some fits row torn there =
    let i : ℕ = offset / PAGE in
    let r : ℕ = offset % PAGE in
    let q : ℕ = get_or pages i 0 in
    let whole : offset ≡ PAGE * i + r = omega arith in
    let lt : i < length pages = grind (arith, enough, fits, some) in
    let s : Segment = record { place = DATA + PAGE * q; size = min (n - PAGE * i) PAGE } in
    let before : List Segment = parts_of n (take i pages) in
    let behind : List Segment = parts_of (n - PAGE * suc i) (drop (suc i) pages) in
    let split : parts_of n pages ≡ before ++ s ∷ behind = parts_split n i pages 0 lt in
    let front : length (take i pages) ≡ i = length-take-le i pages (omega (arith, lt)) in
    let size : size_of before ≡ PAGE * i = size_of_pages n (take i pages) (omega (arith, front, whole, fits)) ∙ ap (λ (k : ℕ). PAGE * k) front in
    let at : offset ≡ size_of before + r = omega (arith, whole, size) in
    let earlier : bytes_of d before ≡ bytes_of c before = pages_kept n (take i pages) q r (length bs) row (λ k below same. distinct k i (omega (arith, below, front)) lt (sym (get_or-take i pages k 0 (omega (arith, below, front))) ∙ same)) c d torn in
    let so_far : range d s.place r ≡ range c s.place r = range_kept (s.place + r) (length bs) s.place r c d torn (inl (omega arith)) in
    ap (λ (l : List Segment). take (offset + length bs) (bytes_of d l)) split
    ∙ ap (λ (k : ℕ). take (k + length bs) (bytes_of d (before ++ s ∷ behind))) at
    ∙ written_in_part c d before s behind r bs (subst (AreWithin (length c)) split within) torn.same_length (omega (arith, row, whole, fits)) earlier so_far there
    ∙ ap (λ (k : ℕ). take k (bytes_of c (before ++ s ∷ behind)) ++ bs) (sym at)
    ∙ ap (λ (l : List Segment). take offset (bytes_of c l) ++ bs) (sym split)
