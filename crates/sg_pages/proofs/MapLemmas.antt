-- The entries of maps.
use Rattle.std.proofs.Common.{◌≡◌, inl, inr, ℕ, zero, suc, ◌+◌, ◌*◌, ◌<◌, ◌≤◌, nat_lt, ◌&&◌, not, Bool, true, false, List, [], ◌∷◌, ◌++◌, length, get_or, drop, map, None, Some, if◌then◌else◌, refl, sym, ◌∙◌, ap, subst, arith, add-one, append_assoc}
use Rattle.std.proofs.lemmas.Bool.{cases_lt}
use Rattle.std.proofs.lemmas.List.{length_push, get_or_append_left, get_or_push, drop_more, at_drop_all, map-append, append-nil}
use Rattle.sg_disk.specs.Contents.{Segment, page_at}
use Rattle.sg_pages.specs.Pages.{is_taken, Marks}
use Rattle.sg_pages.specs.Maps.{le16, u16_at, map_bytes, pages_of, bad_entry}

pub length-pages : (bytes : List ℕ) (n : ℕ) → length (pages_of bytes n) ≡ n
length-pages bytes zero = refl
length-pages bytes (suc n) = length_push (pages_of bytes n) (u16_at bytes (2 * n)) ∙ ap (λ (k : ℕ). k + 1) (length-pages bytes n) ∙ add-one n

pub get_or-pages : (bytes : List ℕ) (n i d : ℕ) → i < n → get_or (pages_of bytes n) i d ≡ u16_at bytes (2 * i)
get_or-pages bytes zero i d lt = absurd (omega (arith, lt))
get_or-pages bytes (suc n) i d lt = elim (cases_lt i n) [
  | inl before ↦
      let near : i < length (pages_of bytes n) = omega (arith, before, length-pages bytes n) in
      get_or_append_left (pages_of bytes n) (u16_at bytes (2 * n) ∷ []) d i near ∙ get_or-pages bytes n i d before
  | inr past ↦
      let at : i ≡ n = omega (arith, past, lt) in
      get_or_push (pages_of bytes n) (u16_at bytes (2 * n)) d i (length-pages bytes n ∙ sym at) ∙ ap (λ (k : ℕ). u16_at bytes (2 * k)) (sym at)
]

pub pages_more : (bytes : List ℕ) (i : ℕ) → pages_of bytes (i + 1) ≡ pages_of bytes i ++ u16_at bytes (2 * i) ∷ []
pages_more bytes i = ap (λ (k : ℕ). pages_of bytes k) (add-one i)

-- what the segments are after the first i entries
abbrev pub with_pages : List Segment → List ℕ → ℕ → List Segment
with_pages taken bytes i = taken ++ map page_at (pages_of bytes i)

with_more : (taken : List Segment) (bytes : List ℕ) (i : ℕ) → with_pages taken bytes (i + 1) ≡ with_pages taken bytes i ++ page_at (u16_at bytes (2 * i)) ∷ []
with_more taken bytes i =
    ap (λ (l : List ℕ). taken ++ map page_at l) (pages_more bytes i) ∙ ap (λ (l : List Segment). taken ++ l) (map-append page_at (pages_of bytes i) (u16_at bytes (2 * i) ∷ [])) ∙ sym (append_assoc taken (map page_at (pages_of bytes i)) (page_at (u16_at bytes (2 * i)) ∷ []))

-- how far the reading of a map has come, where its marks began for these segments
pub record ReadsMap (taken : List Segment) (n count : ℕ) (bytes : List ℕ) (i : ℕ) (marks : List Bool) : Type 0 where
  pub marked : Marks (with_pages taken bytes i) marks
  pub bad : bad_entry n taken 0 (pages_of bytes count) ≡ bad_entry n (with_pages taken bytes i) i (drop i (pages_of bytes count))

pub reads_map_none : (taken : List Segment) (n count : ℕ) (bytes : List ℕ) (marks : List Bool) → Marks taken marks → ReadsMap taken n count bytes 0 marks
reads_map_none taken n count bytes marks are =
    let same : with_pages taken bytes 0 ≡ taken = append-nil taken in
    record {
      marked = subst (λ (l : List Segment). Marks l marks) (sym same) are;
      bad = ap (λ (l : List Segment). bad_entry n l 0 (pages_of bytes count)) (sym same);
    }

-- what the check of entry i says of the whole
reads_map_step : (taken : List Segment) (n count : ℕ) (bytes : List ℕ) (i : ℕ) (marks : List Bool) → i < count → ReadsMap taken n count bytes i marks
    → bad_entry n taken 0 (pages_of bytes count) ≡ (if nat_lt (u16_at bytes (2 * i)) n && not (is_taken (with_pages taken bytes i) (u16_at bytes (2 * i))) then bad_entry n (with_pages taken bytes i ++ page_at (u16_at bytes (2 * i)) ∷ []) (i + 1) (drop (i + 1) (pages_of bytes count)) else Some (record { index = i; page = u16_at bytes (2 * i) }))
reads_map_step taken n count bytes i marks lt so_far =
    let all : List ℕ = pages_of bytes count in
    let here : drop i all ≡ u16_at bytes (2 * i) ∷ drop (i + 1) all = drop_more all i 0 (omega (arith, lt, length-pages bytes count)) ∙ ap (λ (q : ℕ). q ∷ drop (i + 1) all) (get_or-pages bytes count i 0 lt) in
    so_far.bad ∙ ap (λ (l : List ℕ). bad_entry n (with_pages taken bytes i) i l) here

pub reads_map_more : (taken : List Segment) (n count : ℕ) (bytes : List ℕ) (i page : ℕ) (marks new : List Bool) → i < count → page ≡ u16_at bytes (2 * i) → (nat_lt page n && not (is_taken (with_pages taken bytes i) page)) ≡ true → Marks (with_pages taken bytes i ++ page_at page ∷ []) new → ReadsMap taken n count bytes i marks → ReadsMap taken n count bytes (i + 1) new
reads_map_more taken n count bytes i page marks new lt is free are so_far =
    let Free : ℕ → Type 0 = λ q. (nat_lt q n && not (is_taken (with_pages taken bytes i) q)) ≡ true in
    let free_at : (nat_lt (u16_at bytes (2 * i)) n && not (is_taken (with_pages taken bytes i) (u16_at bytes (2 * i)))) ≡ true = subst Free is free in
    let more : with_pages taken bytes i ++ page_at (u16_at bytes (2 * i)) ∷ [] ≡ with_pages taken bytes (i + 1) = sym (with_more taken bytes i) in
    record {
      marked = subst (λ (l : List Segment). Marks l new) (ap (λ (q : ℕ). with_pages taken bytes i ++ page_at q ∷ []) is ∙ more) are;
      bad = reads_map_step taken n count bytes i marks lt so_far ∙ ap (λ (b : Bool). if b then bad_entry n (with_pages taken bytes i ++ page_at (u16_at bytes (2 * i)) ∷ []) (i + 1) (drop (i + 1) (pages_of bytes count)) else Some (record { index = i; page = u16_at bytes (2 * i) })) free_at ∙ ap (λ (l : List Segment). bad_entry n l (i + 1) (drop (i + 1) (pages_of bytes count))) more;
    }

pub reads_map_refused : (taken : List Segment) (n count : ℕ) (bytes : List ℕ) (i page : ℕ) (marks : List Bool) → i < count → page ≡ u16_at bytes (2 * i) → (nat_lt page n && not (is_taken (with_pages taken bytes i) page)) ≡ false → ReadsMap taken n count bytes i marks → bad_entry n taken 0 (pages_of bytes count) ≡ Some (record { index = i; page = page })
reads_map_refused taken n count bytes i page marks lt is bad so_far =
    let Bad : ℕ → Type 0 = λ q. (nat_lt q n && not (is_taken (with_pages taken bytes i) q)) ≡ false in
    let bad_at : (nat_lt (u16_at bytes (2 * i)) n && not (is_taken (with_pages taken bytes i) (u16_at bytes (2 * i)))) ≡ false = subst Bad is bad in
    reads_map_step taken n count bytes i marks lt so_far ∙ ap (λ (b : Bool). if b then bad_entry n (with_pages taken bytes i ++ page_at (u16_at bytes (2 * i)) ∷ []) (i + 1) (drop (i + 1) (pages_of bytes count)) else Some (record { index = i; page = u16_at bytes (2 * i) })) bad_at ∙ ap (λ (q : ℕ). Some (record { index = i; page = q })) (sym is)

pub reads_map_all : (taken : List Segment) (n count : ℕ) (bytes : List ℕ) (i : ℕ) (marks : List Bool) → count ≤ i → ReadsMap taken n count bytes i marks → bad_entry n taken 0 (pages_of bytes count) ≡ None
reads_map_all taken n count bytes i marks le so_far =
    so_far.bad ∙ at_drop_all (λ (l : List ℕ). bad_entry n (with_pages taken bytes i) i l) (pages_of bytes count) i (omega (arith, le, length-pages bytes count))

-- no page at all
pub map_none : (pages bytes : List ℕ) → length pages ≡ 0 → bytes ≡ [] ++ le16 0 → bytes ≡ map_bytes pages
unfolding le16
map_none [] bytes is are = are
map_none (page ∷ pages) bytes is are = absurd (omega (arith, is))
