-- Gaps between placed files.
use Rattle.std.proofs.Common.{◌≡◌, ◌⊎◌, inl, inr, min, max, ℕ, zero, suc, ◌+◌, ◌-◌, ◌<◌, ◌≤◌, List, [], ◌∷◌, ◌++◌, length, get_or, All, refl, sym, ◌∙◌, subst, arith, length-append}
use Rattle.std.proofs.lemmas.Bool.{cases_lt}
use Rattle.std.proofs.lemmas.List.Elements.{All-append, AllWithin-none, AllWithin-more}
use Rattle.std.specs.List.{AllWithin, HoldsAt}
use Rattle.std.proofs.lemmas.List.{get_or_append_left, get_or-append-add, get_or-append_right, get_or_default}
use Rattle.sg_disk.specs.Contents.{IsClear}
use Rattle.sg_disk.specs.declared.places.TheConstants.{DATA}
use Rattle.sg_placing.specs.Placing.{segment_of, end_of, IsPlaced, AreClearOf, IsFree, IsLowest, IsLongest, NoneEndsBetween}
use Rattle.sg_placing.specs.declared.placed.Placed.{Placed}

-- a file to read where there is none
abbrev pub nowhere : Placed
nowhere = record { file = record { media = record { 0 = 0 }; length = 0; md5 = [] }; place = 0 }

-- what holds in two lists holds in each
pub All-front : {X : Type 0} (P : X → Type 0) (xs ys : List X) → All P (xs ++ ys) → All P xs
All-front P xs ys all k d lt = let far : k < length (xs ++ ys) = simp length-append (omega arith) in subst P (get_or_append_left xs ys d k lt) (all k d far)

pub All-back : {X : Type 0} (P : X → Type 0) (xs ys : List X) → All P (xs ++ ys) → All P ys
All-back P xs ys all k d lt = let far : length xs + k < length (xs ++ ys) = simp length-append (omega arith) in subst P (get_or-append-add xs ys k d) (all (length xs + k) d far)

-- the file that ends last of those that end at or before a place
pub record EndsLast (files : List Placed) (q : ℕ) (p : Placed) : Type 0 where
  pub ends : end_of p ≤ q
  pub last : NoneEndsBetween files (end_of p) q

-- with one file more
more_last : (x : Placed) (files : List Placed) (q place : ℕ) → (end_of x ≤ q → end_of x ≤ place) → NoneEndsBetween files place q → NoneEndsBetween (x ∷ files) place q
more_last x files q place here all zero d lt ends = here ends
more_last x files q place here all (suc k) d lt ends = all k d (omega (arith, lt)) ends

-- some file ends last, or none ends there
pub ends_last : (files : List Placed) (q : ℕ) → All (λ p. q < end_of p) files ⊎ ((k : ℕ) × (k < length files) × ((d : Placed) → EndsLast files q (get_or files k d)))
ends_last [] q = inl (λ k d lt. absurd (omega (arith, lt)))
ends_last (x ∷ files) q = elim (cases_lt q (end_of x)) [
  | inl past ↦ elim (ends_last files q) [
    | inl none ↦ inl (λ k d lt. none_more k d lt past none)
    | inr one ↦ inr (
      suc one.0,
      omega (arith, one.1),
      λ d. record {
        ends = (one.2 d).ends;
        last = more_last x files q (end_of (get_or files one.0 d)) (λ ends. absurd (omega (arith, ends, past))) (one.2 d).last;
      },
    )
  ]
  | inr within ↦ elim (ends_last files q) [
    | inl none ↦ inr (
      zero,
      omega arith,
      λ d. record {
        ends = within;
        last = more_last x files q (end_of x) (λ ends. omega arith) (λ k e lt ends. absurd (omega (arith, ends, none k e lt)));
      },
    )
    | inr one ↦ elim (cases_lt (end_of (get_or files one.0 x)) (end_of x)) [
      | inl later ↦ inr (
        zero,
        omega arith,
        λ d. record {
          ends = within;
          last = more_last x files q (end_of x) (λ ends. omega arith) (λ k e lt ends. omega (arith, later, (one.2 x).last k e lt ends));
        },
      )
      | inr earlier ↦ inr (
        suc one.0,
        omega (arith, one.1),
        λ d. record {
          ends = (one.2 d).ends;
          last = more_last x files q (end_of (get_or files one.0 d)) (λ ends. same_end files one.0 x d one.1 (end_of x) earlier) (one.2 d).last;
        },
      )
    ]
  ]
]
  where
    none_more : (k : ℕ) (d : Placed) → k < length (x ∷ files) → q < end_of x → All (λ p. q < end_of p) files → q < end_of (get_or (x ∷ files) k d)
    none_more zero d lt past none = past
    none_more (suc k) d lt past none = none k d (omega (arith, lt))

    same_end : (files : List Placed) (k : ℕ) (d e : Placed) → k < length files → (n : ℕ) → n ≤ end_of (get_or files k d) → n ≤ end_of (get_or files k e)
    same_end [] k d e lt n le = absurd (omega (arith, lt))
    same_end (y ∷ files) zero d e lt n le = le
    same_end (y ∷ files) (suc k) d e lt n le = same_end files k d e (omega (arith, lt)) n le

-- how far the search for the first file behind a place has come
pub record Behind (files : List Placed) (place limit i least : ℕ) : Type 0 where
  pub within : least ≤ limit
  pub clear : (n : ℕ) → place + n ≤ least → AllWithin (λ p. IsClear place n (segment_of p)) files 0 i
  pub most : (n q : ℕ) → q + n ≤ limit → NoneEndsBetween files place q → AreClearOf files n q → q + n ≤ least

pub behind_none : (files : List Placed) (place limit : ℕ) → Behind files place limit 0 limit
behind_none files place limit = record {
  within = omega arith;
  clear = λ n le. AllWithin-none (λ p. IsClear place n (segment_of p)) files 0;
  most = λ n q le between clear. le;
}

-- at another default
at_default : (P : Placed → Type 0) (files : List Placed) (i : ℕ) (d : Placed) → i < length files → P (get_or files i d) → HoldsAt P files i
at_default P files i d lt holds e = subst P (get_or_default files i d e lt) holds

-- one file more, which ends behind the place
pub behind_more : (files : List Placed) (place limit i least new : ℕ) (d : Placed) → i < length files → place < end_of (get_or files i d) → new ≡ min least (get_or files i d).place → Behind files place limit i least → Behind files place limit (i + 1) new
behind_more files place limit i least new d lt past is so_far = record {
  within = omega (arith, so_far.within);
  clear = λ n le. AllWithin-more (λ p. IsClear place n (segment_of p)) files 0 i (so_far.clear n (omega (arith, le, is))) (at_default (λ p. IsClear place n (segment_of p)) files i d lt (inr (omega (arith, le, is))));
  most = λ n q le between clear. elim (clear i d lt) [
    | inl ends ↦ absurd (omega (arith, between i d lt ends, past))
    | inr ahead ↦ omega (arith, ahead, so_far.most n q le between clear, is)
  ];
}

-- one file more, which doesn't
pub behind_same : (files : List Placed) (place limit i least : ℕ) (d : Placed) → i < length files → end_of (get_or files i d) ≤ place → Behind files place limit i least → Behind files place limit (i + 1) least
behind_same files place limit i least d lt ends so_far = record {
  within = so_far.within;
  clear = λ n le. AllWithin-more (λ p. IsClear place n (segment_of p)) files 0 i (so_far.clear n le) (at_default (λ p. IsClear place n (segment_of p)) files i d lt (inl ends));
  most = so_far.most;
}

-- what a gap from a place has, where the search went over both lists
pub gap_found : (room place first end gap : ℕ) (xs ys : List Placed) → DATA ≤ place → end ≤ first → first ≤ DATA + room → gap ≡ end - place → ((n : ℕ) → place + n ≤ first → AreClearOf xs n place) → ((n : ℕ) → place + n ≤ end → AreClearOf ys n place) → 0 < gap → IsFree room (xs ++ ys) gap place
gap_found room place first end gap xs ys low le high is one two some = record {
  low = low;
  high = omega (arith, is, le, high, some);
  clear = All-append (λ p. IsClear place gap (segment_of p)) xs ys (one gap (omega (arith, is, le, some))) (two gap (omega (arith, is, some)));
}

pub gap_most : (room place first end gap n q : ℕ) (xs ys : List Placed) → place ≤ q → gap ≡ end - place → ((n q : ℕ) → q + n ≤ DATA + room → NoneEndsBetween xs place q → AreClearOf xs n q → q + n ≤ first) → ((n q : ℕ) → q + n ≤ first → NoneEndsBetween ys place q → AreClearOf ys n q → q + n ≤ end) → NoneEndsBetween (xs ++ ys) place q → IsFree room (xs ++ ys) n q → n ≤ gap
gap_most room place first end gap n q xs ys le is one two between free =
    let near : q + n ≤ first = one n q free.high (All-front (λ p. end_of p ≤ q → end_of p ≤ place) xs ys between) (All-front (λ p. IsClear q n (segment_of p)) xs ys free.clear) in
    let far : q + n ≤ end = two n q near (All-back (λ p. end_of p ≤ q → end_of p ≤ place) xs ys between) (All-back (λ p. IsClear q n (segment_of p)) xs ys free.clear) in
    omega (arith, far, is, le)

-- the longest of the gaps at the front and behind each file is the longest of all
pub longest_of : (room first second longest : ℕ) (xs ys : List Placed) → (0 < first → IsFree room (xs ++ ys) first DATA) → ((n q : ℕ) → DATA ≤ q → NoneEndsBetween (xs ++ ys) DATA q → IsFree room (xs ++ ys) n q → n ≤ first)
    → ((second ≡ first) ⊎ ((place : ℕ) × IsFree room (xs ++ ys) second place)) → first ≤ second → All (λ p. (n q : ℕ) → end_of p ≤ q → NoneEndsBetween (xs ++ ys) (end_of p) q → IsFree room (xs ++ ys) n q → n ≤ second) xs
    → ((longest ≡ second) ⊎ ((place : ℕ) × IsFree room (xs ++ ys) longest place)) → second ≤ longest → All (λ p. (n q : ℕ) → end_of p ≤ q → NoneEndsBetween (xs ++ ys) (end_of p) q → IsFree room (xs ++ ys) n q → n ≤ longest) ys
    → IsLongest room (xs ++ ys) longest
longest_of room first second longest xs ys found most found2 more2 most2 found3 more3 most3 = record {
  found = λ some. elim found3 [
    | inr free ↦ free
    | inl same ↦ elim found2 [
      | inr free ↦ (free.0, subst (λ (n : ℕ). IsFree room (xs ++ ys) n free.0) (sym same) free.1)
      | inl again ↦ (DATA, subst (λ (n : ℕ). IsFree room (xs ++ ys) n DATA) (sym (same ∙ again)) (found (omega (arith, some, same, again))))
    ]
  ];
  most = λ n q free. elim (ends_last (xs ++ ys) q) [
    | inl none ↦ omega (arith, more2, more3, most n q free.low (λ k d lt ends. absurd (omega (arith, ends, none k d lt))) free)
    | inr one ↦ elim (cases_lt one.0 (length xs)) [
      | inl front ↦ omega (arith, more3, in_front n q free one.0 front one.2)
      | inr back ↦ in_back n q free one.0 back one.1 one.2
    ]
  ];
}
  where
    in_front : (n q : ℕ) → IsFree room (xs ++ ys) n q → (k : ℕ) → k < length xs → ((d : Placed) → EndsLast (xs ++ ys) q (get_or (xs ++ ys) k d)) → n ≤ second
    in_front n q free k lt last =
        let d : Placed = nowhere in
        let is : EndsLast (xs ++ ys) q (get_or xs k d) = subst (λ (p : Placed). EndsLast (xs ++ ys) q p) (get_or_append_left xs ys d k lt) (last d) in
        most2 k d lt n q is.ends is.last free

    in_back : (n q : ℕ) → IsFree room (xs ++ ys) n q → (k : ℕ) → length xs ≤ k → k < length (xs ++ ys) → ((d : Placed) → EndsLast (xs ++ ys) q (get_or (xs ++ ys) k d)) → n ≤ longest
    in_back n q free k le lt last =
        let d : Placed = nowhere in
        let is : EndsLast (xs ++ ys) q (get_or ys (k - length xs) d) = subst (λ (p : Placed). EndsLast (xs ++ ys) q p) (get_or-append_right xs ys (length xs) k d refl le) (last d) in
        most3 (k - length xs) d (omega (arith, lt, le, length-append xs ys)) n q is.ends is.last free

-- how far the search for the longest gap has come
pub record Longest (room : ℕ) (taken files : List Placed) (before i longest : ℕ) : Type 0 where
  pub found : (longest ≡ before) ⊎ ((place : ℕ) × IsFree room taken longest place)
  pub more : before ≤ longest
  pub most : AllWithin (λ p. (n q : ℕ) → end_of p ≤ q → NoneEndsBetween taken (end_of p) q → IsFree room taken n q → n ≤ longest) files 0 i

pub longest_none : (room : ℕ) (taken files : List Placed) (before : ℕ) → Longest room taken files before 0 before
longest_none room taken files before = record {
  found = inl refl;
  more = omega arith;
  most = AllWithin-none (λ p. (n q : ℕ) → end_of p ≤ q → NoneEndsBetween taken (end_of p) q → IsFree room taken n q → n ≤ before) files 0;
}

-- the gap behind one file more
pub longest_more : (room : ℕ) (taken files : List Placed) (before i longest gap place new : ℕ) (d : Placed) → i < length files → place ≡ end_of (get_or files i d) → new ≡ max longest gap → (0 < gap → IsFree room taken gap place) → ((n q : ℕ) → place ≤ q → NoneEndsBetween taken place q → IsFree room taken n q → n ≤ gap) → Longest room taken files before i longest → Longest room taken files before (i + 1) new
longest_more room taken files before i longest gap place new d lt at is found most so_far = record {
  found = elim (cases_lt longest gap) [
    | inl longer ↦
        let same : gap ≡ new = omega arith in
        inr (place, subst (λ (n : ℕ). IsFree room taken n place) same (found (omega (arith, longer))))
    | inr shorter ↦
        let same : longest ≡ new = omega arith in
        subst (λ (n : ℕ). (n ≡ before) ⊎ ((place : ℕ) × IsFree room taken n place)) same so_far.found
  ];
  more = omega (arith, so_far.more, is);
  most = AllWithin-more (λ p. (n q : ℕ) → end_of p ≤ q → NoneEndsBetween taken (end_of p) q → IsFree room taken n q → n ≤ new) files 0 i
      (λ k e low high n q le between free. omega (arith, so_far.most k e low high n q le between free, is))
      (at_default (λ p. (n q : ℕ) → end_of p ≤ q → NoneEndsBetween taken (end_of p) q → IsFree room taken n q → n ≤ new) files i d lt
      (λ n q le between free. omega (arith, most n q (omega (arith, le, at)) (subst (λ (p : ℕ). NoneEndsBetween taken p q) (sym at) between) free, is)));
}
