-- How far a walk along the spares has come, and one along the places.
use Rattle.std.proofs.Common.{◌≡◌, inl, inr, ℕ, zero, suc, ◌+◌, ◌<◌, ◌≤◌, true, false, List, [], ◌∷◌, ◌++◌, length, take, drop, map, get_or, slice_set, refl, sym, ◌∙◌, ap, subst, arith, append_assoc, length-append}
use Rattle.std.proofs.lemmas.List.{append-nil, take_all, drop_all, length-map}
use Rattle.sg_panels.specs.declared.mark.Marks.{Marks}
use Rattle.sg_panels.specs.declared.paint.Tried.{Tried}
use Rattle.sg_panels.specs.declared.paint.Tried.TheVariants.{Dark, Failed, Painted}
use Rattle.sg_panels.specs.Reads.{Known, StaysKnown}
use Rattle.sg_panels.specs.Screens.{Entries, ScreenView, IsPainted, IsMarked, TriesOne, Tries, Place, Paints, failed_after, dropped_once, replaced_once, spares_more}

-- ---- what was known at the start is known later

shows_from : (known later : Known) (picture : Entries) (p n : ScreenView) → StaysKnown known later → IsPainted later picture p n → IsPainted known picture p n
shows_from known later picture p n stays painted = record {
  was = painted.was;
  live = painted.live;
  shows = record {
    shown = λ bytes knows. painted.shows.shown bytes (stays bytes knows);
    begun = painted.shows.begun;
    kept = painted.shows.kept;
  };
}

tries_from : (known later : Known) (picture : Entries) (gone : ScreenView) (qs : List ScreenView) (n : ScreenView) (rs : List ScreenView) (marks : Marks)
    → StaysKnown known later → Tries later picture gone qs n rs marks → Tries known picture gone qs n rs marks
tries_from known later picture gone [] n [] marks stays t = t
tries_from known later picture gone [] n (r ∷ rs) marks stays t = t
tries_from known later picture gone (q ∷ qs) n [] marks stays t = t
tries_from known later picture gone (q ∷ qs) n (r ∷ rs) marks stays (inl (dark, same, t)) =
    inl (dark, same, tries_from known later picture gone qs n rs marks stays t)
tries_from known later picture gone (q ∷ qs) n (r ∷ rs) marks stays (inr (inl (painted, moved, rest, is))) =
    inr (inl (shows_from known later picture q n stays painted, moved, rest, is))
tries_from known later picture gone (q ∷ qs) n (r ∷ rs) marks stays (inr (inr (lost, less, marked, moved, is, t))) =
    inr (inr (lost, less, marked, moved, is, tries_from known later picture lost qs n rs less stays t))

pub place_from : (known later : Known) (picture : Entries) (p : ScreenView) (spares : List ScreenView) (n : ScreenView) (after : List ScreenView) (marks : Marks)
    → StaysKnown known later → Place later picture p spares n after marks → Place known picture p spares n after marks
place_from known later picture p spares n after marks stays (inl dark) = inl dark
place_from known later picture p spares n after marks stays (inr (inl (painted, same, is))) =
    inr (inl (shows_from known later picture p n stays painted, same, is))
place_from known later picture p spares n after marks stays (inr (inr (gone, marked, t))) =
    inr (inr (gone, marked, tries_from known later picture gone spares n after marks stays t))

-- a live screen that was marked, and the spares after it
pub place_tried : (known later : Known) (picture : Entries) (p gone : ScreenView) (spares : List ScreenView) (n : ScreenView) (after : List ScreenView) (marks : Marks)
    → StaysKnown known later → IsMarked p gone → Tries later picture gone spares n after marks → Place known picture p spares n after marks
place_tried known later picture p gone spares n after marks stays marked t =
    inr (inr (gone, marked, tries_from known later picture gone spares n after marks stays t))

-- ---- along the spares

-- Whatever becomes of the spares that are left becomes of all, with so many marks more.
pub record Walked (known : Known) (picture : Entries) (first : ScreenView) (all : List ScreenView) (now : ScreenView) (done left : List ScreenView) (failed : ℕ) : Type 0 where
  pub goes : (new : ScreenView) (after : List ScreenView) (marks : Marks) → Tries known picture now left new after marks
      → Tries known picture first all new (done ++ after) (spares_more failed marks)

none_more : (marks : Marks) → spares_more 0 marks ≡ marks
none_more marks = ap (λ (n : ℕ). record marks { spares = n }) (nothing marks.spares)
  where
    nothing : (n : ℕ) → 0 + n ≡ n
    nothing n = omega arith

one_mark_more : (failed : ℕ) (marks : Marks) → spares_more failed (spares_more 1 marks) ≡ spares_more (failed + 1) marks
one_mark_more failed marks = ap (λ (n : ℕ). record marks { spares = n }) (together failed marks.spares)
  where
    together : (k n : ℕ) → k + (1 + n) ≡ k + 1 + n
    together k n = omega arith

pub walked_none : (known : Known) (picture : Entries) (s : ScreenView) (xs : List ScreenView) → Walked known picture s xs s [] xs 0
walked_none known picture s xs = record { goes = λ new after marks t. subst (Tries known picture s xs new after) (sym (none_more marks)) t }

walked_dark : (known : Known) (picture : Entries) (first : ScreenView) (all : List ScreenView) (s : ScreenView) (done rest : List ScreenView) (failed : ℕ) (q r : ScreenView)
    → q.live ≡ false → r ≡ q → Walked known picture first all s done (q ∷ rest) failed → Walked known picture first all s (done ++ r ∷ []) rest failed
walked_dark known picture first all s done rest failed q r dark same walked = record {
  goes = λ new after marks t. subst (λ (l : List ScreenView). Tries known picture first all new l (spares_more failed marks)) (sym (append_assoc done (r ∷ []) after))
      (walked.goes new (r ∷ after) marks (inl (dark, same, t)));
}

walked_failed : (known : Known) (picture : Entries) (first : ScreenView) (all : List ScreenView) (s : ScreenView) (done rest : List ScreenView) (failed : ℕ) (q r lost : ScreenView)
    → IsMarked q lost → r ≡ s → Walked known picture first all s done (q ∷ rest) failed → Walked known picture first all lost (done ++ r ∷ []) rest (failed + 1)
walked_failed known picture first all s done rest failed q r lost marked moved walked = record {
  goes = λ new after marks t. subst (λ (l : List ScreenView). Tries known picture first all new l (spares_more (failed + 1) marks)) (sym (append_assoc done (r ∷ []) after))
      (subst (Tries known picture first all new (done ++ r ∷ after)) (one_mark_more failed marks)
      (walked.goes new (r ∷ after) (spares_more 1 marks) (inr (inr (lost, marks, marked, moved, refl, t)))));
}

-- one of these shows the picture, and the rest are as they were
walked_painted : (known : Known) (picture : Entries) (first : ScreenView) (all : List ScreenView) (s : ScreenView) (done rest : List ScreenView) (failed : ℕ) (q r new : ScreenView)
    → IsPainted known picture q new → r ≡ s → Walked known picture first all s done (q ∷ rest) failed
    → Tries known picture first all new (done ++ r ∷ rest) (spares_more failed replaced_once)
walked_painted known picture first all s done rest failed q r new painted moved walked =
    walked.goes new (r ∷ rest) replaced_once (inr (inl (painted, moved, refl, refl)))

walked_all : (known : Known) (picture : Entries) (first : ScreenView) (all : List ScreenView) (s : ScreenView) (done : List ScreenView) (failed : ℕ)
    → Walked known picture first all s done [] failed → Tries known picture first all s done (spares_more failed dropped_once)
walked_all known picture first all s done failed walked =
    subst (λ (l : List ScreenView). Tries known picture first all s l (spares_more failed dropped_once)) (append-nil done)
    (walked.goes s [] dropped_once (refl, refl))

-- ---- along the places

-- Whatever becomes of the places that are left becomes of all.
pub record Along (known : Known) (picture : Entries) (places spares now done left : List ScreenView) (marks : List Marks) : Type 0 where
  pub goes : (ns after : List ScreenView) (more : List Marks) → Paints known picture left now ns after more
      → Paints known picture places spares (done ++ ns) after (marks ++ more)

pub along_none : (known : Known) (picture : Entries) (places spares : List ScreenView) → Along known picture places spares spares [] places []
along_none known picture places spares = record { goes = λ ns after more t. t }

along_more : (known : Known) (picture : Entries) (places spares now next done rest : List ScreenView) (marks : List Marks) (p n : ScreenView) (mark : Marks)
    → Place known picture p now n next mark → Along known picture places spares now done (p ∷ rest) marks
    → Along known picture places spares next (done ++ n ∷ []) rest (marks ++ mark ∷ [])
along_more known picture places spares now next done rest marks p n mark place along = record {
  goes = λ ns after more t.
      subst (λ (l : List ScreenView). Paints known picture places spares l after ((marks ++ mark ∷ []) ++ more)) (sym (append_assoc done (n ∷ []) ns))
      (subst (Paints known picture places spares (done ++ n ∷ ns) after) (sym (append_assoc marks (mark ∷ []) more))
      (along.goes (n ∷ ns) after (mark ∷ more) (next, place, t)));
}

along_all : (known : Known) (picture : Entries) (places spares now done : List ScreenView) (marks : List Marks)
    → Along known picture places spares now done [] marks → Paints known picture places spares done now marks
along_all known picture places spares now done marks along =
    subst (λ (l : List ScreenView). Paints known picture places spares l now marks) (append-nil done)
    (subst (Paints known picture places spares (done ++ []) now) (append-nil marks) (along.goes [] now [] refl))

-- ---- lists of which one element is written

drop_here : {A : Type 0} (f : A → ScreenView) (xs : List A) (j : ℕ) (d : A) → j < length xs → drop j (map f xs) ≡ f (get_or xs j d) ∷ drop (suc j) (map f xs)
drop_here f [] j d lt = absurd (omega (arith, lt))
drop_here f (x ∷ xs) zero d lt = refl
drop_here f (x ∷ xs) (suc j) d lt = drop_here f xs j d (omega (arith, lt))

take_set : {A : Type 0} (f : A → ScreenView) (xs : List A) (j : ℕ) (a : A) → j < length xs → take (suc j) (map f (slice_set xs j a)) ≡ take j (map f xs) ++ f a ∷ []
take_set f [] j a lt = absurd (omega (arith, lt))
take_set f (x ∷ xs) zero a lt = refl
take_set f (x ∷ xs) (suc j) a lt = ap (λ (l : List ScreenView). f x ∷ l) (take_set f xs j a (omega (arith, lt)))

drop_set : {A : Type 0} (f : A → ScreenView) (xs : List A) (j : ℕ) (a : A) → drop (suc j) (map f (slice_set xs j a)) ≡ drop (suc j) (map f xs)
drop_set f [] j a = refl
drop_set f (x ∷ xs) zero a = refl
drop_set f (x ∷ xs) (suc j) a = drop_set f xs j a

set_parts : {A : Type 0} (f : A → ScreenView) (xs : List A) (j : ℕ) (a : A) → j < length xs → take j (map f xs) ++ f a ∷ drop (suc j) (map f xs) ≡ map f (slice_set xs j a)
set_parts f [] j a lt = absurd (omega (arith, lt))
set_parts f (x ∷ xs) zero a lt = refl
set_parts f (x ∷ xs) (suc j) a lt = ap (λ (l : List ScreenView). f x ∷ l) (set_parts f xs j a (omega (arith, lt)))

one_more : (j : ℕ) → suc j ≡ j + 1
one_more j = omega arith

-- the element that was lent stands at the front of what is left
here : {A : Type 0} (f : A → ScreenView) (xs : List A) (j : ℕ) (q : A) → j < length xs → q ≡ get_or xs j q → drop j (map f xs) ≡ f q ∷ drop (suc j) (map f xs)
here f xs j q lt is = drop_here f xs j q lt ∙ ap (λ (x : _). f x ∷ drop (suc j) (map f xs)) (sym is)

-- after it was given back, the walk has come one further
next_place : {A : Type 0} (f : A → ScreenView) (xs : List A) (j : ℕ) (a : A) (P : List ScreenView → List ScreenView → Type 0) → j < length xs
    → P (take j (map f xs) ++ f a ∷ []) (drop (suc j) (map f xs)) → P (take (j + 1) (map f (slice_set xs j a))) (drop (j + 1) (map f (slice_set xs j a)))
next_place f xs j a P lt so =
    subst (λ (k : ℕ). P (take k (map f (slice_set xs j a))) (drop k (map f (slice_set xs j a)))) (one_more j)
    (subst (λ (l : List ScreenView). P (take (suc j) (map f (slice_set xs j a))) l) (sym (drop_set f xs j a))
    (subst (λ (l : List ScreenView). P l (drop (suc j) (map f xs))) (sym (take_set f xs j a lt)) so))

all_taken : {A : Type 0} (f : A → ScreenView) (xs : List A) (n : ℕ) → n ≡ length xs → (take n (map f xs) ≡ map f xs) × (drop n (map f xs) ≡ [])
all_taken f xs n is = (take_all n (map f xs) (omega (arith, is, length-map xs f)), drop_all n (map f xs) (omega (arith, is, length-map xs f)))

-- ---- the loops

-- a spare that was dark
spare_dark : {A : Type 0} (f : A → ScreenView) (known later : Known) (picture : Entries) (first : ScreenView) (all : List ScreenView) (xs : List A) (j : ℕ) (q a : A)
    (s new : ScreenView) (failed : ℕ) → j < length xs → q ≡ get_or xs j q → TriesOne later picture s (f q) new (f a) Dark
    → Walked known picture first all s (take j (map f xs)) (drop j (map f xs)) failed
    → Walked known picture first all new (take (j + 1) (map f (slice_set xs j a))) (drop (j + 1) (map f (slice_set xs j a))) failed
spare_dark f known later picture first all xs j q a s new failed lt is (dark, same, kept) walked =
    next_place f xs j a (λ done left. Walked known picture first all new done left failed) lt
    (subst (λ (n : ScreenView). Walked known picture first all n (take j (map f xs) ++ f a ∷ []) (drop (suc j) (map f xs)) failed) (sym same)
    (walked_dark known picture first all s (take j (map f xs)) (drop (suc j) (map f xs)) failed (f q) (f a) dark kept
    (subst (λ (l : List ScreenView). Walked known picture first all s (take j (map f xs)) l failed) (here f xs j q lt is) walked)))

-- a spare that was marked
spare_failed : {A : Type 0} (f : A → ScreenView) (known later : Known) (picture : Entries) (first : ScreenView) (all : List ScreenView) (xs : List A) (j : ℕ) (q a : A)
    (s new : ScreenView) (failed : ℕ) → j < length xs → q ≡ get_or xs j q → TriesOne later picture s (f q) new (f a) Failed
    → Walked known picture first all s (take j (map f xs)) (drop j (map f xs)) failed
    → Walked known picture first all new (take (j + 1) (map f (slice_set xs j a))) (drop (j + 1) (map f (slice_set xs j a))) (failed + 1)
spare_failed f known later picture first all xs j q a s new failed lt is (marked, moved) walked =
    next_place f xs j a (λ done left. Walked known picture first all new done left (failed + 1)) lt
    (walked_failed known picture first all s (take j (map f xs)) (drop (suc j) (map f xs)) failed (f q) (f a) new marked moved
    (subst (λ (l : List ScreenView). Walked known picture first all s (take j (map f xs)) l failed) (here f xs j q lt is) walked))

-- a spare that doesn't show it
spare_tried : {A : Type 0} (f : A → ScreenView) (known later : Known) (picture : Entries) (first : ScreenView) (all : List ScreenView) (xs : List A) (j : ℕ) (q a : A)
    (s new : ScreenView) (failed : ℕ) (tried : Tried) → j < length xs → q ≡ get_or xs j q → (tried ≡ Painted → ⊥) → TriesOne later picture s (f q) new (f a) tried
    → Walked known picture first all s (take j (map f xs)) (drop j (map f xs)) failed
    → Walked known picture first all new (take (j + 1) (map f (slice_set xs j a))) (drop (j + 1) (map f (slice_set xs j a))) (failed_after failed tried)
spare_tried f known later picture first all xs j q a s new failed Dark lt is not t walked = spare_dark f known later picture first all xs j q a s new failed lt is t walked
spare_tried f known later picture first all xs j q a s new failed Failed lt is not t walked = spare_failed f known later picture first all xs j q a s new failed lt is t walked
spare_tried f known later picture first all xs j q a s new failed Painted lt is not t walked = absurd (not refl)

-- the same by the count that was made of it
pub spare_on : {A : Type 0} (f : A → ScreenView) (known later : Known) (picture : Entries) (first : ScreenView) (all : List ScreenView) (xs : List A) (j : ℕ) (q a : A)
    (s new : ScreenView) (failed count : ℕ) (tried : Tried) → j < length xs → q ≡ get_or xs j q → (tried ≡ Painted → ⊥) → count ≡ failed_after failed tried
    → TriesOne later picture s (f q) new (f a) tried → Walked known picture first all s (take j (map f xs)) (drop j (map f xs)) failed
    → Walked known picture first all new (take (j + 1) (map f (slice_set xs j a))) (drop (j + 1) (map f (slice_set xs j a))) count
spare_on f known later picture first all xs j q a s new failed count tried lt is not counted t walked =
    subst (λ (n : ℕ). Walked known picture first all new (take (j + 1) (map f (slice_set xs j a))) (drop (j + 1) (map f (slice_set xs j a))) n) (sym counted)
    (spare_tried f known later picture first all xs j q a s new failed tried lt is not t walked)

pub after_one : (n j : ℕ) (tried : Tried) → n ≤ j → failed_after n tried ≤ j + 1
after_one n j Dark le = omega (arith, le)
after_one n j Failed le = omega (arith, le)
after_one n j Painted le = omega (arith, le)

more_of : (failed : ℕ) (marks : Marks) → marks.spares ≡ 0 → spares_more failed marks ≡ record marks { spares = failed }
more_of failed marks none = ap (λ (n : ℕ). record marks { spares = n }) (all_of marks.spares none)
  where
    all_of : (n : ℕ) → n ≡ 0 → failed + n ≡ failed
    all_of n is = omega (arith, is)

painted_on : {A : Type 0} (f : A → ScreenView) (known later : Known) (picture : Entries) (first : ScreenView) (all : List ScreenView) (xs : List A) (j : ℕ) (q a : A)
    (s new : ScreenView) (failed : ℕ) → j < length xs → q ≡ get_or xs j q → StaysKnown known later → TriesOne later picture s (f q) new (f a) Painted
    → Walked known picture first all s (take j (map f xs)) (drop j (map f xs)) failed
    → Tries known picture first all new (map f (slice_set xs j a)) (record { failed = true; spares = failed; replaced = true })
painted_on f known later picture first all xs j q a s new failed lt is stays (painted, moved) walked =
    subst (λ (l : List ScreenView). Tries known picture first all new l (record { failed = true; spares = failed; replaced = true })) (set_parts f xs j a lt)
    (subst (Tries known picture first all new (take j (map f xs) ++ f a ∷ drop (suc j) (map f xs))) (more_of failed replaced_once refl)
    (walked_painted known picture first all s (take j (map f xs)) (drop (suc j) (map f xs)) failed (f q) (f a) new
    (shows_from known later picture (f q) new stays painted) moved
    (subst (λ (l : List ScreenView). Walked known picture first all s (take j (map f xs)) l failed) (here f xs j q lt is) walked)))

-- a spare that shows the picture
pub spare_painted : {A : Type 0} (f : A → ScreenView) (known later : Known) (picture : Entries) (first : ScreenView) (all : List ScreenView) (xs : List A) (j : ℕ) (q a : A)
    (s new : ScreenView) (failed : ℕ) (tried : Tried) → j < length xs → q ≡ get_or xs j q → StaysKnown known later → tried ≡ Painted
    → TriesOne later picture s (f q) new (f a) tried → Walked known picture first all s (take j (map f xs)) (drop j (map f xs)) failed
    → Tries known picture first all new (map f (slice_set xs j a)) (record { failed = true; spares = failed; replaced = true })
spare_painted f known later picture first all xs j q a s new failed tried lt is stays shows t walked =
    painted_on f known later picture first all xs j q a s new failed lt is stays (subst (TriesOne later picture s (f q) new (f a)) shows t) walked

-- no spare shows it
pub spares_over : {A : Type 0} (f : A → ScreenView) (known : Known) (picture : Entries) (first : ScreenView) (all : List ScreenView) (xs : List A) (n : ℕ) (s : ScreenView) (failed : ℕ)
    → n ≡ length xs → Walked known picture first all s (take n (map f xs)) (drop n (map f xs)) failed
    → Tries known picture first all s (map f xs) (record { failed = true; spares = failed; replaced = false })
spares_over f known picture first all xs n s failed is walked =
    let whole = all_taken f xs n is in
    subst (λ (l : List ScreenView). Tries known picture first all s l (record { failed = true; spares = failed; replaced = false })) whole.0
    (subst (Tries known picture first all s (take n (map f xs))) (more_of failed dropped_once refl)
    (walked_all known picture first all s (take n (map f xs)) failed
    (subst (λ (l : List ScreenView). Walked known picture first all s (take n (map f xs)) l failed) whole.1 walked)))

pub place_on : {A : Type 0} (f : A → ScreenView) (known later : Known) (picture : Entries) (places spares now next : List ScreenView) (xs : List A) (i : ℕ) (q a : A)
    (marks : List Marks) (mark : Marks) → i < length xs → q ≡ get_or xs i q → StaysKnown known later → Place later picture (f q) now (f a) next mark
    → Along known picture places spares now (take i (map f xs)) (drop i (map f xs)) marks
    → Along known picture places spares next (take (i + 1) (map f (slice_set xs i a))) (drop (i + 1) (map f (slice_set xs i a))) (marks ++ mark ∷ [])
place_on f known later picture places spares now next xs i q a marks mark lt is stays place along =
    next_place f xs i a (λ done left. Along known picture places spares next done left (marks ++ mark ∷ [])) lt
    (along_more known picture places spares now next (take i (map f xs)) (drop (suc i) (map f xs)) marks (f q) (f a) mark
    (place_from known later picture (f q) now (f a) next mark stays place)
    (subst (λ (l : List ScreenView). Along known picture places spares now (take i (map f xs)) l marks) (here f xs i q lt is) along))

pub places_over : {A : Type 0} (f : A → ScreenView) (known : Known) (picture : Entries) (places spares now : List ScreenView) (xs : List A) (n : ℕ) (marks : List Marks)
    → n ≡ length xs → Along known picture places spares now (take n (map f xs)) (drop n (map f xs)) marks → Paints known picture places spares (map f xs) now marks
places_over f known picture places spares now xs n marks is along =
    let whole = all_taken f xs n is in
    subst (λ (l : List ScreenView). Paints known picture places spares l now marks) whole.0
    (along_all known picture places spares now (take n (map f xs)) marks
    (subst (λ (l : List ScreenView). Along known picture places spares now (take n (map f xs)) l marks) whole.1 along))

pub one_longer : (marks : List Marks) (mark : Marks) (i : ℕ) → length marks ≡ i → length (marks ++ mark ∷ []) ≡ i + 1
one_longer marks mark i long = omega (arith, length-append marks (mark ∷ []), long)
