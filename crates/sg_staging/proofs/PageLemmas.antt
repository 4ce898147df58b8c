-- The free pages beside files.
use Rattle.std.proofs.Common.{inl, ℕ, ◌*◌, ◌/◌, ◌<◌, ◌≤◌, List, [], ◌∷◌, get_or, take, drop, map, All, AllPairs, sym, subst, arith}
use Rattle.std.proofs.lemmas.List.{take-append-drop}
use Rattle.std.proofs.lemmas.List.Elements.{All-cons, All-take}
use Rattle.std.proofs.lemmas.List.Kept.{AllPairs-cons}
use Rattle.sg_disk.specs.Contents.{Segment, IsInside, page_at, taken_at}
use Rattle.sg_disk.specs.declared.places.TheConstants.{PAGE}
use Rattle.sg_placing.proofs.GapLemmas.{All-front, All-back}
use Rattle.sg_pages.specs.Pages.{free_pages}
use Rattle.sg_pages.specs.Shelves.{FileAt, all_taken_at}
use Rattle.sg_pages.proofs.FreeLemmas.{each_free, free_ascend, clear_of_all, page_inside}
use Rattle.sg_contents.specs.Lawful.{AreBeside}
use Rattle.sg_contents.proofs.Pairs.{pairs_front, pairs_head, pairs_tail, map_all}

-- what holds of all that files take holds of what each takes
pub each_taken : (P : Segment → Type 0) (files : List FileAt) → All P (all_taken_at files) → All (λ f. All P (taken_at f.file.length f.stand)) files
each_taken P [] all = λ k d lt. absurd (omega (arith, lt))
each_taken P (f ∷ files) all = All-cons (λ g. All P (taken_at g.file.length g.stand)) f files (All-front P (taken_at f.file.length f.stand) (all_taken_at files) all) (each_taken P files (All-back P (taken_at f.file.length f.stand) (all_taken_at files) all))

-- pairs of what is mapped
pub map_pairs : {X Y : Type 0} (R : Y → Y → Type 0) (f : X → Y) (xs : List X) → AllPairs (λ x y. R (f x) (f y)) xs → AllPairs R (map f xs)
map_pairs R f [] all = λ i j d lt below. absurd (omega (arith, below))
map_pairs {X} R f (x ∷ xs) all = AllPairs-cons R (f x) (map f xs) (map_all (R (f x)) f xs (pairs_head (λ (y z : X). R (f y) (f z)) x xs all)) (map_pairs R f xs (pairs_tail (λ (y z : X). R (f y) (f z)) x xs all))

-- pages of a data area lie in it
pub inside_less : (room n : ℕ) (s : Segment) → PAGE * n ≤ room → IsInside (PAGE * n) s → IsInside room s
inside_less room n s le here = (here.0, omega (arith, here.1, le))

pub whole_less : (room : ℕ) → PAGE * (room / PAGE) ≤ room
whole_less room = grind arith

pub free_inside : (room need : ℕ) (taken : List Segment) → All (IsInside room) (map page_at (take need (free_pages taken (room / PAGE))))
free_inside room need taken =
    let n : ℕ = room / PAGE in
    map_all (IsInside room) page_at (take need (free_pages taken n)) (All-take (λ page. IsInside room (page_at page)) need (free_pages taken n) (each_free (λ page. IsInside room (page_at page)) taken n (λ page lt free. inside_less room n (page_at page) (whole_less room) (page_inside n page lt))))

-- ascending pages take no byte twice
pages_apart : (p q : ℕ) → p < q → AreBeside (page_at p) (page_at q)
pages_apart p q lt = inl (omega (arith, lt))

pub free_apart : (need n : ℕ) (taken : List Segment) → AllPairs AreBeside (map page_at (take need (free_pages taken n)))
free_apart need n taken =
    let pages : List ℕ = free_pages taken n in
    let up : AllPairs (λ p q. p < q) (take need pages) = pairs_front (λ p q. p < q) (take need pages) (drop need pages) (subst (AllPairs (λ p q. p < q)) (sym (take-append-drop need pages)) (free_ascend taken n)) in
    map_pairs AreBeside page_at (take need pages) (λ i j d lt below. pages_apart (get_or (take need pages) i d) (get_or (take need pages) j d) (up i j d lt below))

-- they share no byte with what is taken
pub free_beside_all : (need n : ℕ) (files : List FileAt) → All (λ f. All (λ s. All (AreBeside s) (map page_at (take need (free_pages (all_taken_at files) n)))) (taken_at f.file.length f.stand)) files
free_beside_all need n files =
    let taken : List Segment = all_taken_at files in
    let pages : List ℕ = take need (free_pages taken n) in
    let clear : All (λ page. All (λ s. AreBeside s (page_at page)) taken) pages = All-take (λ page. All (λ s. AreBeside s (page_at page)) taken) need (free_pages taken n) (each_free (λ page. All (λ s. AreBeside s (page_at page)) taken) taken n (λ page lt free. clear_of_all taken page free)) in
    each_taken (λ s. All (AreBeside s) (map page_at pages)) files (λ k d lt. map_all (AreBeside (get_or taken k d)) page_at pages (λ i e below. clear i e below k d lt))
