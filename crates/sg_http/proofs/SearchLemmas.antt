-- The steps and the ends of a search for the end of a head.
use Rattle.std.proofs.Common.{◌≡◌, ℕ, ◌+◌, ◌≤◌, Bool, true, false, List, [], ◌++◌, length, drop, refl, sym, ap, ◌∙◌, subst, arith, Option, Some, None, option_map}
use Rattle.std.proofs.lemmas.List.{append-nil, drop-append-le, drop-drop}
use Rattle.std.proofs.Math.Seq.{drop-length}
use Rattle.sg_http.specs.Head.{empty_end}
use Rattle.sg_http.specs.Search.{end_from, BeginsWith, Searches}
use Rattle.sg_http.specs.declared.search.Line.TheVariants.{Empty, Full, Open}
use Rattle.sg_http.specs.declared.search.Search.{Search}
use Rattle.sg_http.specs.declared.search.Search.TheVariants.{Ended, GoesOn}

-- what holds whatever follows holds where nothing does
pub where_nothing_follows : (f g : List ℕ → Option ℕ) (bytes : List ℕ)
    → ((more : List ℕ) → f (bytes ++ more) ≡ g (bytes ++ more)) → f bytes ≡ g bytes
where_nothing_follows f g bytes same =
    let P : List ℕ → Type 0 = λ all. f all ≡ g all in subst P (append-nil bytes) (same [])

pub from_start : (o : Option ℕ) → option_map (λ n. 0 + n) o ≡ o
from_start None = refl
from_start (Some n) = let e : 0 + n ≡ n = omega arith in ap Some e

shifted : (at : ℕ) (o : Option ℕ)
    → option_map (λ n. at + n) (option_map (λ n. 1 + n) o) ≡ option_map (λ n. at + 1 + n) o
shifted at None = refl
shifted at (Some n) = let e : at + (1 + n) ≡ at + 1 + n = omega arith in ap Some e

next_place : (bytes : List ℕ) (at : ℕ) → drop 1 (drop at bytes) ≡ drop (at + 1) bytes
next_place bytes at = drop-drop 1 at bytes

-- a byte that begins no empty line is passed
pub full_passed : (bytes : List ℕ) (at : ℕ) → at ≤ length bytes → BeginsWith (drop at bytes) Full → (more : List ℕ)
    → end_from true at (bytes ++ more) ≡ end_from true (at + 1) (bytes ++ more)
full_passed bytes at within full more =
    let front : drop at (bytes ++ more) ≡ drop at bytes ++ more = drop-append-le at bytes more within in
    let step : empty_end (drop at (bytes ++ more)) ≡ option_map (λ n. 1 + n) (empty_end (drop (at + 1) (bytes ++ more)))
    = rw (front) (full.1 more ∙ ap (λ (l : List ℕ). option_map (λ n. 1 + n) (empty_end l)) (ap (drop 1) (sym front) ∙ next_place (bytes ++ more) at)) in
    ap (option_map (λ n. at + n)) step ∙ shifted at (empty_end (drop (at + 1) (bytes ++ more)))

-- where the empty line is there, the search ends
pub empty_found : (bytes : List ℕ) (at n : ℕ) → at ≤ length bytes → BeginsWith (drop at bytes) (Empty n) → (more : List ℕ)
    → end_from true at (bytes ++ more) ≡ Some (at + n)
empty_found bytes at n within found more =
    rw (drop-append-le at bytes more within) (ap (option_map (λ n. at + n)) (found.1 more))

pub open_left : (bytes : List ℕ) (at : ℕ) → BeginsWith (drop at bytes) Open → end_from true at bytes ≡ None
open_left bytes at left = ap (option_map (λ n. at + n)) left

pub all_passed : (begun : Bool) (bytes : List ℕ) → end_from begun (length bytes) bytes ≡ None
all_passed true bytes = rw (drop-length bytes) refl
all_passed false bytes = rw (drop-length bytes) refl

-- a search goes on from a later place
pub search_goes_on : (bytes : List ℕ) (begun later : Bool) (from at : ℕ) (s : Search)
    → ((more : List ℕ) → end_from begun from (bytes ++ more) ≡ end_from later at (bytes ++ more))
    → Searches bytes later at s → Searches bytes begun from s
search_goes_on bytes begun later from at (Ended end) same found = (found.0, λ more. same more ∙ found.1 more)
search_goes_on bytes begun later from at (GoesOn progress) same found = (
  found.0,
  where_nothing_follows (end_from begun from) (end_from later at) bytes same ∙ found.1,
  λ more. same more ∙ found.2 more,
)

-- where the search stands at the end of the bytes, it goes on there
pub stands_at_end : (begun : Bool) (bytes : List ℕ) (at : ℕ) → at ≡ length bytes
    → Searches bytes begun at (GoesOn (record { at = length bytes; begun = begun }))
stands_at_end begun bytes at here =
    let none : end_from begun at bytes ≡ None = rw here (all_passed begun bytes) in
    let place : length bytes ≤ length bytes = omega arith in
    (place, none, λ more. rw here refl)
