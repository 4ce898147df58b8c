-- What is staged stands on the disk, after the calls that don't reach it.
use Rattle.std.proofs.Common.{◌≡◌, ◌⊎◌, inl, inr, ℕ, zero, suc, ◌+◌, ◌-◌, ◌*◌, ◌≤◌, min, Bool, List, [], ◌∷◌, ◌++◌, length, take, drop, filter, Option, None, Some, IfSome, All, refl, sym, ◌∙◌, ap, subst, arith, length-append}
use Rattle.std.proofs.lemmas.List.{append_assoc, take_all, length-take}
use Rattle.std.proofs.lemmas.List.Elements.{All-append, All-push, All-filter}
use Rattle.md5.specs.Md5.{md5, Holds}
use Rattle.sg_base.specs.declared.file.Listed.{Listed}
use Rattle.sg_disk.specs.View.{range}
use Rattle.sg_disk.specs.Contents.{Segment, Stand, parts_of}
use Rattle.sg_disk.specs.Contents.{Pages}
use Rattle.sg_disk.specs.declared.places.TheConstants.{DATA, PAGE}
use Rattle.sg_placing.proofs.GapLemmas.{All-front, All-back}
use Rattle.sg_pages.specs.Shelves.{FileAt, Shelved, stands}
use Rattle.sg_staging.specs.Staged.{HalfStaged, Staged, half_at, IsHalf}
use Rattle.sg_store_state.specs.State.{State, whole_stands}
use Rattle.sg_store_state.specs.Ready.{bytes_in, bytes_here, bytes_so_far, IsWhole, IsBegun, HasStaged}

whole_with : (s t : State) → t.current ≡ s.current → t.staged.sealed ≡ s.staged.sealed → whole_stands t ≡ whole_stands s
whole_with s t current sealed = ap (λ (k : Shelved). stands k ++ stands t.staged.sealed) current ∙ ap (λ (k : Shelved). stands s.current ++ stands k) sealed

-- a file is begun
pub begun_staged : (s t : State) (file : Listed) (pages c : List ℕ) → t.current ≡ s.current → t.staged.sealed ≡ s.staged.sealed → IsHalf t.staged file pages [] → HasStaged s c → HasStaged t c
begun_staged s t file pages c current sealed half has =
    let none : bytes_so_far c half.half ≡ [] = ap (λ (n : ℕ). take n (bytes_here c (half_at half.half))) half.count in
    record {
      whole = subst (All (IsWhole c)) (sym (whole_with s t current sealed)) has.whole;
      begun = subst (λ (h : Option HalfStaged). IfSome h (IsBegun c)) (sym half.is) (subst (Holds half.half.hasher) (sym none) half.holds);
    }

-- the half staged file is given up
pub dropped_staged : (s t : State) (c : List ℕ) → t.current ≡ s.current → t.staged.sealed ≡ s.staged.sealed → t.staged.half ≡ None → HasStaged s c → HasStaged t c
dropped_staged s t c current sealed idle has = record {
  whole = subst (All (IsWhole c)) (sym (whole_with s t current sealed)) has.whole;
  begun = subst (λ (h : Option HalfStaged). IfSome h (IsBegun c)) (sym idle) tt;
}

-- a file has no more bytes on the disk than its length
range_short : (c : List ℕ) (place n : ℕ) → length (range c place n) ≤ n
unfolding range
range_short c place n = grind (arith, length-take n (drop place c))

pub bytes_short : (c : List ℕ) (n : ℕ) (pages : List ℕ) → length (bytes_in c (parts_of n pages)) ≤ n
bytes_short c n [] = omega arith
bytes_short c n (page ∷ pages) =
    omega (arith, length-append (range c (DATA + PAGE * page) (min n PAGE)) (bytes_in c (parts_of (n - PAGE) pages)), range_short c (DATA + PAGE * page) (min n PAGE), bytes_short c (n - PAGE) pages)

-- it is sealed
pub sealed_staged : (s t : State) (half : HalfStaged) (c : List ℕ) → s.staged.half ≡ Some half → half.count ≡ half.file.length → t.current ≡ s.current → stands t.staged.sealed ≡ stands s.staged.sealed ++ half_at half ∷ [] → t.staged.half ≡ None → ((bytes : List ℕ) → Holds half.hasher bytes → md5 bytes ≡ half.file.md5) → HasStaged s c → HasStaged t c
sealed_staged s t half c now count current sealed idle digest has =
    let begun : Holds half.hasher (bytes_so_far c half) = subst (λ (h : Option HalfStaged). IfSome h (IsBegun c)) now has.begun in
    let all : bytes_so_far c half ≡ bytes_here c (half_at half) = take_all half.count (bytes_here c (half_at half)) (omega (arith, count, bytes_short c half.file.length half.pages)) in
    let last : IsWhole c (half_at half) = digest (bytes_here c (half_at half)) (subst (Holds half.hasher) all begun) in
    let files : whole_stands t ≡ whole_stands s ++ half_at half ∷ [] = ap (λ (k : Shelved). stands k ++ stands t.staged.sealed) current ∙ ap (λ (l : List FileAt). stands s.current ++ l) sealed ∙ sym (append_assoc (stands s.current) (stands s.staged.sealed) (half_at half ∷ [])) in
    record {
      whole = subst (All (IsWhole c)) (sym files) (All-push (IsWhole c) (whole_stands s) (half_at half) has.whole last);
      begun = subst (λ (h : Option HalfStaged). IfSome h (IsBegun c)) (sym idle) tt;
    }

-- some files are given up
pub kept_staged : (s t : State) (c : List ℕ) (test : FileAt → Bool) → t.current ≡ s.current → stands t.staged.sealed ≡ filter test (stands s.staged.sealed) → (t.staged.half ≡ s.staged.half) ⊎ (t.staged.half ≡ None) → HasStaged s c → HasStaged t c
kept_staged s t c test current sealed half has =
    let a : List FileAt = stands s.current in
    let b : List FileAt = stands s.staged.sealed in
    let files : whole_stands t ≡ a ++ filter test b = ap (λ (k : Shelved). stands k ++ stands t.staged.sealed) current ∙ ap (λ (l : List FileAt). a ++ l) sealed in
    record {
      whole = subst (All (IsWhole c)) (sym files) (All-append (IsWhole c) a (filter test b) (All-front (IsWhole c) a b has.whole) (All-filter test (IsWhole c) b (All-back (IsWhole c) a b has.whole)));
      begun = by_half half;
    }
  where
    by_half : (t.staged.half ≡ s.staged.half) ⊎ (t.staged.half ≡ None) → IfSome t.staged.half (IsBegun c)
    by_half (inl kept) = subst (λ (h : Option HalfStaged). IfSome h (IsBegun c)) (sym kept) has.begun
    by_half (inr none) = subst (λ (h : Option HalfStaged). IfSome h (IsBegun c)) (sym none) tt
