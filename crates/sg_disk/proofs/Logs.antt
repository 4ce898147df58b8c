-- The list of calls grows by one.
use Rattle.std.proofs.Common.{◌≡◌, inl, inr, ℕ, ◌<◌, ◌≤◌, List, [], ◌∷◌, ◌++◌, length, take, get_or, reverse, true, false, refl, sym, ◌∙◌, ap, subst, arith}
use Rattle.std.proofs.lemmas.List.{reverse-append, take-append-le, get_or_append_left, get_or_push, length_push}
use Rattle.std.proofs.lemmas.Bool.{cases_lt}
use Rattle.std.proofs.lemmas.List.Sums.{fold-append}
use Rattle.sg_disk.specs.History.{after, end_of, is_sync, read_of, Fits, is_settled, replayed}
use Rattle.sg_disk.specs.declared.history.Call.{Call}

-- a call at the end is the newest
pub reverse_push : (calls : List Call) (x : Call) → reverse (calls ++ x ∷ []) ≡ x ∷ reverse calls
reverse_push calls x = reverse-append calls (x ∷ [])

pub replayed_push : (first : List ℕ) (calls : List Call) (x : Call) → replayed first (calls ++ x ∷ []) ≡ after x (replayed first calls)
replayed_push first calls x = fold-append (λ (c : List ℕ) (call : Call). after call c) first calls (x ∷ [])

-- the first call of all
read_of-oldest : (first : List ℕ) (h : List Call) (x : Call) → read_of first (h ++ x ∷ []) ≡ read_of (after x first) h
read_of-oldest first [] x = refl
read_of-oldest first (y ∷ h) x = ap (λ (c : List ℕ). after y c) (read_of-oldest first h x)

-- in both orders the calls leave the same bytes
pub read_of-reverse : (first : List ℕ) (calls : List Call) → read_of first (reverse calls) ≡ replayed first calls
read_of-reverse first [] = refl
read_of-reverse first (x ∷ calls) = ap (λ (h : List Call). read_of first h) (reverse-append (x ∷ []) calls) ∙ read_of-oldest first (reverse calls) x ∙ read_of-reverse (after x first) calls

-- one call more that is inside the length
pub fits_push : (first : List ℕ) (calls : List Call) (x : Call) → Fits first (reverse calls) → end_of x ≤ length (replayed first calls) → Fits first (reverse (calls ++ x ∷ []))
fits_push first calls x fits le =
    let inside : end_of x ≤ length (read_of first (reverse calls)) = subst (λ (c : List ℕ). end_of x ≤ length c) (sym (read_of-reverse first calls)) le in
    subst (λ (h : List Call). Fits first h) (sym (reverse_push calls x)) (inside, fits)

-- what stood at the last sync stays
pub settled_push : (first c : List ℕ) (calls : List Call) (x : Call) (n : ℕ) → n ≤ length calls → c ≡ replayed first (take n calls) → c ≡ replayed first (take n (calls ++ x ∷ []))
settled_push first c calls x n le e = e ∙ ap (λ (l : List Call). replayed first l) (sym (take-append-le n calls (x ∷ []) le))

pub at_sync_push : (calls : List Call) (x : Call) (n : ℕ) → n ≤ length calls → is_settled (reverse (take n calls)) ≡ true → is_settled (reverse (take n (calls ++ x ∷ []))) ≡ true
at_sync_push calls x n le e = ap (λ (l : List Call). is_settled (reverse l)) (take-append-le n calls (x ∷ []) le) ∙ e

-- no sync has come since
pub pending_push : (calls : List Call) (x : Call) (n : ℕ) → is_sync x ≡ false → ((k : ℕ) (d : Call) → n ≤ k → k < length calls → is_sync (get_or calls k d) ≡ false) → (k : ℕ) (d : Call) → n ≤ k → k < length (calls ++ x ∷ []) → is_sync (get_or (calls ++ x ∷ []) k d) ≡ false
pending_push calls x n is pending k d low lt =
    elim (cases_lt k (length calls)) [
      | inl before ↦ ap is_sync (get_or_append_left calls (x ∷ []) d k before) ∙ pending k d low before
      | inr past ↦
          let at : length calls ≡ k = omega (arith, length_push calls x) in
          ap is_sync (get_or_push calls x d k at) ∙ is
    ]
