-- An empty line that was found stays where it is, whatever follows.
use Rattle.std.proofs.Common.{◌≡◌, ℕ, suc, ◌+◌, ◌<◌, ◌≤◌, Bool, true, false, List, [], ◌∷◌, ◌++◌, length, refl, ap, ◌∙◌, arith, Option, Some, None, option_map, if◌then◌else◌}
use Rattle.sg_http.specs.Head.{is_newline, begins_short_line, begins_long_line, empty_end, head_end}

-- what a step of either search adds
one_more : (o p : Option ℕ) (n : ℕ) → ((m : ℕ) → o ≡ Some m → p ≡ Some m) → option_map (λ m. 1 + m) o ≡ Some n
    → option_map (λ m. 1 + m) p ≡ Some n
one_more None p n later found = cc
one_more (Some m) p n later found = ap (option_map (λ k. 1 + k)) (later m refl) ∙ found

chosen : (short long : Bool) (o p : Option ℕ) (n : ℕ) → ((m : ℕ) → o ≡ Some m → p ≡ Some m)
    → (if short then Some 2 else (if long then Some 3 else option_map (λ m. 1 + m) o)) ≡ Some n
    → (if short then Some 2 else (if long then Some 3 else option_map (λ m. 1 + m) p)) ≡ Some n
chosen true long o p n later found = found
chosen false true o p n later found = found
chosen false false o p n later found = one_more o p n later found

pub empty_end_more : (bytes more : List ℕ) (n : ℕ) → empty_end bytes ≡ Some n → empty_end (bytes ++ more) ≡ Some n
empty_end_more [] more n found = cc
empty_end_more (a ∷ []) more n found = cc
empty_end_more (a ∷ b ∷ []) more n found = short_only (begins_short_line (a ∷ b ∷ [])) _ found
  where
    short_only : (short : Bool) (p : Option ℕ) → (if short then Some 2 else None) ≡ Some n
        → (if short then Some 2 else p) ≡ Some n
    short_only true p found = found
    short_only false p found = cc
empty_end_more (a ∷ b ∷ c ∷ bytes) more n found =
    chosen (begins_short_line (a ∷ b ∷ c ∷ bytes)) (begins_long_line (a ∷ b ∷ c ∷ bytes)) _ _ n
    (λ m. empty_end_more (b ∷ c ∷ bytes) more m) found

within_one_more : (o : Option ℕ) (k n : ℕ) → ((m : ℕ) → o ≡ Some m → (0 < m) × (m ≤ k)) → option_map (λ m. 1 + m) o ≡ Some n
    → (0 < n) × (n ≤ suc k)
within_one_more None k n within found = cc
within_one_more (Some m) k n within found =
    let e : 1 + m ≡ n = cc in
    let h = within m refl in
    (omega arith, omega arith)

within_chosen : (short long : Bool) (o : Option ℕ) (k n : ℕ) → (short ≡ true → 1 ≤ k) → (long ≡ true → 2 ≤ k)
    → ((m : ℕ) → o ≡ Some m → (0 < m) × (m ≤ k))
    → (if short then Some 2 else (if long then Some 3 else option_map (λ m. 1 + m) o)) ≡ Some n
    → (0 < n) × (n ≤ suc k)
within_chosen true long o k n two three within found =
    let e : 2 ≡ n = cc in let h = two refl in (omega arith, omega arith)
within_chosen false true o k n two three within found =
    let e : 3 ≡ n = cc in let h = three refl in (omega arith, omega arith)
within_chosen false false o k n two three within found = within_one_more o k n within found

pub empty_end_within : (bytes : List ℕ) (n : ℕ) → empty_end bytes ≡ Some n → (0 < n) × (n ≤ length bytes)
empty_end_within [] n found = cc
empty_end_within (a ∷ []) n found = cc
empty_end_within (a ∷ b ∷ []) n found =
    within_chosen (begins_short_line (a ∷ b ∷ [])) false None 1 n (λ _. omega arith) (λ e. cc) (λ m e. cc) found
empty_end_within (a ∷ b ∷ c ∷ bytes) n found =
    within_chosen (begins_short_line (a ∷ b ∷ c ∷ bytes)) (begins_long_line (a ∷ b ∷ c ∷ bytes)) _
    (length (b ∷ c ∷ bytes)) n (λ _. omega arith) (λ _. omega arith) (λ m e. empty_end_within (b ∷ c ∷ bytes) m e) found

pub head_end_more : (bytes more : List ℕ) (n : ℕ) → head_end bytes ≡ Some n → head_end (bytes ++ more) ≡ Some n
head_end_more [] more n found = cc
head_end_more (b ∷ bytes) more n found = by_test (λ m. head_end_more bytes more m) (is_newline b) found
  where
    by_test : ((m : ℕ) → head_end bytes ≡ Some m → head_end (bytes ++ more) ≡ Some m) → (newline : Bool)
        → (if newline then option_map (λ m. 1 + m) (head_end bytes) else empty_end (b ∷ bytes)) ≡ Some n
        → (if newline then option_map (λ m. 1 + m) (head_end (bytes ++ more)) else empty_end (b ∷ (bytes ++ more))) ≡ Some n
    by_test later true found = one_more (head_end bytes) (head_end (bytes ++ more)) n later found
    by_test later false found = empty_end_more (b ∷ bytes) more n found

pub head_end_within : (bytes : List ℕ) (n : ℕ) → head_end bytes ≡ Some n → (0 < n) × (n ≤ length bytes)
head_end_within [] n found = cc
head_end_within (b ∷ bytes) n found = by_test (λ m. head_end_within bytes m) (is_newline b) found
  where
    by_test : ((m : ℕ) → head_end bytes ≡ Some m → (0 < m) × (m ≤ length bytes)) → (newline : Bool)
        → (if newline then option_map (λ m. 1 + m) (head_end bytes) else empty_end (b ∷ bytes)) ≡ Some n
        → (0 < n) × (n ≤ suc (length bytes))
    by_test within true found = within_one_more (head_end bytes) (length bytes) n within found
    by_test within false found = empty_end_within (b ∷ bytes) n found
