-- What one call does to the bytes that a source has left, and to those that a sink has got.
-- `None` in place of the bytes claims nothing: the object doesn't tell them.
use Rattle.std.specs.Prelude.{◌≡◌, ℕ, ◌<◌, ◌≤◌, List, ◌++◌, length, take, Result, MatchResult}
use Rattle.std.specs.declared.option.Option.{Option}
use Rattle.std.specs.Io.KnownBytes.{Appends, Consumes, IsAtEnd, Keeps}

-- the other end of the object: its bytes and its count of faults are as they were
pub record IsApart (old new : Option (List ℕ)) (before now : ℕ) : Type 0 where
  pub bytes : new ≡ old
  pub faults : now ≡ before

-- A take that answers n gives the next n bytes, at the front of the buffer, and n = 0 for a buffer with room is the end.
-- One that fails takes nothing.
abbrev pub Takes : {E : Type 0} → Option (List ℕ) → Option (List ℕ) → Result ℕ E → List ℕ → Type 0
Takes old new r into = MatchResult r
    (λ n. (n ≤ length into) × Consumes old new (take n into) × (n ≡ 0 → 0 < length into → IsAtEnd new))
    (λ _. Keeps old new)

-- A put that answers n appends the first n bytes, of which there is one at least where there is one to put.
-- One that fails appends nothing.
abbrev pub Puts : {E : Type 0} → Option (List ℕ) → Option (List ℕ) → Result ℕ E → List ℕ → Type 0
Puts old new r bytes = MatchResult r
    (λ n. (n ≤ length bytes) × (0 < length bytes → 0 < n) × Appends old new (take n bytes))
    (λ _. Keeps old new)

-- the front of the bytes was appended, all of it or less, and nothing else
pub record AppendsPart (old new : Option (List ℕ)) (bytes : List ℕ) : Type 0 where
  pub part : List ℕ
  pub rest : List ℕ
  pub split : bytes ≡ part ++ rest
  pub put : Appends old new part
