-- A disk as contracts see it, and what each call does to it.
use Rattle.std.specs.Prelude.{◌≡◌, ◌⊎◌, ℕ, ◌+◌, ◌≤◌, min, List, ◌++◌, length, take, drop, Option}
use Rattle.sg_base.specs.Causes.{Rose}
use Rattle.sg_base.specs.Stops.{Lowers, Falls, LowersByOne}

-- All that a contract can say of a disk. The last four fields are laws that every disk keeps
pub record View : Type 1 where
  -- the length, which every disk tells
  pub size : ℕ
  -- whether the disk tells what a read gives: a memory disk does, a real one can't
  pub told : Type 0
  -- what a read gives, where that is told
  pub bytes : List ℕ
  -- what a crash now may leave
  pub images : List ℕ → Type 0
  -- the time, as a number that doesn't fall
  pub moment : ℕ
  -- what a crash at some moment from that one on may have left
  pub since : ℕ → List ℕ → Type 0
  -- how often a call has failed
  pub faults : ℕ
  -- how many calls still pass, where that is told
  pub stop : Option ℕ
  pub sized : told → length bytes ≡ size
  -- a disk as it reads is one of its images
  pub reads : told → images bytes
  -- this moment is one of those since an earlier one
  pub counts_now : (t : ℕ) (c : List ℕ) → t ≤ moment → images c → since t c
  -- since this moment there is no other
  pub only_now : (c : List ℕ) → since moment c → images c

-- the n bytes at a place
unfoldable pub range : List ℕ → ℕ → ℕ → List ℕ
range c place n = take n (drop place c)

-- old with these bytes at a place
unfoldable pub put : List ℕ → ℕ → List ℕ → List ℕ
put old place written = take place old ++ (written ++ drop (place + length written) old)

-- any n bytes at a place, and the same elsewhere
pub record Torn (place n : ℕ) (old new : List ℕ) : Type 0 where
  pub same_length : length new ≡ length old
  pub before : take place new ≡ take place old
  pub after : drop (place + n) new ≡ drop (place + n) old

-- the length n, with the front as it was and anything behind the old end
pub record Sized (n : ℕ) (old new : List ℕ) : Type 0 where
  pub is_long : length new ≡ n
  pub front : take (min n (length old)) new ≡ take (min n (length old)) old

-- the old length or the new one
abbrev pub Resized : ℕ → List ℕ → List ℕ → Type 0
Resized n old new = (new ≡ old) ⊎ Sized n old new

abbrev pub Same : List ℕ → List ℕ → Type 0
Same old new = new ≡ old

abbrev pub Written : ℕ → List ℕ → List ℕ → List ℕ → Type 0
Written place written old new = new ≡ put old place written

-- each image now is an image of before after a step
abbrev pub Follows : (List ℕ → List ℕ → Type 0) → View → View → Type 0
Follows step old new = (c : List ℕ) → new.images c → (d : List ℕ) × old.images d × step d c

-- Time goes on. A crash since t left what it left before, or what it may leave now
pub record Elapses (old new : View) : Type 0 where
  pub later : old.moment ≤ new.moment
  pub nothing_else : (t : ℕ) (c : List ℕ) → t ≤ old.moment → new.since t c
      → old.since t c ⊎ new.images c
  pub keeps : (t : ℕ) (c : List ℕ) → t ≤ old.moment → old.since t c → new.since t c

-- One call that passed. What a read gives went one exact step, and each image a torn one.
-- At a stop of 0 no call passes
pub record Passed (exact torn : List ℕ → List ℕ → Type 0) (old new : View) : Type 0 where
  pub told : old.told → new.told
  pub bytes : old.told → exact old.bytes new.bytes
  pub images : Follows torn old new
  pub time : Elapses old new
  pub faults : new.faults ≡ old.faults
  pub stop : Lowers 1 old.stop new.stop
  pub by_one : LowersByOne old.stop new.stop

-- One call that failed. Each image is one of the call's start, or has gone the torn step too
pub record Failed (torn : List ℕ → List ℕ → Type 0) (old new : View) : Type 0 where
  pub told : old.told → new.told
  pub bytes : old.told → torn old.bytes new.bytes
  pub images : Follows torn old new
  pub time : Elapses old new
  pub faults : Rose old.faults new.faults
  pub stop : Falls old.stop new.stop
  pub by_one : LowersByOne old.stop new.stop

-- a crash leaves these bytes, and nothing else
abbrev pub Only : List ℕ → View → Type 0
Only b v = (c : List ℕ) → v.images c → c ≡ b
