-- What the versions in memory are seen as.
use Rattle.std.specs.Prelude.{ℕ, List, [], Bool, Contains, if◌then◌else◌}
use Rattle.sg_base.specs.Causes.{next_count}

-- the calls of an object in memory: how many were made, the numbers of those that are to fail, and the faults so far
pub record CallCount : Type 0 where
  pub made : ℕ
  pub failing : List ℕ
  pub faults : ℕ

-- no call made, and none that is to fail
abbrev pub no_calls : CallCount
no_calls = record { made = 0; failing = []; faults = 0 }

-- the next call is one of those that are to fail; the first call has the number 1
abbrev pub NextFails : CallCount → Type 0
NextFails calls = Contains calls.failing (next_count calls.made)

-- the count after one more call, which failed or not
abbrev pub after_call : CallCount → Bool → CallCount
after_call calls failed = record {
  made = next_count calls.made;
  failing = calls.failing;
  faults = (if failed then next_count calls.faults else calls.faults);
}

-- a source in memory: the bytes left, and the most that one call gives
pub record SourceInMemory : Type 0 where
  pub left : List ℕ
  pub limit : ℕ
  pub calls : CallCount

-- a sink in memory: the bytes written, and the most that one call takes
pub record SinkInMemory : Type 0 where
  pub written : List ℕ
  pub limit : ℕ
  pub calls : CallCount

-- a connection in memory: what its client sends, and what its client gets
pub record ConnInMemory : Type 0 where
  pub incoming : SourceInMemory
  pub outgoing : SinkInMemory

-- a door in memory: the connections to come, those that were handed back, and whether it said that no more come
pub record DoorInMemory : Type 0 where
  pub coming : List ConnInMemory
  pub back : List ConnInMemory
  pub ended : Bool
  pub calls : CallCount
