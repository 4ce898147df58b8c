-- A keeper in memory, as contracts see it.
use Rattle.std.specs.Prelude.{◌≡◌, ◌⊎◌, ℕ, ◌+◌, ◌-◌, ◌^◌, ◌==◌, min, if◌then◌else◌, List, Option, None, Some, option_map, Contains}
use Rattle.sg_base.specs.declared.key.Key.{Key}
use Rattle.sg_base.specs.Keys.{number_of}
use Rattle.sg_base.specs.Rising.{found}
use Rattle.sg_keeper.specs.View.{View}
use Rattle.sg_keeper.specs.declared.map.Entry.{Entry}
use Rattle.sg_keeper.specs.declared.map.MapKeeper.{MapKeeper}

abbrev pub entry_number : Entry → ℕ
entry_number e = number_of e.key

-- the entry as a page has it
abbrev pub pair_of : Entry → Key × List ℕ
pair_of e = (e.key, e.bytes)

-- the bytes of each row by the number of its key
abbrev pub rows_in : List Entry → ℕ → Option (List ℕ)
rows_in entries n = option_map (λ (e : Entry). e.bytes) (found entry_number n entries)

-- it tells its rows, and how many calls still pass
abbrev pub map_view : MapKeeper → View
map_view m = record {
  told = Unit {0};
  rows = rows_in m.entries.items;
  faults = m.faults;
  stop = m.stop;
}

-- the stop after a call: one that was reached is told no more
abbrev pub stop_after : Option ℕ → Option ℕ
stop_after None = None
stop_after (Some calls) = if calls == 0 then None else Some (calls - 1)

-- a call has begun
pub record HasBegun (old new : MapKeeper) : Type 0 where
  pub stop : new.stop ≡ stop_after old.stop
  pub begun : new.begun ≡ min (old.begun + 1) (2 ^ 64 - 1)
  pub failing : new.failing ≡ old.failing

-- the next call fails: the stop is reached, or its number is among those that are to fail
abbrev pub FailsNext : MapKeeper → Type 0
FailsNext m = (m.stop ≡ Some 0) ⊎ Contains m.failing.items m.begun
