-- A keeper that tells its count of faults, and nothing of its rows.
use Rattle.std.specs.Prelude.{None}
use Rattle.sg_keeper.specs.View.{View}
use Rattle.sg_keeper_sqlite.specs.declared.keeper.SqliteKeeper.{SqliteKeeper}

-- a keeper over a file
abbrev pub file_view : SqliteKeeper → View
file_view keeper = record { told = ⊥; rows = λ n. None; faults = keeper.faults; stop = None }
