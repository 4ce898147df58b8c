-- Which turns of a life sync.
use Rattle.std.specs.Prelude.{◌≡◌, ◌≢◌, ◌⊎◌, ℕ, ◌+◌, ◌*◌, ◌≤◌}

-- how many turns it is from one that syncs to the next, 0 where none does, and how many were made since the last one
pub record RoundsView : Type 0 where
  pub every : ℕ
  pub since : ℕ

-- The first turn syncs, and then each that comes so many turns later. By 0 none does.
abbrev pub IsSyncTurn : ℕ → ℕ → Type 0
IsSyncTurn every turn = (every ≢ 0) × ((rounds : ℕ) × (turn ≡ rounds * every + 1))

-- So many turns were made: none, or whole rounds and those since the last turn that synced, which is one of these.
abbrev pub HasTurned : RoundsView → ℕ → Type 0
HasTurned view turns =
    (view.every ≡ 0)
    ⊎ ((view.since ≡ view.every) × (turns ≡ 0))
    ⊎ ((rounds : ℕ) × (turns ≡ rounds * view.every + view.since) × (1 ≤ view.since))
