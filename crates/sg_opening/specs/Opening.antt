-- A server that a command opens, and why it may not be opened.
use Rattle.std.specs.Prelude.{◌≡◌, ℕ, List, Option}
use Rattle.sg_base.specs.declared.limits.TheConstants.{PLAYS_LIMIT}
use Rattle.sg_base.specs.Keys.{number_of}
use Rattle.sg_endings.specs.declared.stop.Stop.{Stop}
use Rattle.sg_endings.specs.declared.stop.Stop.TheVariants as stop
use Rattle.sg_keeper.specs.View.{Broke, Ran, View}
use Rattle.sg_loading.specs.declared.fault.LoadFault.{LoadFault}
use Rattle.sg_loading.specs.declared.fault.LoadFault.TheVariants as fault
use Rattle.sg_loading.specs.Loading.{HasKinds, IsFirstBad, IsLawful}
use Rattle.sg_steps.specs.State.{AreRows, Core}

-- what a keeper's rows are, where it tells them and none has a kind below the first
abbrev pub IfTold : View → ((ℕ → Option (List ℕ)) → Type 0) → Type 0
IfTold v P = v.told → HasKinds v.rows → P v.rows

-- the rows of a keeper stand for this server
pub record IsOpened (v : View) (core : Core) : Type 0 where
  pub limited : core.limit ≡ PLAYS_LIMIT
  pub lawful : IsLawful core
  pub rows : IfTold v (AreRows core)

-- why no server is opened: the keeper failed, memory ran out, or this row is the first one by key that may not be kept
abbrev pub IsUnopened : View → View → Stop → Type 0
IsUnopened old new stop.Keeper = Broke old new
IsUnopened old new stop.Memory = Ran 0 old new
IsUnopened old new (stop.BadRow key) = IfTold old (λ kept. IsFirstBad PLAYS_LIMIT kept (number_of key)) × Ran 0 old new
IsUnopened old new (stop.Line number) = ⊥
IsUnopened old new stop.TooLong = ⊥
IsUnopened old new stop.Read = ⊥

-- for a private clause: how a command ends by what kept it from loading a server
abbrev pub stop_of : LoadFault → Stop
stop_of fault.Keeper = stop.Keeper
stop_of (fault.BadRow key) = stop.BadRow key
stop_of fault.Memory = stop.Memory
