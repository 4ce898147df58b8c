-- What the versions in memory are seen as.
use Rattle.std.specs.Prelude.{ℕ, List, Bool, if◌then◌else◌, None, Some}
use Rattle.std.specs.declared.option.Option.{Option}
use Rattle.sg_outside.specs.Memory.{CallCount}
use Rattle.sg_devices.specs.declared.link.Exchange.{Exchange}
use Rattle.sg_devices.specs.declared.panel.Begun.{Begun}
use Rattle.sg_devices.specs.Panels.{Face, PanelView}

-- a clock in memory: the moments to come
pub record ClockInMemory : Type 0 where
  pub coming : List ℕ
  pub calls : CallCount

-- a link in memory: the answers to come, the exchanges so far, and whether memory for these ran out
pub record LinkInMemory : Type 0 where
  pub answers : List (List ℕ)
  pub told : List Exchange
  pub lost : Bool
  pub calls : CallCount

-- it tells its exchanges until memory for them runs out
abbrev pub told_by : LinkInMemory → Option (List Exchange)
told_by link = if link.lost then None else Some link.told

-- a panel in memory
pub record PanelInMemory : Type 0 where
  pub face : Face
  pub begun : Option Begun
  pub calls : CallCount

-- it tells what is seen on it
abbrev pub panel_view : PanelInMemory → PanelView
panel_view p = record { face = Some p.face; begun = p.begun; faults = p.calls.faults }
