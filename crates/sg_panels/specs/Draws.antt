-- What is seen on a panel while a picture is drawn.
use Rattle.std.specs.Prelude.{◌≡◌, ℕ, Bool, true, false, List, [], ◌∷◌, ◌++◌, map, option_map, None, IsSomeAnd}
use Rattle.std.specs.declared.option.Option.{Option}
use Rattle.sg_base.specs.declared.ids.MediaId.{MediaId}
use Rattle.sg_devices.specs.declared.panel.Begun.{Begun}
use Rattle.sg_devices.specs.declared.panel.Shown.{Shown}
use Rattle.sg_devices.specs.Panels.{Face, PanelView}
use Rattle.sg_panels.specs.declared.draw.Drawn.{Drawn}
use Rattle.sg_panels.specs.declared.draw.Drawn.TheVariants.{Done, PanelFailed, DiskFailed}
use Rattle.sg_panels.specs.Reads.{Known}

-- an entry of a picture, a region and a medium, by the bytes of the media
abbrev pub shown_of : (ℕ → List ℕ) → ℕ × MediaId → Shown
shown_of bytes entry = record { region = entry.0; media = entry.1.0; bytes = bytes entry.1.0 }

-- exactly these are seen, and nothing is begun
abbrev pub showing : List Shown → PanelView → PanelView
showing shown v = record v {
  face = option_map (λ (f : Face). record { shown = shown; part = [] }) v.face;
  begun = None;
}

-- one medium more is seen, and nothing is begun
abbrev pub with_shown : Shown → PanelView → PanelView
with_shown more v = record v {
  face = option_map (λ (f : Face). record { shown = f.shown ++ more ∷ []; part = [] }) v.face;
  begun = None;
}

-- a medium of this length was begun, and nothing of it has come
abbrev pub IsBegun : ℕ → Option Begun → Type 0
IsBegun size begun = IsSomeAnd begun (λ (b : Begun). (b.length ≡ size) × (b.got ≡ 0))

-- It shows the picture and nothing else, with the bytes that are known of the media, and no call of it failed.
pub record Shows (known : Known) (picture : List (ℕ × MediaId)) (old new : PanelView) : Type 0 where
  pub shown : (bytes : ℕ → List ℕ) → known bytes → new ≡ showing (map (shown_of bytes) picture) old
  pub begun : new.begun ≡ None
  pub kept : new.faults ≡ old.faults

abbrev pub has_panel_failed : Drawn → Bool
has_panel_failed Done = false
has_panel_failed PanelFailed = true
has_panel_failed DiskFailed = false

abbrev pub has_disk_failed : Drawn → Bool
has_disk_failed Done = false
has_disk_failed PanelFailed = false
has_disk_failed DiskFailed = true
