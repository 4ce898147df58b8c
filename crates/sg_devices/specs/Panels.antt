-- What a panel shows, and what its calls do to that.
use Rattle.std.specs.Prelude.{◌≡◌, ℕ, ◌+◌, ◌≤◌, List, [], ◌∷◌, ◌++◌, length, option_map, None, Some, IsSomeAnd}
use Rattle.std.specs.declared.option.Option.{Option}
use Rattle.sg_devices.specs.declared.panel.Begun.{Begun}
use Rattle.sg_devices.specs.declared.panel.Shown.{Shown}

-- what is seen on a panel: the media that are shown whole, in the order in which they came, and how far the one that was
-- begun has come
pub record Face : Type 0 where
  pub shown : List Shown
  pub part : List ℕ

-- all that contracts see of a panel
pub record PanelView : Type 0 where
  -- what is seen on it, where it tells that
  pub face : Option Face
  -- the medium that was begun and hasn't ended, if there is one
  pub begun : Option Begun
  -- how often a call has failed; the count stays at the last value of a u64
  pub faults : ℕ

-- nothing is seen
abbrev pub blank : Face
blank = record { shown = []; part = [] }

-- a medium is begun
abbrev pub begun_by : ℕ → ℕ → ℕ → Begun
begun_by region media length = record { region = region; media = media; length = length; got = 0 }

-- so many bytes more belong to what was begun
abbrev pub HasRoom : Option Begun → ℕ → Type 0
HasRoom begun count = IsSomeAnd begun (λ (b : Begun). b.got + count ≤ b.length)

-- all bytes of what was begun have come
abbrev pub IsWhole : Option Begun → Type 0
IsWhole begun = IsSomeAnd begun (λ (b : Begun). b.got ≡ b.length)

-- so many bytes more of it came
abbrev pub with_more : ℕ → Begun → Begun
with_more count b = record b { got = b.got + count }

-- nothing is seen, and nothing is begun
abbrev pub cleared : PanelView → PanelView
cleared v = record v { face = option_map (λ _. blank) v.face; begun = None }

-- a medium of this length was begun in a region
abbrev pub opened : ℕ → ℕ → ℕ → PanelView → PanelView
opened region media length v = record v {
  face = option_map (λ (f : Face). record f { part = [] }) v.face;
  begun = Some (begun_by region media length);
}

-- more bytes of it came
abbrev pub extended : List ℕ → PanelView → PanelView
extended bytes v = record v {
  face = option_map (λ (f : Face). record f { part = f.part ++ bytes }) v.face;
  begun = option_map (with_more (length bytes)) v.begun;
}

-- it is shown whole, after what is shown
abbrev pub shown_more : Option Begun → Face → Face
shown_more None f = f
shown_more (Some b) f = record {
  shown = f.shown ++ record { region = b.region; media = b.media; bytes = f.part } ∷ [];
  part = [];
}

abbrev pub closed : PanelView → PanelView
closed v = record v { face = option_map (shown_more v.begun) v.face; begun = None }
