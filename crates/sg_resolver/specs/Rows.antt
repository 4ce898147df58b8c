-- The rows that others name.
use Rattle.std.specs.Prelude.{ℕ, ◌==◌, List, [], ◌∷◌, Option, None, find}
use Rattle.std.specs.Option.{option_map_or}
use Rattle.sg_base.specs.declared.ids.LayoutId.{LayoutId}
use Rattle.sg_base.specs.declared.layout.Region.{Region}
use Rattle.sg_base.specs.declared.event.When.{When}
use Rattle.sg_base.specs.declared.event.When.TheVariants.{Always, Custom, Named}
use Rattle.sg_base.specs.declared.event.Target.{Target}
use Rattle.sg_base.specs.declared.event.Target.TheVariants.{Layout, Campaign}
use Rattle.sg_base.specs.Daypart.{DaypartRow}
use Rattle.sg_manifest.specs.Snapshot.{SnapshotRow}

-- the regions of the layout with this id
abbrev pub regions_of : SnapshotRow → ℕ → List Region
regions_of s id = option_map_or (λ l. l.regions) (find (λ l. l.id.0 == id) s.layouts) []

-- the layouts of the campaign with this id, in its order
abbrev pub layouts_of : SnapshotRow → ℕ → List LayoutId
layouts_of s id = option_map_or (λ c. c.layouts) (find (λ c. c.id.0 == id) s.campaigns) []

-- what a target shows, in order
abbrev pub shown_by : SnapshotRow → Target → List LayoutId
shown_by s (Layout id) = id ∷ []
shown_by s (Campaign id) = layouts_of s id.0

-- the daypart that an event names
abbrev pub daypart_of : SnapshotRow → When → Option DaypartRow
daypart_of s Always = None
daypart_of s (Custom from to) = None
daypart_of s (Named daypart date) = find (λ d. d.id.0 == daypart.0) s.dayparts
