-- The timeline: one line for each moment, by the picture of a snapshot and its overlays.
use Rattle.std.specs.Prelude.{ℕ, List, ℤ, option_map}
use Rattle.std.specs.List.{flat_map}
use Rattle.sg_line.specs.declared.shown.Shown.{Shown}
use Rattle.sg_line.specs.Lines.{line_text}
use Rattle.sg_manifest.specs.Snapshot.{SnapshotRow}
use Rattle.sg_overlay.specs.Over.{over}
use Rattle.sg_resolver.specs.declared.show.Show.{Show}
use Rattle.sg_resolver.specs.Shown.{local_of, shown, picture_of}

-- a show with its picture
abbrev pub pictured : SnapshotRow → Show → Shown
pictured s show = record { show = show; picture = picture_of s show }

-- the line of a moment at a local second
abbrev pub line_by : SnapshotRow → ℕ → ℤ → List ℕ
line_by s moment t = line_text moment (pictured s (shown s t)) (option_map (pictured s) (over s t))

-- the line of a moment
unfoldable pub line_at : SnapshotRow → ℕ → List ℕ
line_at s moment = line_by s moment (local_of s moment)

-- one line for each moment, in the moments' order
abbrev pub lines_of : SnapshotRow → List ℕ → List ℕ
lines_of s moments = flat_map (line_at s) moments
