-- A local hour throughout which the same plays and interrupts are listed.
use Rattle.std.specs.Prelude.{◌≡◌, ℕ, zero, suc, ◌+◌, ◌*◌, ◌<◌, ◌==◌, if◌then◌else◌, List, ℤ, pos, ◌+ℤ◌}
use Rattle.sg_base.specs.declared.limits.TheConstants.{HOUR}
use Rattle.sg_voice.specs.declared.play.Play.{Play}
use Rattle.sg_voice.specs.declared.play.Interrupt.{Interrupt}
use Rattle.sg_manifest.specs.Snapshot.{SnapshotRow}
use Rattle.sg_resolver.specs.Lists.{normal_plays, interrupts}
use Rattle.sg_resolver.specs.Shown.{shown}

-- an hour begins at each local second that is a multiple of 3,600, below 0 too
pub record BeginsHour (begin : ℤ) : Type 0 where
  pub back : ℕ
  pub ahead : ℕ
  pub is : begin +ℤ pos (back * HOUR) ≡ pos (ahead * HOUR)

-- at each second of the hour the two lists are these
pub record IsSteady (s : SnapshotRow) (begin : ℤ) (ns : List Play) (is : List Interrupt) : Type 0 where
  pub hour : BeginsHour begin
  pub normal : (p : ℕ) → p < HOUR → normal_plays s (begin +ℤ pos p) ≡ ns
  pub shared : (p : ℕ) → p < HOUR → interrupts s (begin +ℤ pos p) ≡ is

-- at how many of m local seconds, from second p of the hour on, what is shown is the event's
abbrev pub shown_from : SnapshotRow → ℤ → ℕ → ℕ → ℕ → ℕ
shown_from s begin e zero p = 0
shown_from s begin e (suc m) p = (if (shown s (begin +ℤ pos p)).event == e then 1 else 0) + shown_from s begin e m (p + 1)

-- at how many local seconds of the hour the event is shown
unfoldable pub seconds_shown : SnapshotRow → ℤ → ℕ → ℕ
seconds_shown s begin e = shown_from s begin e HOUR 0
