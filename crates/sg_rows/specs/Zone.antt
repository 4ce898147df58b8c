-- Which zone rules a manifest may have.
use Rattle.std.specs.Prelude.{ℕ, ◌≤◌, List, ℤ, neg_ℤ, ◌≤ℤ◌, IsOk}
use Rattle.std.specs.List.{AllByRecursion}
use Rattle.sg_base.specs.declared.limits.TheConstants.{MAX_OFFSET}
use Rattle.sg_base.specs.declared.zone.ZoneRule.{ZoneRule}
use Rattle.sg_calendar.specs.Zone.{zone_of}

-- a rule that tells a zone: an offset within the limit, or a POSIX TZ text that is read
abbrev pub IsZone : ZoneRule → Type 0
IsZone rule = IsOk (zone_of rule)

-- for private clauses: minutes within the limit
pub record IsMinutes (z : ℤ) : Type 0 where
  pub low : neg_ℤ MAX_OFFSET ≤ℤ z
  pub high : z ≤ℤ MAX_OFFSET

-- for private clauses: no byte is below the first printable one, the blank
abbrev pub ArePrintable : List ℕ → Type 0
ArePrintable text = AllByRecursion (λ b. 32 ≤ b) text
