-- Local seconds that may be asked about.
use Rattle.std.specs.Prelude.{ℤ, ◌≤ℤ◌, ◌<ℤ◌}
use Rattle.sg_base.specs.declared.limits.TheConstants.{FIRST_LOCAL, LOCAL_END}

-- those of the moments of every zone, and the days round them in which a window may be open
pub record IsAskable (t : ℤ) : Type 0 where
  pub low : FIRST_LOCAL ≤ℤ t
  pub high : t <ℤ LOCAL_END
