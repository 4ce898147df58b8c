-- Where a number stands among numbers.
use Rattle.std.specs.Prelude.{◌≡◌, ℕ, ◌<◌, List, length, slice_index, Option, Some, None, Contains}

-- a number stands at an index among numbers, or isn't among them
abbrev pub IsIndexOf : List ℕ → ℕ → Option ℕ → Type 0
IsIndexOf numbers number (Some index) = (index < length numbers) × (slice_index numbers index ≡ number)
IsIndexOf numbers number None = Contains numbers number → ⊥
