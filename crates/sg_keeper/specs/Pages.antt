-- Pages of rows: some of a kind, by key.
use Rattle.std.specs.Prelude.{◌≡◌, ◌⊎◌, ℕ, ◌+◌, ◌<◌, ◌≤◌, List, Option, None, Some, length, option_map}
use Rattle.std.specs.List.{AllByRecursion}
use Rattle.sg_base.specs.declared.key.Key.{Key}
use Rattle.sg_base.specs.Keys.{number, number_of}
use Rattle.sg_base.specs.Rising.{IsRising, found}

-- the least number of a kind's keys, or the least above that of one of them
abbrev pub start_of : ℕ → Option (ℕ × ℕ) → ℕ
start_of kind None = number kind 0 0
start_of kind (Some after) = number kind after.0 after.1 + 1

-- the least number above those of a kind's keys
abbrev pub end_of : ℕ → ℕ
end_of kind = number (kind + 1) 0 0

-- the number of the key of a page's row
abbrev pub number_at : Key × List ℕ → ℕ
number_at row = number_of row.0

-- the page has what the rows have at each number from `start` to before `end`; or it is full, and the number comes
-- after all that it has
pub record IsPage (start end limit : ℕ) (rows : ℕ → Option (List ℕ)) (page : List (Key × List ℕ)) : Type 0 where
  pub exact : (n : ℕ) → start ≤ n → n < end →
      (option_map (λ row. row.1) (found number_at n page) ≡ rows n)
      ⊎ ((length page ≡ limit) × AllByRecursion (λ row. number_at row < n) page)

-- the form of a page, which a keeper that doesn't tell its rows promises too
pub record HasPageForm (start end limit : ℕ) (page : List (Key × List ℕ)) : Type 0 where
  pub few : length page ≤ limit
  pub rising : IsRising number_at page
  pub within : AllByRecursion (λ row. (start ≤ number_at row) × (number_at row < end)) page
