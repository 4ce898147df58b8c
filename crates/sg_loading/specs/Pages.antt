-- Rows that are loaded page by page.
use Rattle.std.specs.Prelude.{◌≡◌, ℕ, suc, ◌+◌, ◌-◌, ◌<◌, ◌≤◌, List, Option, None, Some, option_map}
use Rattle.std.specs.List.{AllByRecursion}
use Rattle.sg_base.specs.declared.key.Key.{Key}
use Rattle.sg_base.specs.Rising.{IsRising, found}
use Rattle.sg_keeper.specs.Pages.{IsPage, end_of, number_at, start_of}
use Rattle.sg_loading.specs.Loading.{rows_below}
use Rattle.sg_steps.specs.State.{AreRows, Core}

-- the keeper's rows from one number to before another are those of the list, by key
pub record AreNext (kept : ℕ → Option (List ℕ)) (start end : ℕ) (page : List (Key × List ℕ)) : Type 0 where
  pub ordered : start ≤ end
  pub exact : (n : ℕ) → start ≤ n → n < end → kept n ≡ option_map (λ row. row.1) (found number_at n page)
  pub within : AllByRecursion (λ row. (start ≤ number_at row) × (number_at row < end)) page
  pub rising : IsRising number_at page

-- the number up to which the rows of a kind were read: of all of them, or up to a key
abbrev pub reached : ℕ → Option (ℕ × ℕ) → ℕ
reached kind None = end_of kind
reached kind (Some key) = start_of kind (Some key)

-- how much of a kind is left to be read
abbrev pub left : ℕ → Option (ℕ × ℕ) → ℕ
left kind None = 0
left kind (Some key) = suc (end_of kind - start_of kind (Some key))

-- a page of a kind, read from a number on, tells the keeper's rows as far as it reached, and less is left after it
pub record Continues (kind start size : ℕ) (page : List (Key × List ℕ)) (next : Option (ℕ × ℕ)) : Type 0 where
  pub left : left kind next ≤ end_of kind - start
  pub within : reached kind next ≤ end_of kind
  pub rows : (kept : ℕ → Option (List ℕ)) → IsPage start (end_of kind) size kept page
      → AreNext kept start (reached kind next) page

-- a server that stands for the rows below some number, and the rows that come next
pub record GoesOn (kept : ℕ → Option (List ℕ)) (end : ℕ) (core : Core) (rest : List (Key × List ℕ)) : Type 0 where
  pub start : ℕ
  pub next : AreNext kept start end rest
  pub loaded : AreRows core (rows_below start kept)
