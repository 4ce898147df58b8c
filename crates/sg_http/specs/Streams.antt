-- The messages of a whole stream.
use Rattle.std.specs.Prelude.{◌≡◌, ℕ, ◌≤◌, true, List, [], ◌∷◌, length, drop}
use Rattle.sg_http.specs.Messages.{Request, Whole, Opens}

-- The stream is these messages in a row, and then the rest. One that asks to close is the last.
abbrev pub Messages : List ℕ → List Request → List ℕ → Type 0
Messages stream [] rest = stream ≡ rest
Messages stream (m ∷ ms) rest =
    (used : ℕ) × Opens stream (Whole m used) × (used ≤ length stream) × (m.close ≡ true → ms ≡ [])
    × Messages (drop used stream) ms rest
