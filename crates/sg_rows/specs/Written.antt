-- The compact text of JSON (RFC 8259, with no space) in front of what comes after it, and what takes such texts.
use Rattle.std.specs.Prelude.{◌≡◌, ℕ, ◌-◌, ◌/◌, ◌%◌, ◌^◌, ◌==◌, if◌then◌else◌, List, ◌∷◌, ◌++◌, Bool, true, false}
use Rattle.json.specs.Token.{Token}
use Rattle.json.specs.Print.{quoted, token_text}
use Rattle.serde_json.specs.Data.{Data, null, boolean, number, string, array, object, unsigned, Items, no_items, item, Members, no_members, member}
use Rattle.serde_json.specs.Written.{number_text, comma_if}

-- the compact text of a value, then the rest
abbrev mutual
  pub text_before : Data → List ℕ → List ℕ
  text_before null rest = token_text Token.null ++ rest
  text_before (boolean b) rest = token_text (Token.boolean b) ++ rest
  text_before (number n) rest = number_text n ++ rest
  text_before (string s) rest = quoted s ++ rest
  text_before (array ds) rest = 91 ∷ items_before false ds rest
  text_before (object ms) rest = 123 ∷ members_before false ms rest

  -- with the closing bracket
  pub items_before : Bool → Items → List ℕ → List ℕ
  items_before later no_items rest = 93 ∷ rest
  items_before later (item d ds) rest = comma_if later ++ text_before d (items_before true ds rest)

  pub members_before : Bool → Members → List ℕ → List ℕ
  members_before later no_members rest = 125 ∷ rest
  members_before later (member k d ms) rest = comma_if later ++ (quoted k ++ 58 ∷ text_before d (members_before true ms rest))

-- what takes texts took one more: whatever comes after it, the text came before
abbrev pub Takes : {T : Type 0} → (T → List ℕ → T) → T → T → (List ℕ → List ℕ) → Type 0
Takes after old new before = (rest : List ℕ) → after new rest ≡ after old (before rest)

-- for private clauses: a weekday in front of others, where bits have it
abbrev pub with_chosen : ℕ → ℕ → Items → Items
with_chosen days w ds = if days / 2 ^ (w - 1) % 2 == 1 then item (number (unsigned w)) ds else ds
