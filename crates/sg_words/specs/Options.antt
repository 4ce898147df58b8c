-- The options of a command, and the words that give them values.
use Rattle.std.specs.Prelude.{ℕ, ◌==◌, ◌||◌, not, true, false, Bool, List, [], ◌∷◌, ◌++◌, Option, Some, None, if◌then◌else◌, map, codes, unwrap_or}
use Rattle.std.specs.List.{list_all, list_any, slice_get}
use Rattle.std.specs.Str.{bytes_eq}
use Rattle.std.specs.String.{string_bytes}
use Rattle.std.specs.declared.alloc.Global.{Global}
use Rattle.std.specs.declared.string.String.{String}
use Rattle.clap.specs.Words.{App, Kinds, Row, Rule, fault_of, matches_of, new_app, new_rule, with_rule}
use Rattle.clap.specs.Simple.{on_top}
use Rattle.clap.specs.declared.builder.action.ArgAction.TheVariants.{Set}

-- the words as texts
abbrev pub texts : List (String Global) → List (List ℕ)
texts words = map (λ w. string_bytes w) words

-- a word is an option: two dashes, and then its name
abbrev pub is_option : List ℕ → List ℕ → Bool
is_option word name = bytes_eq word (codes "--" ++ name)

-- a word that begins with a dash is, whole, one of the options
abbrev pub is_apart : List (List ℕ) → List (List ℕ) → List ℕ → Bool
is_apart required optional word =
    not (unwrap_or (slice_get word 0) 0 == 45) || (list_any (is_option word) required || list_any (is_option word) optional)

-- ---- as clap reads them

abbrev pub option_rule : List ℕ → Bool → Rule
option_rule name required = record (new_rule name) { long = Some name; action = Some Set; required = required }

-- a command without options, and without a help of its own, that reads all words
abbrev pub bare_app : App
bare_app = on_top (λ s. record s { no_binary_name = true; disable_help_flag = true; disable_version_flag = true }) (new_app (codes "signage"))

-- with an option more for each name
abbrev pub with_each : Bool → List (List ℕ) → App → App
with_each required [] app = app
with_each required (name ∷ names) app = with_each required names (with_rule app (option_rule name required))

abbrev pub app_with : List (List ℕ) → List (List ℕ) → App
app_with required optional = with_each false optional (with_each true required bare_app)

-- what clap finds where it has no fault
abbrev pub found_unless : Kinds → List Row → Option (List Row)
found_unless [] rows = Some rows
found_unless (k ∷ ks) rows = None

unfoldable pub found_in : App → List (List ℕ) → Option (List Row)
found_in app words = found_unless (fault_of app words) (matches_of app words)

-- What the words give to a command with these options: each at most once, in any order, the required ones there, a value after each
-- option, and no other word
unfoldable pub given : List (List ℕ) → List (List ℕ) → List (List ℕ) → Option (List Row)
given required optional words = if list_all (is_apart required optional) words then found_in (app_with required optional) words else None
