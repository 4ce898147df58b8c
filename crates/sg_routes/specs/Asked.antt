-- What a message asks for, by its method and its target.
use Rattle.std.specs.Prelude.{ℕ, ◌^◌, ◌<◌, ◌≤◌, ◌-◌, ◌==◌, ◌&&◌, ◌||◌, nat_le, not, Bool, true, false, if◌then◌else◌, List, ◌++◌, length, codes, slice_index, decimal, Option, None, Some, option_map, option_and_then, Result, Err}
use Rattle.std.specs.List.{list_any}
use Rattle.std.specs.Option.{ok_or}
use Rattle.std.specs.Str.Parse.{digits_value}
use Rattle.sg_base.specs.declared.limits.TheConstants.{LAST_MOMENT}
use Rattle.sg_http.specs.declared.message.Verb.{Verb}
use Rattle.sg_http.specs.declared.message.Verb.TheVariants.{Get, Post, Put, Other}
use Rattle.sg_http.specs.Fields.{is_number}
use Rattle.sg_routes.specs.declared.asked.Asked.{Asked}
use Rattle.sg_routes.specs.declared.asked.Asked.TheVariants as asked
use Rattle.sg_routes.specs.declared.asked.RouteFault.{RouteFault}
use Rattle.sg_routes.specs.declared.asked.RouteFault.TheVariants.{Path, Method}
use Rattle.sg_routes.specs.declared.route.Route.{Route}
use Rattle.sg_routes.specs.declared.route.Route.TheVariants.{Edits, Media, Report, Enrol, Manifest, File, Plays}
use Rattle.sg_routes.specs.Paths.{route_of, segment, segments, verb_for}

-- ---- parameters

-- digits alone, without leading zeros
abbrev pub is_decimal : List ℕ → Bool
is_decimal text = is_number text && (nat_le (length text) 1 || not (slice_index text 0 == 48))

-- the decimal number of this range that a text is
abbrev pub decimal_in : ℕ → ℕ → List ℕ → Option ℕ
decimal_in low high text =
    if is_decimal text && (nat_le low (digits_value 10 text) && nat_le (digits_value 10 text) high) then Some (digits_value 10 text) else None

abbrev pub id_at : ℕ → List (List ℕ) → Option ℕ
id_at index target = decimal_in 1 (2 ^ 32 - 1) (segment index target)

abbrev pub offset_at : ℕ → List (List ℕ) → Option ℕ
offset_at index target = decimal_in 0 (2 ^ 32 - 1) (segment index target)

abbrev pub moment_at : ℕ → List (List ℕ) → Option ℕ
moment_at index target = decimal_in 0 LAST_MOMENT (segment index target)

-- what a path of a route asks for, by its segments; nothing where a parameter is no number of its range
abbrev pub asked_at : Route → List (List ℕ) → Option Asked
asked_at Edits target = Some asked.Edits
asked_at Media target =
    option_and_then (λ media. option_map (λ offset. asked.Piece (record { 0 = media }) offset) (offset_at 3 target)) (id_at 2 target)
asked_at Report target =
    option_and_then (λ from. option_map (λ to. asked.Report from to) (moment_at 4 target)) (moment_at 3 target)
asked_at Enrol target = option_map (λ display. asked.Enrol (record { 0 = display })) (id_at 2 target)
asked_at Manifest target = option_map (λ display. asked.Manifest (record { 0 = display })) (id_at 2 target)
asked_at File target =
    option_and_then (λ display. option_and_then (λ media. option_map (λ offset. asked.File (record { 0 = display }) (record { 0 = media }) offset) (offset_at 5 target)) (id_at 4 target)) (id_at 2 target)
asked_at Plays target = option_map (λ display. asked.Plays (record { 0 = display })) (id_at 2 target)

-- ---- methods

abbrev pub is_verb : Verb → Verb → Bool
is_verb Get Get = true
is_verb Post Post = true
is_verb Put Put = true
is_verb Other Other = true
is_verb _ _ = false

-- ---- a message

abbrev pub ask_route : Verb → List (List ℕ) → Option Route → Result Asked RouteFault
ask_route verb target None = Err Path
ask_route verb target (Some route) =
    if is_verb (verb_for route) verb then ok_or (asked_at route target) Path else Err (Method (verb_for route))

-- What a method and a target ask for. First the path has to be there, then its method has to be the one that it takes, and
-- then its parameters have to be numbers. A target with a question mark is no path.
abbrev pub ask : Verb → List ℕ → Result Asked RouteFault
ask verb target = if list_any (λ b. b == 63) target then Err Path else ask_route verb (segments target) (route_of (segments target))

-- ---- written paths

-- the route of what is asked for
abbrev pub route_for : Asked → Route
route_for asked.Edits = Edits
route_for (asked.Piece media offset) = Media
route_for (asked.Report from to) = Report
route_for (asked.Enrol display) = Enrol
route_for (asked.Manifest display) = Manifest
route_for (asked.File display media offset) = File
route_for (asked.Plays display) = Plays

-- the path that asks for it
abbrev pub path_of : Asked → List ℕ
path_of asked.Edits = codes "/edits"
path_of (asked.Piece media offset) = codes "/media/" ++ (decimal media.0 ++ (codes "/" ++ decimal offset))
path_of (asked.Report from to) = codes "/reports/plays/" ++ (decimal from ++ (codes "/" ++ decimal to))
path_of (asked.Enrol display) = codes "/displays/" ++ (decimal display.0 ++ codes "/enrol")
path_of (asked.Manifest display) = codes "/displays/" ++ (decimal display.0 ++ codes "/manifest")
path_of (asked.File display media offset) =
    codes "/displays/" ++ (decimal display.0 ++ (codes "/files/" ++ (decimal media.0 ++ (codes "/" ++ decimal offset))))
path_of (asked.Plays display) = codes "/displays/" ++ (decimal display.0 ++ codes "/plays")

abbrev pub IsId : ℕ → Type 0
IsId n = (1 ≤ n) × (n < 2 ^ 32)

-- its numbers are in their ranges
abbrev pub IsAskable : Asked → Type 0
IsAskable asked.Edits = Unit {0}
IsAskable (asked.Piece media offset) = IsId media.0 × (offset < 2 ^ 32)
IsAskable (asked.Report from to) = (from ≤ LAST_MOMENT) × (to ≤ LAST_MOMENT)
IsAskable (asked.Enrol display) = IsId display.0
IsAskable (asked.Manifest display) = IsId display.0
IsAskable (asked.File display media offset) = IsId display.0 × IsId media.0 × (offset < 2 ^ 32)
IsAskable (asked.Plays display) = IsId display.0
