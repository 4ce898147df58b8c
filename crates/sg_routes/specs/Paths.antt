-- Paths, by segments. A path's segments are what stands between its slashes (RFC 3986).
use Rattle.std.specs.Prelude.{ℕ, ◌==◌, ◌&&◌, nat_lt, Bool, true, false, if◌then◌else◌, List, [], ◌∷◌, length, codes, bytes_eq, slice_index_or, Option}
use Rattle.std.specs.List.{find, slice_split}
use Rattle.sg_http.specs.declared.message.Verb.{Verb}
use Rattle.sg_http.specs.declared.message.Verb.TheVariants.{Get, Post, Put}
use Rattle.sg_routes.specs.declared.route.Route.{Route}
use Rattle.sg_routes.specs.declared.route.Route.TheVariants.{Edits, Media, Report, Enrol, Manifest, File, Plays}

abbrev pub is_slash : ℕ → Bool
is_slash b = b == 47

-- the first stands before the first slash, so it is empty in a path that begins with one
abbrev pub segments : List ℕ → List (List ℕ)
segments path = slice_split is_slash path

-- one of some segments, counted from 0; an empty one where there are fewer
abbrev pub segment : ℕ → List (List ℕ) → List ℕ
segment index path = slice_index_or path index []

-- a segment is the word of a pattern, or any but an empty one for a parameter
abbrev pub fits_one : List ℕ → List ℕ → Bool
fits_one pattern segment = if bytes_eq pattern (codes "{}") then nat_lt 0 (length segment) else bytes_eq segment pattern

-- the segments of a path are as those of a pattern say
abbrev pub fits : List (List ℕ) → List (List ℕ) → Bool
fits [] [] = true
fits [] (s ∷ ss) = false
fits (p ∷ ps) [] = false
fits (p ∷ ps) (s ∷ ss) = fits_one p s && fits ps ss

-- ---- the routes

-- the pattern of a path, in which {} is a parameter
abbrev pub pattern_of : Route → List ℕ
pattern_of Edits = codes "/edits"
pattern_of Media = codes "/media/{}/{}"
pattern_of Report = codes "/reports/plays/{}/{}"
pattern_of Enrol = codes "/displays/{}/enrol"
pattern_of Manifest = codes "/displays/{}/manifest"
pattern_of File = codes "/displays/{}/files/{}/{}"
pattern_of Plays = codes "/displays/{}/plays"

-- the one method that a route takes
abbrev pub verb_for : Route → Verb
verb_for Edits = Post
verb_for Media = Put
verb_for Report = Get
verb_for Enrol = Post
verb_for Manifest = Get
verb_for File = Get
verb_for Plays = Post

abbrev pub routes : List Route
routes = Edits ∷ Media ∷ Report ∷ Enrol ∷ Manifest ∷ File ∷ Plays ∷ []

-- the route whose pattern the segments of a target fit
abbrev pub route_of : List (List ℕ) → Option Route
route_of target = find (λ route. fits (segments (pattern_of route)) target) routes
