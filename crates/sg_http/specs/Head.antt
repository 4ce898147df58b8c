-- Where the head of a message ends. The rule is this project's own; it asks nothing else of the head.
use Rattle.std.specs.Prelude.{ℕ, ◌+◌, ◌==◌, Bool, ◌&&◌, ◌||◌, List, [], ◌∷◌, slice_index, if◌then◌else◌, Option, Some, None, option_map}
use Rattle.httparse.specs.Ascii.{line_feed, carriage_return}

-- CR or LF
abbrev pub is_newline : ℕ → Bool
is_newline b = b == carriage_return || b == line_feed

-- LF LF; the later byte is tested first, so that the test computes on lists that are too short
abbrev pub begins_short_line : List ℕ → Bool
begins_short_line bytes = slice_index bytes 1 == line_feed && slice_index bytes 0 == line_feed

-- LF CR LF
abbrev pub begins_long_line : List ℕ → Bool
begins_long_line bytes = slice_index bytes 2 == line_feed
    && (slice_index bytes 1 == carriage_return && slice_index bytes 0 == line_feed)

-- How many bytes there are up to the end of the first empty line. An empty line is a LF that is followed by LF, or by
-- CR and LF.
abbrev pub empty_end : List ℕ → Option ℕ
empty_end [] = None
empty_end (b ∷ bytes) =
    if begins_short_line (b ∷ bytes) then Some 2
    else (if begins_long_line (b ∷ bytes) then Some 3 else option_map (λ n. 1 + n) (empty_end bytes))

-- The same for the first empty line behind the first byte that is neither CR nor LF.
abbrev pub head_end : List ℕ → Option ℕ
head_end [] = None
head_end (b ∷ bytes) = if is_newline b then option_map (λ n. 1 + n) (head_end bytes) else empty_end (b ∷ bytes)
