-- What a search for the end of a head knows of a stream that may still grow.
use Rattle.std.specs.Prelude.{◌≡◌, ◌≢◌, ℕ, ◌+◌, ◌<◌, ◌≤◌, Bool, List, ◌++◌, length, drop, if◌then◌else◌, Option, Some, None, option_map}
use Rattle.sg_base.specs.declared.limits.TheConstants.{MAX_HEAD, MAX_BODY}
use Rattle.sg_http.specs.declared.message.Next.TheVariants.{NeedMore}
use Rattle.sg_http.specs.declared.search.Line.{Line}
use Rattle.sg_http.specs.declared.search.Line.TheVariants.{Empty, Full, Open}
use Rattle.sg_http.specs.declared.search.Progress.{Progress}
use Rattle.sg_http.specs.declared.search.Search.{Search}
use Rattle.sg_http.specs.declared.search.Search.TheVariants.{Ended, GoesOn}
use Rattle.sg_http.specs.declared.next.Look.{Look}
use Rattle.sg_http.specs.declared.next.Look.TheVariants.{Found, InHead, InBody}
use Rattle.sg_http.specs.Head.{empty_end, head_end}
use Rattle.sg_http.specs.Messages.{Unfinished, Opens, seen, IsNextWithin}

-- where the head ends by what comes from this place on, if the head has begun before it or not
abbrev pub end_from : Bool → ℕ → List ℕ → Option ℕ
end_from begun at bytes = option_map (λ n. at + n) (if begun then empty_end (drop at bytes) else head_end (drop at bytes))

-- Whatever follows, the head of the bytes ends where the bytes from this place on say.
abbrev pub IsSearched : List ℕ → Progress → Type 0
IsSearched bytes progress =
    (progress.at ≤ length bytes)
    × ((more : List ℕ) → head_end (bytes ++ more) ≡ end_from progress.begun progress.at (bytes ++ more))

-- The progress is that of a search of a front of the stream, as an earlier look at the stream left it.
pub record IsKnown (stream : List ℕ) (progress : Progress) : Type 0 where
  pub front : List ℕ
  pub rest : List ℕ
  pub split : stream ≡ front ++ rest
  pub short : length front ≤ MAX_HEAD
  pub searched : IsSearched front progress

-- What the bytes begin with, whatever follows: an empty line of n bytes; a byte that begins none; or too few to tell.
abbrev pub BeginsWith : List ℕ → Line → Type 0
BeginsWith bytes (Empty n) = (n ≤ length bytes) × ((more : List ℕ) → empty_end (bytes ++ more) ≡ Some n)
BeginsWith bytes Full = (0 < length bytes)
    × ((more : List ℕ) → empty_end (bytes ++ more) ≡ option_map (λ n. 1 + n) (empty_end (drop 1 (bytes ++ more))))
BeginsWith bytes Open = empty_end bytes ≡ None

-- What a search from a place on found: the end, or how far it came without one.
abbrev pub Searches : List ℕ → Bool → ℕ → Search → Type 0
Searches bytes begun from (Ended end) =
    (end ≤ length bytes) × ((more : List ℕ) → end_from begun from (bytes ++ more) ≡ Some end)
Searches bytes begun from (GoesOn progress) =
    (progress.at ≤ length bytes) × (end_from begun from bytes ≡ None)
    × ((more : List ℕ) → end_from begun from (bytes ++ more) ≡ end_from progress.begun progress.at (bytes ++ more))

-- What a look at a stream says: the message or its refusal; how far its head is known; or the length of its message,
-- below which the stream has no whole one.
abbrev pub Looks : List ℕ → Look → Type 0
Looks stream (Found next) =
    Opens stream (seen stream next) × IsNextWithin (length stream) next × (next ≢ NeedMore)
Looks stream (InHead progress) = (length stream < MAX_HEAD) × IsSearched stream progress × (head_end stream ≡ None)
Looks stream (InBody total) = (length stream < total) × (total ≤ MAX_HEAD + MAX_BODY)
    × ((more : List ℕ) → length (stream ++ more) < total → Opens (stream ++ more) Unfinished)
