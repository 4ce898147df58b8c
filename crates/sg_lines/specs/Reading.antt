-- What is known of a source and of who reads its lines after each answer.
use Rattle.std.specs.Prelude.{◌≡◌, ◌≢◌, ◌⊎◌, ℕ, ◌+◌, ◌<◌, ◌≤◌, Bool, true, false, List, [], ◌∷◌, ◌++◌, length, take, drop, slice_index}
use Rattle.std.specs.declared.option.Option.{Option}
use Rattle.std.specs.Io.KnownBytes.{Consumes, IsAtEnd, Keeps}
use Rattle.sg_base.specs.Causes.{Rose}
use Rattle.sg_lines.specs.declared.stop.LineStop.{LineStop}
use Rattle.sg_lines.specs.declared.stop.LineStop.TheVariants as stop

-- the bytes that were taken and aren't given yet, how many were taken in all, how many may be, how many a line may have, and
-- whether the end of the source was seen
pub record Reader : Type 0 where
  pub held : List ℕ
  pub taken : ℕ
  pub limit : ℕ
  pub most : ℕ
  pub ended : Bool

-- a source: the bytes that it has left, where it tells them, and its count of faults
pub record Input : Type 0 where
  pub left : Option (List ℕ)
  pub faults : ℕ

abbrev pub side : {A : Type 0} → (A → Option (List ℕ)) → (A → ℕ) → A → Input
side left faults source = record { left = left source; faults = faults source }

-- ---- line feeds

-- no byte is a line feed
abbrev pub HasNoFeed : List ℕ → Type 0
HasNoFeed bytes = (k : ℕ) → k < length bytes → slice_index bytes k ≢ 10

-- the first line feed stands here
pub record IsFirstFeed (bytes : List ℕ) (at : ℕ) : Type 0 where
  pub inside : at < length bytes
  pub feed : slice_index bytes at ≡ 10
  pub first : (k : ℕ) → k < at → slice_index bytes k ≢ 10

-- the first line has more bytes than these
pub record IsLong (bytes : List ℕ) (most : ℕ) : Type 0 where
  pub long : most < length bytes
  pub first : (k : ℕ) → k ≤ most → slice_index bytes k ≢ 10

-- ---- what came in

-- these bytes came in, no more than may be taken, and no take failed
pub record Took (before after : Input) (old new : Reader) (bytes : List ℕ) : Type 0 where
  pub taken : Consumes before.left after.left bytes
  pub held : new.held ≡ old.held ++ bytes
  pub count : new.taken ≡ old.taken + length bytes
  pub bound : new.taken ≤ new.limit
  pub limit : new.limit ≡ old.limit
  pub most : new.most ≡ old.most
  pub ended : new.ended ≡ old.ended
  pub quiet : after.faults ≡ before.faults

-- some bytes came in
abbrev pub TookSome : Input → Input → Reader → Reader → Type 0
TookSome before after old new = (bytes : List ℕ) × Took before after old new bytes

-- bytes came in, or the source is at its end
abbrev pub TakesMore : Input → Input → Reader → Reader → Bool → Type 0
TakesMore before after old new true = (bytes : List ℕ) × (0 < length bytes) × Took before after old new bytes
TakesMore before after old new false = IsAtEnd after.left × Took before after old new []

-- ---- what is given

-- what is held, up to its first line feed
pub record GivesLine (before after : Input) (old new : Reader) (line : List ℕ) : Type 0 where
  pub early : old.ended ≡ false
  pub mid : Reader
  pub took : TookSome before after old mid
  pub at : ℕ
  pub feed : IsFirstFeed mid.held at
  pub few : at ≤ mid.most
  pub is : line ≡ take at mid.held
  pub left : new ≡ record mid { held = drop (at + 1) mid.held }

-- all that is held, at the end of the source: a last line without a line feed
pub record GivesLast (before after : Input) (old new : Reader) (line : List ℕ) : Type 0 where
  pub early : old.ended ≡ false
  pub mid : Reader
  pub took : TookSome before after old mid
  pub end : IsAtEnd after.left
  pub some : 0 < length mid.held
  pub few : length mid.held ≤ mid.most
  pub feeds : HasNoFeed mid.held
  pub is : line ≡ mid.held
  pub left : new ≡ record mid { held = []; ended = true }

abbrev pub Gives : Input → Input → Reader → Reader → List ℕ → Type 0
Gives before after old new line = GivesLine before after old new line ⊎ GivesLast before after old new line

-- the source is at its end, and nothing is held
pub record Ends (before after : Input) (old new : Reader) : Type 0 where
  pub early : old.ended ≡ false
  pub mid : Reader
  pub took : TookSome before after old mid
  pub end : IsAtEnd after.left
  pub none : mid.held ≡ []
  pub left : new ≡ record mid { held = []; ended = true }

-- its end was seen before: no take is made
pub record HadEnded (before after : Input) (old new : Reader) : Type 0 where
  pub ended : old.ended ≡ true
  pub source : after ≡ before
  pub reader : new ≡ old

-- no line is left
abbrev pub GivesNone : Input → Input → Reader → Reader → Type 0
GivesNone before after old new = Ends before after old new ⊎ HadEnded before after old new

-- ---- why no line is given

-- these bytes came in, and no line is whole: what is held has no line feed, and is no longer than a line may be
pub record Waits (before between : Input) (old mid : Reader) (bytes : List ℕ) : Type 0 where
  pub took : Took before between old mid bytes
  pub feeds : HasNoFeed mid.held
  pub few : length mid.held ≤ mid.most

-- a take failed, after these bytes
pub record CannotTake (before after : Input) (old mid : Reader) : Type 0 where
  pub bytes : List ℕ
  pub between : Input
  pub waits : Waits before between old mid bytes
  pub kept : Keeps between.left after.left
  pub rose : Rose between.faults after.faults

-- a byte more than may be taken came in, after these
pub record IsTooLong (before after : Input) (old mid : Reader) : Type 0 where
  pub bytes : List ℕ
  pub between : Input
  pub waits : Waits before between old mid bytes
  pub full : mid.taken ≡ mid.limit
  pub more : ℕ
  pub came : Consumes between.left after.left (more ∷ [])

abbrev pub StopsBy : Input → Input → Reader → LineStop → Type 0
StopsBy before after old stop.Read = (mid : Reader) × CannotTake before after old mid
StopsBy before after old stop.LongLine = (mid : Reader) × TookSome before after old mid × IsLong mid.held mid.most
StopsBy before after old stop.TooLong = (mid : Reader) × IsTooLong before after old mid
StopsBy before after old stop.Memory = (bytes : List ℕ) × Consumes before.left after.left bytes × (old.taken + length bytes ≤ old.limit)

-- the stop has its cause, and no take failed but one that is the cause
pub record Stops (before after : Input) (old : Reader) (why : LineStop) : Type 0 where
  pub early : old.ended ≡ false
  pub cause : StopsBy before after old why
  pub quiet : why ≢ stop.Read → after.faults ≡ before.faults
