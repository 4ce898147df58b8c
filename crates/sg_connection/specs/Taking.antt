-- Bytes of a connection that no message has yet.
use Rattle.std.specs.Prelude.{◌≡◌, ◌≢◌, ℕ, ◌+◌, ◌<◌, List, ◌++◌, length}
use Rattle.std.specs.declared.option.Option.{Option}
use Rattle.std.specs.Io.KnownBytes.{Consumes, IsAtEnd}
use Rattle.sg_base.specs.Causes.{Rose}
use Rattle.sg_base.specs.declared.limits.TheConstants.{MAX_TAKEN}
use Rattle.sg_http.specs.declared.message.Next.TheVariants.{NeedMore}
use Rattle.sg_http.specs.Messages.{Unfinished, Opens, seen, IsNextWithin}
use Rattle.sg_http.specs.Search.{IsKnown}
use Rattle.sg_connection.specs.declared.inbox.Taken.{Taken}
use Rattle.sg_connection.specs.declared.inbox.Taken.TheVariants as taken
use Rattle.sg_connection.specs.declared.receive.Wait.{Wait}
use Rattle.sg_connection.specs.declared.receive.Ask.{Ask}
use Rattle.sg_connection.specs.declared.receive.Ask.TheVariants as ask
use Rattle.sg_connection.specs.declared.receive.Received.{Received}
use Rattle.sg_connection.specs.declared.receive.Received.TheVariants as received

-- the bytes that no message has yet, and how many were taken in all
pub record Unread : Type 0 where
  pub stream : List ℕ
  pub total : ℕ

-- these bytes of the source came after those that were there
pub record Comes (old new : Option (List ℕ)) (u v : Unread) : Type 0 where
  pub more : List ℕ
  pub took : Consumes old new more
  pub stream : v.stream ≡ u.stream ++ more
  pub total : v.total ≡ u.total + length more

-- What one take found, by the source after it, its count of faults before and after it, and what was unread before and after.
abbrev pub Finds : Taken → Option (List ℕ) → ℕ → ℕ → Unread → Unread → Type 0
Finds taken.More new before now u v = (now ≡ before) × (u.total < v.total)
Finds taken.End new before now u v = (now ≡ before) × IsAtEnd new × (v ≡ u)
Finds taken.Failed new before now u v = Rose before now × (v ≡ u)
Finds taken.Spent new before now u v = (now ≡ before) × (v ≡ u) × (v.total ≡ MAX_TAKEN)
Finds taken.NoMemory new before now u v = (now ≡ before) × (v ≡ u)

-- A stream of which it is known how far its head was searched, and below which length it has no message.
pub record IsAwaited (stream : List ℕ) (wait : Wait) : Type 0 where
  pub known : IsKnown stream wait.progress
  pub short : (more : List ℕ) → length (stream ++ more) < wait.want → Opens (stream ++ more) Unfinished

-- What a stream says to one who waits.
abbrev pub Says : List ℕ → Ask → Type 0
Says stream (ask.Found next) = Opens stream (seen stream next) × IsNextWithin (length stream) next × (next ≢ NeedMore)
Says stream (ask.Later wait) = IsAwaited stream wait × Opens stream Unfinished

-- What was received, by the source after it, its count of faults before and after it, and what was unread then.
abbrev pub Receives : Received → Option (List ℕ) → ℕ → ℕ → Unread → Type 0
Receives (received.Whole next) new before now v =
    (now ≡ before) × Opens v.stream (seen v.stream next) × IsNextWithin (length v.stream) next × (next ≢ NeedMore)
Receives received.Ended new before now v = (now ≡ before) × Opens v.stream Unfinished × IsAtEnd new
Receives received.Failed new before now v = Opens v.stream Unfinished × Rose before now
Receives received.Spent new before now v = (now ≡ before) × Opens v.stream Unfinished × (v.total ≡ MAX_TAKEN)
Receives received.NoMemory new before now v = now ≡ before
