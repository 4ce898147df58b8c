-- The state of the server.
use Rattle.std.specs.Prelude.{◌≡◌, ℕ, ◌*◌, ◌^◌, ◌+◌, ◌-◌, ◌==◌, ◌<◌, ◌≤◌, nat_lt, if◌then◌else◌, List, Option, None, Some, length, option_map, option_and_then, take, drop}
use Rattle.std.specs.List.{AllByRecursion, slice_get}
use Rattle.sg_base.specs.declared.kind.Kind.TheVariants as kind
use Rattle.sg_base.specs.declared.limits.TheConstants.{MAX_PLAYS, PIECE_LEN}
use Rattle.sg_base.specs.declared.play.PlayBody.{PlayBody}
use Rattle.sg_base.specs.Keys.{number}
use Rattle.sg_base.specs.Rising.{IsRising, found}
use Rattle.sg_records.specs.declared.client.Client.{Client}
use Rattle.sg_records.specs.declared.epoch.Epoch.{Epoch}
use Rattle.sg_records.specs.Clients.{client_number, client_text}
use Rattle.sg_records.specs.Numbers.{epoch_bytes, epoch_number, piece_number, play_bytes, play_number}
use Rattle.sg_records.specs.Saved.{IsSaved, IsSavedText}
use Rattle.sg_tables.specs.Entries.{Kept, number_of_kept}
use Rattle.sg_tables.specs.Refusals.{row_at}
use Rattle.sg_tables.specs.Rows.{at}

-- what the server has in memory: rows, clients and epochs by key, and how many plays an epoch may have
pub record Core : Type 0 where
  pub rows : List Kept
  pub clients : List Client
  pub epochs : List Epoch
  pub limit : ℕ

-- an epoch whose numbers fit their types
pub record IsNumbered (e : Epoch) : Type 0 where
  pub display : e.display < 2 ^ 32
  pub epoch : e.epoch < 2 ^ 32

-- what holds of every server
pub record IsServer (core : Core) : Type 0 where
  pub limit : core.limit ≤ MAX_PLAYS
  pub rows : AllByRecursion IsSaved core.rows
  pub rising : IsRising epoch_number core.epochs
  pub numbered : AllByRecursion IsNumbered core.epochs
  pub few : AllByRecursion (λ e. e.plays ≤ core.limit) core.epochs

-- what it counts there, and a keeper has: the bytes that have come of each medium, and the plays of each display and epoch
pub record Content : Type 0 where
  pub bytes : ℕ → List ℕ
  pub plays : ℕ → ℕ → List PlayBody

-- ---- the rows of a keeper

-- a keeper's row is one of the texts of what is kept there
abbrev pub IsStored : {A : Type 0} → (A → List ℕ → Type 0) → Option A → Option (List ℕ) → Type 0
IsStored is_text None row = row ≡ None
IsStored is_text (Some x) row = (text : List ℕ) × (row ≡ Some text) × is_text x text

-- rows that stand for what the server has in memory
pub record AreRows (core : Core) (kept : ℕ → Option (List ℕ)) : Type 0 where
  pub rows : (n : ℕ) → n < number 8 0 0 → IsStored IsSavedText (found number_of_kept n core.rows) (kept n)
  pub clients : (n : ℕ) → number 8 0 0 ≤ n → n < number 9 0 0 → kept n ≡ option_map client_text (found client_number n core.clients)
  pub epochs : (n : ℕ) → number 9 0 0 ≤ n → n < number 10 0 0 → kept n ≡ option_map epoch_bytes (found epoch_number n core.epochs)

-- how many bytes of a medium have come
abbrev pub received_in : Option Kept → ℕ
received_in None = 0
received_in (Some e) = e.received

abbrev pub received_of : ℕ → List Kept → ℕ
received_of media rows = received_in (row_at (at kind.Media media) rows)

abbrev pub plays_in : Option Epoch → ℕ
plays_in None = 0
plays_in (Some e) = e.plays

-- how many plays a display has in an epoch
abbrev pub plays_of : ℕ → ℕ → List Epoch → ℕ
plays_of display epoch epochs = plays_in (found epoch_number (number 9 display epoch) epochs)

-- a piece of a medium's bytes, counted from 0
abbrev pub piece_at : ℕ → List ℕ → Option (List ℕ)
piece_at index bytes = if nat_lt (index * PIECE_LEN) (length bytes) then Some (take PIECE_LEN (drop (index * PIECE_LEN) bytes)) else None

-- a play of a list, counted from 1
abbrev pub play_at : ℕ → List PlayBody → Option PlayBody
play_at n plays = if n == 0 then None else slice_get plays (n - 1)

-- rows that hold the bytes and plays which the server counts
pub record AreContent (core : Core) (content : Content) (kept : ℕ → Option (List ℕ)) : Type 0 where
  pub received : (m : ℕ) → m < 2 ^ 32 → received_of m core.rows ≡ length (content.bytes m)
  pub pieces : (m i : ℕ) → m < 2 ^ 32 → i < 2 ^ 32 → kept (piece_number m i) ≡ piece_at i (content.bytes m)
  pub counts : (d e : ℕ) → d < 2 ^ 32 → e < 2 ^ 32 → plays_of d e core.epochs ≡ length (content.plays d e)
  pub plays : (d e n : ℕ) → d < 2 ^ 32 → e < 2 ^ 32 → n < 2 ^ 32 → kept (play_number d e n) ≡ option_map play_bytes (play_at n (content.plays d e))

-- rows that stand for a server and its content
pub record Stands (core : Core) (its : Content) (kept : ℕ → Option (List ℕ)) : Type 0 where
  pub rows : AreRows core kept
  pub content : AreContent core its kept
