-- Loading a server: which rows of a keeper may be kept, one after another, and what they make of it.
use Rattle.std.specs.Prelude.{◌≡◌, ◌≢◌, ℕ, ◌-◌, ◌<◌, ◌≤◌, nat_lt, if◌then◌else◌, List, Option, None, Some, length, count_by}
use Rattle.std.specs.List.{AllByRecursion}
use Rattle.sg_base.specs.declared.kind.Kind.{Kind}
use Rattle.sg_base.specs.declared.limits.TheConstants.{MAX_CLIENTS, MAX_MEDIA_BYTES}
use Rattle.sg_base.specs.Keys.{number}
use Rattle.sg_base.specs.Rising.{IsRising, found, put}
use Rattle.sg_keeper.specs.View.{Broke, Ran, View}
use Rattle.sg_loading.specs.declared.fault.LoadFault.{LoadFault}
use Rattle.sg_loading.specs.declared.fault.LoadFault.TheVariants as fault
use Rattle.sg_loading.specs.declared.parts.Parts.{Parts}
use Rattle.sg_records.specs.declared.client.Client.{Client}
use Rattle.sg_records.specs.declared.epoch.Epoch.{Epoch}
use Rattle.sg_records.specs.Clients.{IsClient, client_number, client_text}
use Rattle.sg_records.specs.Numbers.{IsEpoch, epoch_bytes, epoch_number}
use Rattle.sg_records.specs.Saved.{IsSaved, IsSavedText}
use Rattle.sg_steps.specs.State.{AreRows, Core, IsServer}
use Rattle.sg_tables.specs.declared.change.TableChange.TheVariants.{Insert}
use Rattle.sg_tables.specs.Entries.{Kept, number_of_kept}
use Rattle.sg_tables.specs.Refusals.{declared, is_of, most_of, references_fault, refusal}
use Rattle.sg_tables.specs.Rows.{references}

-- the server of these parts, whose epochs may have so many plays
abbrev pub core_of : Parts → ℕ → Core
core_of parts limit = record {
  rows = parts.tables.rows;
  clients = parts.clients.items;
  epochs = parts.epochs.items;
  limit = limit;
}

-- ---- one row

-- what a row of a keeper stands for
pub data Item : Type 0 where
  OfTables : Kept → Item
  OfClient : Client → Item
  OfEpoch : Epoch → Item

-- the row of this number and text may be kept as a row of the tables: nothing that was loaded before refuses it
pub record IsOfTables (rows : List Kept) (n : ℕ) (text : List ℕ) (e : Kept) : Type 0 where
  pub saved : IsSaved e
  pub number : number_of_kept e ≡ n
  pub says : IsSavedText e text
  pub allowed : refusal rows (Insert e.row) ≡ None

-- as a client: there are not too many before
pub record IsOfClient (clients : List Client) (n : ℕ) (text : List ℕ) (c : Client) : Type 0 where
  pub client : IsClient c
  pub number : client_number c ≡ n
  pub says : client_text c ≡ text
  pub few : length clients < MAX_CLIENTS

-- an epoch above 1 comes after the one before it
abbrev pub Follows : List Epoch → Epoch → Type 0
Follows epochs e = 1 < e.epoch → found epoch_number (number 9 e.display (e.epoch - 1)) epochs ≢ None

-- as an epoch
pub record IsOfEpoch (limit : ℕ) (epochs : List Epoch) (n : ℕ) (text : List ℕ) (e : Epoch) : Type 0 where
  pub epoch : IsEpoch limit e
  pub number : epoch_number e ≡ n
  pub says : epoch_bytes e ≡ text
  pub follows : Follows epochs e

-- the row of this number and text may be kept as what it stands for, after those that the server has
abbrev pub Reads : Core → ℕ → List ℕ → Item → Type 0
Reads core n text (OfTables e) = IsOfTables core.rows n text e
Reads core n text (OfClient c) = IsOfClient core.clients n text c
Reads core n text (OfEpoch e) = IsOfEpoch core.limit core.epochs n text e

abbrev pub with_item : Item → Core → Core
with_item (OfTables e) core = record core { rows = put number_of_kept e core.rows }
with_item (OfClient c) core = record core { clients = put client_number c core.clients }
with_item (OfEpoch e) core = record core { epochs = put epoch_number e core.epochs }

-- the server with one row more
abbrev pub Joins : Core → ℕ → List ℕ → Core → Type 0
Joins core n text more = (item : Item) × Reads core n text item × (more ≡ with_item item core)

-- the row may not be kept as anything
abbrev pub HasNoReading : Core → ℕ → List ℕ → Type 0
HasNoReading core n text = (item : Item) → Reads core n text item → ⊥

-- ---- all rows

-- what holds of every server that was loaded: each row is valid, what it names is there and complete, and no limit is exceeded
pub record IsLawful (core : Core) : Type 0 where
  pub server : IsServer core
  pub rising : IsRising number_of_kept core.rows
  pub named : AllByRecursion (λ e. references_fault core.rows (references e.row) ≡ None) core.rows
  pub few : (kind : Kind) → count_by (is_of kind) core.rows ≤ most_of kind
  pub light : declared core.rows ≤ MAX_MEDIA_BYTES
  pub clients : AllByRecursion IsClient core.clients
  pub few_clients : length core.clients ≤ MAX_CLIENTS
  pub epochs : AllByRecursion (IsEpoch core.limit) core.epochs
  pub follow : AllByRecursion (Follows core.epochs) core.epochs

-- a keeper's rows below a number
abbrev pub rows_below : ℕ → (ℕ → Option (List ℕ)) → ℕ → Option (List ℕ)
rows_below end kept n = if nat_lt n end then kept n else None

-- no row has a kind below the first one
abbrev pub HasKinds : (ℕ → Option (List ℕ)) → Type 0
HasKinds kept = (n : ℕ) → n < number 1 0 0 → kept n ≡ None

-- the first row by key that may not be kept: the rows before it stand for a server, and after those it can be nothing
pub record IsFirstBad (limit : ℕ) (kept : ℕ → Option (List ℕ)) (n : ℕ) : Type 0 where
  pub core : Core
  pub limited : core.limit ≡ limit
  pub lawful : IsLawful core
  pub before : AreRows core (rows_below n kept)
  pub text : List ℕ
  pub there : kept n ≡ Some text
  pub bad : HasNoReading core n text

-- ---- why loading ended

-- what is known of the keeper then: only its own fault is one
abbrev pub Failed : LoadFault → View → View → Type 0
Failed fault.Keeper old new = Broke old new
Failed (fault.BadRow key) old new = Ran 0 old new
Failed fault.Memory old new = Ran 0 old new
