-- Epochs of displays and their plays.
use Rattle.std.specs.Prelude.{ℕ, ◌+◌, ◌-◌, ◌==◌, ◌&&◌, nat_lt, Bool, if◌then◌else◌, List, [], ◌∷◌, ◌++◌, Option, None, Some, length, drop, max}
use Rattle.sg_base.specs.declared.kind.Kind.TheVariants as kind
use Rattle.sg_base.specs.declared.limits.TheConstants.{MAX_EPOCH}
use Rattle.sg_base.specs.declared.play.PlayBody.{PlayBody}
use Rattle.sg_base.specs.Keys.{number}
use Rattle.sg_base.specs.Rising.{found, put}
use Rattle.sg_steps.specs.declared.replies.EnrolReply.{EnrolReply}
use Rattle.sg_steps.specs.declared.replies.EnrolReply.TheVariants as enrol
use Rattle.sg_steps.specs.declared.replies.PlaysReply.{PlaysReply}
use Rattle.sg_steps.specs.declared.replies.PlaysReply.TheVariants as plays
use Rattle.sg_steps.specs.State.{Content, Core, plays_of}
use Rattle.sg_steps.specs.Calls.{with_plays_from}
use Rattle.sg_keeper.specs.Changes.{with_row}
use Rattle.sg_records.specs.declared.epoch.Epoch.{Epoch}
use Rattle.sg_records.specs.Numbers.{epoch_bytes, epoch_number}
use Rattle.sg_tables.specs.Entries.{Kept}
use Rattle.sg_tables.specs.Refusals.{row_at}
use Rattle.sg_tables.specs.Rows.{at}

abbrev pub is_of : ℕ → Epoch → Bool
is_of display e = e.display == display

abbrev pub epoch_with : ℕ → ℕ → ℕ → Epoch
epoch_with display epoch plays = record { display = display; epoch = epoch; plays = plays }

-- ---- in their order

-- the epoch is above another, by display and then by its number
abbrev pub is_after : ℕ → ℕ → Epoch → Bool
is_after display epoch e = nat_lt (number 9 display epoch) (epoch_number e)

abbrev pub triple_of : Epoch → ℕ × ℕ × ℕ
triple_of e = (e.display, e.epoch, e.plays)

-- ---- enrolling

-- the last epoch that a display was given, or 0
abbrev pub last_epoch : ℕ → List Epoch → ℕ
last_epoch display [] = 0
last_epoch display (e ∷ es) = if e.display == display then max e.epoch (last_epoch display es) else last_epoch display es

pub record Given : Type 0 where
  pub epochs : List Epoch
  pub reply : EnrolReply

-- the next epoch of a display, as long as there is one
abbrev pub given : ℕ → List Epoch → Given
given display epochs =
    if nat_lt (last_epoch display epochs) MAX_EPOCH then record {
      epochs = put epoch_number (epoch_with display (last_epoch display epochs + 1) 0) epochs;
      reply = enrol.Epoch (last_epoch display epochs + 1);
    }
    else record { epochs = epochs; reply = enrol.EpochsSpent }

pub record Enrolled : Type 0 where
  pub core : Core
  pub reply : EnrolReply

abbrev pub enrolled_of : Core → ℕ → Option Kept → Enrolled
enrolled_of core display None = record { core = core; reply = enrol.Unknown (record { 0 = display }) }
enrolled_of core display (Some e) =
    record { core = record core { epochs = (given display core.epochs).epochs }; reply = (given display core.epochs).reply }

-- a display that asks for its next epoch
abbrev pub enrolled : Core → ℕ → Enrolled
enrolled core display = enrolled_of core display (row_at (at kind.Display display) core.rows)

-- the keeper's rows with the next epoch of a display
abbrev pub rows_given : ℕ → List Epoch → (ℕ → Option (List ℕ)) → ℕ → Option (List ℕ)
rows_given display epochs rows =
    if nat_lt (last_epoch display epochs) MAX_EPOCH
    then with_row (number 9 display (last_epoch display epochs + 1)) (Some (epoch_bytes (epoch_with display (last_epoch display epochs + 1) 0))) rows
    else rows

-- ---- plays

-- the plays of a batch that are new to an epoch that has so many
abbrev pub new_plays : ℕ → ℕ → List PlayBody → List PlayBody
new_plays have first batch = drop (have + 1 - first) batch

pub record Added : Type 0 where
  pub epochs : List Epoch
  pub reply : PlaysReply
  pub added : List PlayBody

abbrev pub nothing_added : List Epoch → PlaysReply → Added
nothing_added epochs reply = record { epochs = epochs; reply = reply; added = [] }

-- new plays of an epoch, as long as it isn't full
abbrev pub added_to : ℕ → ℕ → ℕ → List Epoch → ℕ → List PlayBody → Added
added_to limit display epoch epochs have [] = nothing_added epochs (plays.Next (have + 1))
added_to limit display epoch epochs have (p ∷ ps) =
    if nat_lt limit (have + length (p ∷ ps)) then nothing_added epochs (plays.PlaysFull limit)
    else record {
      epochs = put epoch_number (epoch_with display epoch (have + length (p ∷ ps))) epochs;
      reply = plays.Next (have + length (p ∷ ps) + 1);
      added = p ∷ ps;
    }

abbrev pub batch_for : ℕ → ℕ → ℕ → List Epoch → ℕ → List PlayBody → Option Epoch → Added
batch_for limit display epoch epochs first batch None = nothing_added epochs plays.NoEpoch
batch_for limit display epoch epochs first batch (Some e) =
    if nat_lt (e.plays + 1) first then nothing_added epochs (plays.Gap (e.plays + 1))
    else added_to limit display epoch epochs e.plays (new_plays e.plays first batch)

-- a batch of plays of an epoch, of which the first has this number
abbrev pub batch_added : ℕ → ℕ → ℕ → List Epoch → ℕ → List PlayBody → Added
batch_added limit display epoch epochs first batch =
    batch_for limit display epoch epochs first batch (found epoch_number (number 9 display epoch) epochs)

-- the same, of a server
abbrev pub played : Core → ℕ → ℕ → ℕ → List PlayBody → Added
played core display epoch first batch = batch_added core.limit display epoch core.epochs first batch

-- the content with the new plays of an epoch
abbrev pub with_plays : ℕ → ℕ → List PlayBody → Content → Content
with_plays display epoch added content = record content {
  plays = λ d e. if (d == display) && (e == epoch) then content.plays d e ++ added else content.plays d e;
}

-- the keeper's rows with the new plays of an epoch that has so many
abbrev pub rows_added : ℕ → ℕ → ℕ → List PlayBody → (ℕ → Option (List ℕ)) → ℕ → Option (List ℕ)
rows_added display epoch have [] rows = rows
rows_added display epoch have (p ∷ ps) rows =
    with_row (number 9 display epoch) (Some (epoch_bytes (epoch_with display epoch (have + length (p ∷ ps)))))
    (with_plays_from display epoch (have + 1) (p ∷ ps) rows)
