-- What a call of the server does to its keeper.
use Rattle.std.specs.Prelude.{◌≡◌, ◌≢◌, ℕ, false, zero, suc, ◌+◌, ◌-◌, ◌/◌, ◌^◌, ◌<◌, List, [], ◌∷◌, Option, Some, None, Result, Ok, Err}
use Rattle.sg_base.specs.declared.kind.Kind.{Kind}
use Rattle.sg_base.specs.declared.kind.Kind.TheVariants as kind
use Rattle.sg_base.specs.declared.limits.TheConstants.{PIECE_LEN}
use Rattle.sg_base.specs.declared.play.PlayBody.{PlayBody}
use Rattle.sg_edit_rows.specs.EditRows.{IsRow}
use Rattle.sg_steps.specs.State.{received_of}
use Rattle.sg_steps.specs.declared.fault.CmsFault.{CmsFault}
use Rattle.sg_steps.specs.declared.fault.CmsFault.TheVariants as fault
use Rattle.sg_keeper.specs.Changes.{with_row}
use Rattle.sg_keeper.specs.View.{Broke, Ran, View}
use Rattle.sg_records.specs.declared.reply.Reply.{Reply}
use Rattle.sg_records.specs.Numbers.{piece_number, play_bytes, play_number}
use Rattle.sg_records.specs.Saved.{saved_text}
use Rattle.sg_rows.specs.declared.form.RowForm.TheVariants.{Edit}
use Rattle.sg_tables.specs.declared.change.TableChange.{TableChange}
use Rattle.sg_tables.specs.declared.change.TableChange.TheVariants as change
use Rattle.sg_tables.specs.declared.prepared.Prepared.{Prepared}
use Rattle.sg_tables.specs.Entries.{Kept, fresh, is_media}
use Rattle.sg_tables.specs.Rows.{at, id_of, number_at}
use Rattle.sg_tables.specs.Tables.{Filled, IsPrepared, change_of}

-- what is known of the keeper after a fault: want of memory, the server's or the keeper's, is no fault of it
abbrev pub Failed : CmsFault → View → View → Type 0
Failed fault.Keeper old new = Broke old new
Failed fault.Memory old new = Ran 0 old new

-- ---- what an edit makes of rows

-- without the first pieces of a medium
abbrev pub without_pieces : ℕ → ℕ → (ℕ → Option (List ℕ)) → ℕ → Option (List ℕ)
without_pieces media zero rows = rows
without_pieces media (suc count) rows = with_row (piece_number media count) None (without_pieces media count rows)

-- in how many pieces so many bytes are kept
abbrev pub pieces_of : ℕ → ℕ
pieces_of received = (received + (PIECE_LEN - 1)) / PIECE_LEN

-- without all that is kept of a row: of a medium, its pieces too
abbrev pub without_row : Kind → ℕ → List Kept → (ℕ → Option (List ℕ)) → ℕ → Option (List ℕ)
without_row kind.Media id kept rows = without_pieces id (pieces_of (received_of id kept)) (with_row (number_at (at kind.Media id)) None rows)
without_row k id kept rows = with_row (number_at (at k id)) None rows

-- the rows of the keeper after a change of those of the server
abbrev pub changed_by : TableChange → List Kept → (ℕ → Option (List ℕ)) → ℕ → Option (List ℕ)
changed_by (change.Insert row) kept rows = with_row (number_at (id_of row)) (Some (saved_text (fresh row))) rows
changed_by (change.Replace row) kept rows = with_row (number_at (id_of row)) (Some (saved_text (fresh row))) rows
changed_by (change.Remove k id) kept rows = without_row k id kept rows

-- a change of valid rows, as an edit asks for it
abbrev pub AsksValid : TableChange → Type 0
AsksValid (change.Insert row) = IsRow Edit row
AsksValid (change.Replace row) = IsRow Edit row × (is_media row ≡ false)
AsksValid (change.Remove k id) = (id < 2 ^ 32) × (k ≢ kind.Client)

-- a change that is ready, and what was tried; or the answer
abbrev pub IsAttempt : Filled → Result TableChange Reply → Result Prepared Reply → Type 0
IsAttempt t tried (Ok p) = IsPrepared t p × (tried ≡ Ok (change_of p))
IsAttempt t tried (Err reply) = tried ≡ Err reply

-- ---- what a batch makes of rows

-- the rows with plays of an epoch, of which the first has this number
abbrev pub with_plays_from : ℕ → ℕ → ℕ → List PlayBody → (ℕ → Option (List ℕ)) → ℕ → Option (List ℕ)
with_plays_from display epoch n [] rows = rows
with_plays_from display epoch n (p ∷ ps) rows =
    with_plays_from display epoch (n + 1) ps (with_row (play_number display epoch n) (Some (play_bytes p)) rows)
