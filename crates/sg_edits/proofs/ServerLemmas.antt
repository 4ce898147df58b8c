-- What holds of every server, after a change of its rows.
use Rattle.std.proofs.Common.{◌≡◌, ◌∙◌, ℕ, ◌^◌, ◌<◌, ◌≤◌, ◌%◌, ◌==◌, ◌&&◌, Bool, true, false, List, Option, Some, None, IsTrue, refl, ap, sym, subst, arith, lt-ltb}
use Rattle.std.specs.List.{AllByRecursion}
use Rattle.sg_base.specs.declared.kind.Kind.TheVariants as kind
use Rattle.sg_base.specs.declared.row.Row.{Row}
use Rattle.sg_base.specs.declared.row.Row.TheVariants as row
use Rattle.sg_base.specs.Rising.{found, without}
use Rattle.sg_base.proofs.RisingLemmas.{all_without}
use Rattle.sg_edit_rows.specs.EditRows.{IsRow}
use Rattle.sg_steps.specs.Calls.{AsksValid}
use Rattle.sg_steps.specs.State.{Core, IsServer, received_in, received_of}
use Rattle.sg_records.specs.Saved.{IsSaved, is_state}
use Rattle.sg_records.proofs.SavedLemmas.{received_fits}
use Rattle.sg_rows.specs.declared.form.RowForm.TheVariants.{Edit}
use Rattle.sg_tables.specs.declared.change.TableChange.{TableChange}
use Rattle.sg_tables.specs.declared.change.TableChange.TheVariants as change
use Rattle.sg_tables.specs.Entries.{Kept, after, fresh, number_of_kept}
use Rattle.sg_tables.specs.Refusals.{row_at}
use Rattle.sg_tables.specs.Rows.{at, number_at}
use Rattle.sg_tables.specs.Tables.{file_of}
use Rattle.sg_tables.proofs.KeptLemmas.{kept_at, kept_put}

-- a row that has just come in may be kept
fresh_saved : (r : Row) → IsRow Edit r → IsSaved (fresh r)
fresh_saved (row.Media f) h = record { row = h; state = let some = h.some in rw (lt-ltb 0 f.length (omega (arith, some))) refl }
fresh_saved (row.Layout l) h = record { row = h; state = refl }
fresh_saved (row.Campaign c) h = record { row = h; state = refl }
fresh_saved (row.Daypart d) h = record { row = h; state = refl }
fresh_saved (row.Group g) h = record { row = h; state = refl }
fresh_saved (row.Display d) h = record { row = h; state = refl }
fresh_saved (row.Event e) h = record { row = h; state = refl }

saved_after : (rows : List Kept) (c : TableChange) → AsksValid c → AllByRecursion IsSaved rows → AllByRecursion IsSaved (after rows c)
saved_after rows (change.Insert r) h a = kept_put IsSaved (fresh r) rows (fresh_saved r h) a
saved_after rows (change.Replace r) h a = kept_put IsSaved (fresh r) rows (fresh_saved r h.0) a
saved_after rows (change.Remove k id) h a = all_without number_of_kept IsSaved (number_at (at k id)) rows a

pub server_changed : (core : Core) (c : TableChange) → AsksValid c → IsServer core → IsServer (record core { rows = after core.rows c })
server_changed core c h s = record {
  limit = s.limit;
  rows = saved_after core.rows c h s.rows;
  rising = s.rising;
  numbered = s.numbered;
  few = s.few;
}

-- no more bytes of a medium have come than 32 bits count
received_small : (e : Option Kept) → ((x : Kept) → e ≡ Some x → IsSaved x) → received_in e < 2 ^ 32
received_small None a = omega arith
received_small (Some x) a = let h = a x refl in received_fits x.row x.received x.complete h.row h.state

pub server_received : (core : Core) (media : ℕ) → IsServer core → received_of media core.rows < 2 ^ 32
server_received core media s =
    received_small (row_at (at kind.Media media) core.rows) (λ x is. kept_at IsSaved (number_at (at kind.Media media)) x core.rows s.rows is)
