-- What a change does to the rows of a keeper in memory.
use Rattle.std.proofs.Common.{◌≡◌, ℕ, ◌≤◌, Bool, true, false, cond, eqb, List, length, refl, ap, ◌∙◌}
use Rattle.std.specs.Prelude.{Option, None, Some, option_map}
use Rattle.sg_base.specs.Rising.{found, put, without}
use Rattle.sg_base.specs.Tables.{Table}
use Rattle.sg_base.proofs.RisingLemmas.{found-put, found-without}
use Rattle.sg_keeper.specs.declared.keeper.Change.{Change}
use Rattle.sg_keeper.specs.declared.map.Entry.{Entry}
use Rattle.sg_keeper.specs.Changes.{with_row, applied}
use Rattle.sg_keeper.specs.Map.{entry_number, rows_in}

-- the bytes of one of two rows, by a test
bytes_of : (b : Bool) (e r : Option Entry) → option_map (λ (x : Entry). x.bytes) (cond b e r) ≡ cond b (option_map (λ (x : Entry). x.bytes) e) (option_map (λ (x : Entry). x.bytes) r)
bytes_of true e r = refl
bytes_of false e r = refl

pub rows_put : (e : Entry) (entries : List Entry) → rows_in (put entry_number e entries) ≡ with_row (entry_number e) (Some e.bytes) (rows_in entries)
rows_put e entries =
    let at : (n : ℕ) → rows_in (put entry_number e entries) n ≡ with_row (entry_number e) (Some e.bytes) (rows_in entries) n = (λ n.
    ap (option_map (λ (x : Entry). x.bytes)) (found-put entry_number n e entries)
    ∙ bytes_of (eqb (entry_number e) n) (Some e) (found entry_number n entries)) in
    λ i n. at n i

pub rows_without : (k : ℕ) (entries : List Entry) → rows_in (without entry_number k entries) ≡ with_row k None (rows_in entries)
rows_without k entries =
    let at : (n : ℕ) → rows_in (without entry_number k entries) n ≡ with_row k None (rows_in entries) n = (λ n.
    ap (option_map (λ (x : Entry). x.bytes)) (found-without entry_number k n entries)
    ∙ bytes_of (eqb k n) None (found entry_number n entries)) in
    λ i n. at n i

-- the changes that are left have room, and lead to these rows
pub record CommitsTo (rows : ℕ → Option (List ℕ)) (rest : List Change) (entries : Table Entry) : Type 0 where
  pub room : length rest ≤ entries.room
  pub goes_on : applied rest (rows_in entries.items) ≡ rows
