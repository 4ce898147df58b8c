-- The rows that a server stands for, with one more.
use Rattle.std.proofs.Common.{◌≡◌, ◌∙◌, ◌⊎◌, ⊎_elim, ℕ, ◌+◌, ◌^◌, ◌<◌, ◌≤◌, Bool, true, false, ◌&&◌, cond, eqb, List, Option, Some, None, refl, ap, sym, subst, arith, inl, inr}
use Rattle.std.specs.Prelude.{Err, Ok, OnOk, Result, option_map}
use Rattle.std.proofs.lemmas.Bool.{and_parts, eq-eqb, le-ltb, lt-ltb, ne_eqb}
use Rattle.sg_base.specs.declared.row.Row.{Row}
use Rattle.sg_base.specs.declared.row.Row.TheVariants as row
use Rattle.sg_base.specs.Keys.{number}
use Rattle.sg_base.specs.Rising.{found, put}
use Rattle.sg_base.specs.Rows.{kind_of}
use Rattle.sg_base.proofs.RisingLemmas.{found-put}
use Rattle.sg_loading.specs.Loading.{IsOfClient, IsOfEpoch, IsOfTables, Item, Joins, OfTables, OfClient, OfEpoch, Reads, rows_below, with_item}
use Rattle.sg_records.specs.declared.client.Client.{Client}
use Rattle.sg_records.specs.declared.epoch.Epoch.{Epoch}
use Rattle.sg_records.specs.Clients.{IsClient, client_number, client_text, is_id, is_kept}
use Rattle.sg_records.specs.Numbers.{epoch_bytes, epoch_number}
use Rattle.sg_records.specs.Saved.{IsSaved, IsSavedText}
use Rattle.sg_records.proofs.SavedLemmas.{row_id}
use Rattle.sg_records.proofs.SoundSaved.{id_fits}
use Rattle.sg_steps.specs.State.{AreRows, Core, IsStored}
use Rattle.sg_steps.proofs.NumberLemmas.{apart_above, apart_below, below_or, client_ge, client_lt, eight_nine, eight_ten, epoch_ge, le_le, lt_le, nine_ten, row_lt}
use Rattle.sg_tables.specs.Entries.{Kept, number_of_kept}
use Rattle.sg_tables.specs.Rows.{code_of, id_in}

-- ---- rows below a number

pub below_here : (kept : ℕ → Option (List ℕ)) (end n : ℕ) → n < end → rows_below end kept n ≡ kept n
below_here kept end n lt = rw (lt-ltb n end lt) refl

pub below_not : (kept : ℕ → Option (List ℕ)) (end n : ℕ) → end ≤ n → rows_below end kept n ≡ None
below_not kept end n le = rw (le-ltb n end le) refl

-- rows between two numbers that have none
pub below_same : (kept : ℕ → Option (List ℕ)) (start end : ℕ) → start ≤ end → ((n : ℕ) → start ≤ n → n < end → kept n ≡ None) → (n : ℕ) → rows_below start kept n ≡ rows_below end kept n
below_same kept start end le gap n =
    ⊎_elim
    (λ lt. below_here kept start n lt ∙ sym (below_here kept end n (lt_le n start end lt le)))
    (λ from. below_not kept start n from ∙
    ⊎_elim (λ lt. sym (gap n from lt) ∙ sym (below_here kept end n lt)) (λ out. sym (below_not kept end n out)) (below_or n end))
    (below_or n start)

-- the rows below the number after a row's, by those below its own
below_next : (kept : ℕ → Option (List ℕ)) (n : ℕ) (text : List ℕ) → kept n ≡ Some text → (m : ℕ) → rows_below (n + 1) kept m ≡ cond (eqb n m) (Some text) (rows_below n kept m)
below_next kept n text there m =
    ⊎_elim
    (λ lt. below_here kept (n + 1) m (omega arith) ∙ (sym (below_here kept n m lt) ∙ rw (ne_eqb n m (λ e. omega arith)) refl))
    (λ from. ⊎_elim
    (λ lt.
    let same : n ≡ m = omega arith in
    below_here kept (n + 1) m lt ∙ (ap kept (sym same) ∙ (there ∙ rw (eq-eqb n m same) refl)))
    (λ out. below_not kept (n + 1) m out ∙ (sym (below_not kept n m from) ∙ rw (ne_eqb n m (λ e. omega arith)) refl))
    (below_or m (n + 1)))
    (below_or m n)

-- ---- what is put

stored : {A : Type 0} (is_text : A → List ℕ → Type 0) (b : Bool) (x : A) (text : List ℕ) (r : Option A) (row : Option (List ℕ)) → is_text x text → IsStored is_text r row → IsStored is_text (cond b (Some x) r) (cond b (Some text) row)
stored is_text true x text r row is old = (text, refl, is)
stored is_text false x text r row is old = old

stored_put : {A : Type 0} (rank : A → ℕ) (is_text : A → List ℕ → Type 0) (x : A) (xs : List A) (n m : ℕ) (text : List ℕ) (row : Option (List ℕ)) → rank x ≡ n → is_text x text → IsStored is_text (found rank m xs) row
    → IsStored is_text (found rank m (put rank x xs)) (cond (eqb n m) (Some text) row)
stored_put rank is_text x xs n m text row number is old =
    subst (λ k. IsStored is_text (found rank m (put rank x xs)) (cond (eqb k m) (Some text) row)) number
    (subst (λ f. IsStored is_text f (cond (eqb (rank x) m) (Some text) row)) (sym (found-put rank m x xs))
    (stored is_text (eqb (rank x) m) x text (found rank m xs) row is old))

mapped : {A : Type 0} (text : A → List ℕ) (b : Bool) (x : A) (r : Option A) → cond b (Some (text x)) (option_map text r) ≡ option_map text (cond b (Some x) r)
mapped text true x r = refl
mapped text false x r = refl

mapped_put : {A : Type 0} (rank : A → ℕ) (text_of : A → List ℕ) (x : A) (xs : List A) (n m : ℕ) (text : List ℕ) (row : Option (List ℕ)) → rank x ≡ n → text_of x ≡ text → row ≡ option_map text_of (found rank m xs)
    → cond (eqb n m) (Some text) row ≡ option_map text_of (found rank m (put rank x xs))
mapped_put rank text_of x xs n m text row number is old =
    ap (λ k. cond (eqb k m) (Some text) row) (sym number)
    ∙ (ap (λ t. cond (eqb (rank x) m) (Some t) row) (sym is)
    ∙ (ap (λ r. cond (eqb (rank x) m) (Some (text_of x)) r) old
    ∙ (mapped text_of (eqb (rank x) m) x (found rank m xs) ∙ ap (option_map text_of) (sym (found-put rank m x xs)))))

other : (n m : ℕ) (text : List ℕ) (row : Option (List ℕ)) → (n ≡ m → ⊥) → cond (eqb n m) (Some text) row ≡ row
other n m text row ne = rw (ne_eqb n m ne) refl

-- ---- where rows stand

code_low : (r : Row) → code_of (kind_of r) < 8
code_low (row.Media f) = omega arith
code_low (row.Layout l) = omega arith
code_low (row.Campaign c) = omega arith
code_low (row.Daypart d) = omega arith
code_low (row.Group g) = omega arith
code_low (row.Display d) = omega arith
code_low (row.Event e) = omega arith

pub saved_low : (e : Kept) → IsSaved e → number_of_kept e < number 8 0 0
saved_low e h = row_lt (code_of (kind_of e.row)) (id_in e.row) (code_low e.row) (row_id e.row h.row)

-- ---- one more row

with_saved : (core : Core) (kept : ℕ → Option (List ℕ)) (n : ℕ) (text : List ℕ) (e : Kept) → AreRows core (rows_below n kept) → kept n ≡ Some text → IsOfTables core.rows n text e → AreRows (with_item (OfTables e) core) (rows_below (n + 1) kept)
with_saved core kept n text e r there is =
    let next = below_next kept n text there in
    let low : n < number 8 0 0 = subst (λ k. k < number 8 0 0) is.number (saved_low e is.saved) in
    record {
      rows = λ m lt. subst (IsStored IsSavedText (found number_of_kept m (put number_of_kept e core.rows))) (sym (next m))
          (stored_put number_of_kept IsSavedText e core.rows n m text (rows_below n kept m) is.number is.says (r.rows m lt));
      clients = λ m ge lt. next m ∙ (other n m text (rows_below n kept m) (apart_above n m (number 8 0 0) low ge) ∙ r.clients m ge lt);
      epochs = λ m ge lt. next m ∙ (other n m text (rows_below n kept m) (apart_above n m (number 8 0 0) low (le_le (number 8 0 0) (number 9 0 0) m eight_nine ge)) ∙ r.epochs m ge lt);
    }

with_client : (core : Core) (kept : ℕ → Option (List ℕ)) (n : ℕ) (text : List ℕ) (c : Client) → c.client < 2 ^ 32 → AreRows core (rows_below n kept) → kept n ≡ Some text → IsOfClient core.clients n text c → AreRows (with_item (OfClient c) core) (rows_below (n + 1) kept)
with_client core kept n text c small r there is =
    let next = below_next kept n text there in
    let from : number 8 0 0 ≤ n = subst (λ k. number 8 0 0 ≤ k) is.number (client_ge c.client) in
    let to : n < number 9 0 0 = subst (λ k. k < number 9 0 0) is.number (client_lt c.client small) in
    record {
      rows = λ m lt. subst (IsStored IsSavedText (found number_of_kept m core.rows)) (sym (next m ∙ other n m text (rows_below n kept m) (apart_below n m (number 8 0 0) lt from))) (r.rows m lt);
      clients = λ m ge lt. next m ∙ mapped_put client_number client_text c core.clients n m text (rows_below n kept m) is.number is.says (r.clients m ge lt);
      epochs = λ m ge lt. next m ∙ (other n m text (rows_below n kept m) (apart_above n m (number 9 0 0) to ge) ∙ r.epochs m ge lt);
    }

with_epoch : (core : Core) (kept : ℕ → Option (List ℕ)) (n : ℕ) (text : List ℕ) (e : Epoch) → AreRows core (rows_below n kept) → kept n ≡ Some text → IsOfEpoch core.limit core.epochs n text e → AreRows (with_item (OfEpoch e) core) (rows_below (n + 1) kept)
with_epoch core kept n text e r there is =
    let next = below_next kept n text there in
    let from : number 9 0 0 ≤ n = subst (λ k. number 9 0 0 ≤ k) is.number (epoch_ge e.display e.epoch) in
    record {
      rows = λ m lt. subst (IsStored IsSavedText (found number_of_kept m core.rows)) (sym (next m ∙ other n m text (rows_below n kept m) (apart_below n m (number 8 0 0) lt (le_le (number 8 0 0) (number 9 0 0) n eight_nine from)))) (r.rows m lt);
      clients = λ m ge lt. next m ∙ (other n m text (rows_below n kept m) (apart_below n m (number 9 0 0) lt from) ∙ r.clients m ge lt);
      epochs = λ m ge lt. next m ∙ mapped_put epoch_number epoch_bytes e core.epochs n m text (rows_below n kept m) is.number is.says (r.epochs m ge lt);
    }

client_fits : (c : Client) → IsClient c → c.client < 2 ^ 32
client_fits c h = id_fits c.client (and_parts (is_id c.client) (is_id c.last && is_kept c.last c.reply) h).0

-- the row after those below its number
pub rows_with : (core : Core) (kept : ℕ → Option (List ℕ)) (n : ℕ) (text : List ℕ) (item : Item) → AreRows core (rows_below n kept) → kept n ≡ Some text → Reads core n text item → AreRows (with_item item core) (rows_below (n + 1) kept)
rows_with core kept n text (OfTables e) r there is = with_saved core kept n text e r there is
rows_with core kept n text (OfClient c) r there is = with_client core kept n text c (client_fits c is.client) r there is
rows_with core kept n text (OfEpoch e) r there is = with_epoch core kept n text e r there is

-- ---- all rows

-- rows that are the same below those of plays
pub rows_agree : (core : Core) (rows qs : ℕ → Option (List ℕ)) → ((n : ℕ) → n < number 10 0 0 → qs n ≡ rows n) → AreRows core rows → AreRows core qs
rows_agree core rows qs same r = record {
  rows = λ n lt. subst (IsStored IsSavedText (found number_of_kept n core.rows)) (sym (same n (lt_le n (number 8 0 0) (number 10 0 0) lt eight_ten))) (r.rows n lt);
  clients = λ n low high. same n (lt_le n (number 9 0 0) (number 10 0 0) high nine_ten) ∙ r.clients n low high;
  epochs = λ n low high. same n high ∙ r.epochs n low high;
}

-- rows that have none in between
pub rows_gap : (core : Core) (kept : ℕ → Option (List ℕ)) (start end : ℕ) → start ≤ end → ((n : ℕ) → start ≤ n → n < end → kept n ≡ None) → AreRows core (rows_below start kept) → AreRows core (rows_below end kept)
rows_gap core kept start end le gap r = rows_agree core (rows_below start kept) (rows_below end kept) (λ n _. sym (below_same kept start end le gap n)) r

-- ---- what one kind of rows says

pub saved_joins : {T E : Type 0} (core : Core) (n : ℕ) (text : List ℕ) (new : List Kept) (r : Result T E) → OnOk r ((e : Kept) × IsOfTables core.rows n text e × (new ≡ put number_of_kept e core.rows)) → OnOk r (Joins core n text (record core { rows = new }))
saved_joins core n text new (Ok x) h = (OfTables h.0, h.1, ap (λ (l : List Kept). record core { rows = l }) h.2)
saved_joins core n text new (Err f) h = tt

pub client_joins : {T E : Type 0} (core : Core) (n : ℕ) (text : List ℕ) (new : List Client) (r : Result T E) → OnOk r ((c : Client) × IsOfClient core.clients n text c × (new ≡ put client_number c core.clients)) → OnOk r (Joins core n text (record core { clients = new }))
client_joins core n text new (Ok x) h = (OfClient h.0, h.1, ap (λ (l : List Client). record core { clients = l }) h.2)
client_joins core n text new (Err f) h = tt

pub epoch_joins : {T E : Type 0} (core : Core) (n : ℕ) (text : List ℕ) (new : List Epoch) (r : Result T E) → OnOk r ((e : Epoch) × IsOfEpoch core.limit core.epochs n text e × (new ≡ put epoch_number e core.epochs)) → OnOk r (Joins core n text (record core { epochs = new }))
epoch_joins core n text new (Ok x) h = (OfEpoch h.0, h.1, ap (λ (l : List Epoch). record core { epochs = l }) h.2)
epoch_joins core n text new (Err f) h = tt
