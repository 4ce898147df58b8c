-- The rows that stand for a server and its content, after each change of them.
use Rattle.std.proofs.Common.{◌≡◌, ◌∙◌, ◌⊎◌, ℕ, zero, suc, ◌+◌, ◌-◌, ◌*◌, ◌/◌, ◌^◌, ◌<◌, ◌≤◌, Bool, true, false, cond, eqb, List, [], ◌∷◌, ◌++◌, length, Option, Some, None, Ok, Err, refl, ap, sym, subst, arith, inl, inr, lit<}
use Rattle.std.specs.Prelude.{option_map}
use Rattle.std.proofs.lemmas.Bool.{eq-eqb, le-ltb}
use Rattle.sg_base.specs.declared.kind.Kind.{Kind}
use Rattle.sg_base.specs.declared.kind.Kind.TheVariants as kind
use Rattle.sg_base.specs.declared.row.Row.{Row}
use Rattle.sg_base.specs.declared.row.Row.TheVariants as row
use Rattle.sg_base.specs.Keys.{number}
use Rattle.sg_base.specs.Rising.{found, put, without}
use Rattle.sg_base.specs.Rows.{kind_of}
use Rattle.sg_base.proofs.RisingLemmas.{by_equal, found-put, found-without}
use Rattle.sg_steps.specs.Calls.{AsksValid, changed_by, pieces_of, without_pieces, without_row}
use Rattle.sg_steps.specs.State.{AreContent, AreRows, Content, Core, IsStored, Stands, piece_at, received_in, received_of}
use Rattle.sg_steps.specs.Step.{content_in, if_there}
use Rattle.sg_steps.proofs.ChangeLemmas.{pieces_here, pieces_other, row_other}
use Rattle.sg_steps.proofs.NumberLemmas.{apart_above, apart_below, below_or, client_ge, client_lt, code_one, eight_nine, eight_ten, id_one, le_le, lt_le, lt_lt, nine_ten, piece_ge, piece_media, piece_same, pieces_cover, pieces_few, play_ge, play_lt, row_lt, ten_eleven}
use Rattle.sg_keeper.specs.Changes.{with_row}
use Rattle.sg_records.specs.declared.client.Client.{Client}
use Rattle.sg_records.specs.declared.epoch.Epoch.{Epoch}
use Rattle.sg_records.specs.Clients.{client_number, client_text}
use Rattle.sg_records.specs.Numbers.{epoch_bytes, epoch_number, piece_number, play_number}
use Rattle.sg_records.specs.Saved.{IsSavedText, saved_text}
use Rattle.sg_records.proofs.SavedLemmas.{row_id}
use Rattle.sg_edit_rows.specs.EditRows.{IsRow}
use Rattle.sg_rows.specs.declared.form.RowForm.TheVariants.{Edit}
use Rattle.sg_tables.specs.declared.change.TableChange.{TableChange}
use Rattle.sg_tables.specs.declared.change.TableChange.TheVariants as change
use Rattle.sg_tables.specs.Entries.{Kept, after, fresh, is_media, number_of_kept}
use Rattle.sg_tables.specs.Refusals.{refusal, row_at}
use Rattle.sg_tables.proofs.CountLemmas.{is_new, media_code}
use Rattle.sg_tables.specs.Rows.{at, code_of, id_in, id_of, number_at}

-- ---- numbers that aren't one

ten_piece : (m i : ℕ) → number 10 0 0 ≤ piece_number m i
ten_piece m i = le_le (number 10 0 0) (number 11 0 0) (piece_number m i) ten_eleven (piece_ge m i)

nine_piece : (m i : ℕ) → number 9 0 0 ≤ piece_number m i
nine_piece m i = le_le (number 9 0 0) (number 10 0 0) (piece_number m i) nine_ten (ten_piece m i)

nine_play : (d e n : ℕ) → number 9 0 0 ≤ play_number d e n
nine_play d e n = le_le (number 9 0 0) (number 10 0 0) (play_number d e n) nine_ten (play_ge d e n)

pub wide : (n : ℕ) → n < 2 ^ 32 → n < 2 ^ 64
wide n h = omega arith

pub index_fits : (r j : ℕ) → r < 2 ^ 32 → j < pieces_of r → j < 2 ^ 64
index_fits r j short lt = lt_lt j (pieces_of r) (2 ^ 64) lt (pieces_few r short)

not_below : (j c i : ℕ) → j < c → c ≤ i → j ≡ i → ⊥
not_below j c i lt le e = omega arith

pub media_lt : (id : ℕ) → id < 2 ^ 32 → number_at (at kind.Media id) < number 8 0 0
media_lt id fits = row_lt 1 id (lit< tt) fits

pub row_no_piece : (id : ℕ) → id < 2 ^ 32 → (m i : ℕ) → number_at (at kind.Media id) ≡ piece_number m i → ⊥
row_no_piece id fits m i = apart_above (number_at (at kind.Media id)) (piece_number m i) (number 8 0 0) (media_lt id fits) (le_le (number 8 0 0) (number 9 0 0) (piece_number m i) eight_nine (nine_piece m i))

pub row_no_play : (id : ℕ) → id < 2 ^ 32 → (d e n : ℕ) → number_at (at kind.Media id) ≡ play_number d e n → ⊥
row_no_play id fits d e n = apart_above (number_at (at kind.Media id)) (play_number d e n) (number 8 0 0) (media_lt id fits) (le_le (number 8 0 0) (number 10 0 0) (play_number d e n) eight_ten (play_ge d e n))

more_one : (c : ℕ) → 1 < c → c ≡ 1 → ⊥
more_one c lt e = omega arith

no_code : (c id m : ℕ) → id < 2 ^ 32 → m < 2 ^ 32 → (c ≡ 1 → ⊥) → number c id 0 ≡ number 1 m 0 → ⊥
no_code c id m fits low ne e = ne (code_one c id m fits low e)

same_or : (a b : ℕ) → (a ≡ b) ⊎ (a ≡ b → ⊥)
same_or a b = by_equal a b (λ _. (a ≡ b) ⊎ (a ≡ b → ⊥)) (λ e. inl e) (λ ne. inr ne)

-- ---- rows that stay

pub rows_same : (core : Core) (rows qs : ℕ → Option (List ℕ)) → ((n : ℕ) → n < number 10 0 0 → qs n ≡ rows n) → AreRows core rows → AreRows core qs
rows_same core rows qs same r = record {
  rows = λ n lt. subst (IsStored IsSavedText (found number_of_kept n core.rows)) (sym (same n (lt_le n (number 8 0 0) (number 10 0 0) lt eight_ten))) (r.rows n lt);
  clients = λ n low high. same n (lt_le n (number 9 0 0) (number 10 0 0) high nine_ten) ∙ r.clients n low high;
  epochs = λ n low high. same n high ∙ r.epochs n low high;
}

pub content_same : (core : Core) (content : Content) (rows qs : ℕ → Option (List ℕ)) → ((n : ℕ) → number 10 0 0 ≤ n → qs n ≡ rows n) → AreContent core content rows → AreContent core content qs
content_same core content rows qs same r = record {
  received = r.received;
  pieces = λ m i fits low. same (piece_number m i) (ten_piece m i) ∙ r.pieces m i fits low;
  counts = r.counts;
  plays = λ d e n fits low few. same (play_number d e n) (play_ge d e n) ∙ r.plays d e n fits low few;
}

-- ---- what is put among clients and epochs

pub mapped : {A : Type 0} (text : A → List ℕ) (b : Bool) (x : A) (r : Option A) → cond b (Some (text x)) (option_map text r) ≡ option_map text (cond b (Some x) r)
mapped text true x r = refl
mapped text false x r = refl

-- the rows of a table with one of them put
pub table_put : {A : Type 0} (rank : A → ℕ) (text : A → List ℕ) (x : A) (xs : List A) (rows : ℕ → Option (List ℕ)) (n : ℕ) → rows n ≡ option_map text (found rank n xs) → with_row (rank x) (Some (text x)) rows n ≡ option_map text (found rank n (put rank x xs))
table_put rank text x xs rows n is =
    ap (λ r. cond (eqb (rank x) n) (Some (text x)) r) is
    ∙ (mapped text (eqb (rank x) n) x (found rank n xs) ∙ ap (option_map text) (sym (found-put rank n x xs)))

pub stands_client : (core : Core) (content : Content) (rows : ℕ → Option (List ℕ)) (k : Client) → k.client < 2 ^ 32 → Stands core content rows
    → Stands (record core { clients = put client_number k core.clients }) content (with_row (client_number k) (Some (client_text k)) rows)
stands_client core content rows k small s = record {
  rows = record {
    rows = λ n lt. subst (IsStored IsSavedText (found number_of_kept n core.rows)) (sym (row_other (client_number k) (Some (client_text k)) rows n (apart_below (client_number k) n (number 8 0 0) lt (client_ge k.client)))) (s.rows.rows n lt);
    clients = λ n low high. table_put client_number client_text k core.clients rows n (s.rows.clients n low high);
    epochs = λ n low high. row_other (client_number k) (Some (client_text k)) rows n (apart_above (client_number k) n (number 9 0 0) (client_lt k.client small) low) ∙ s.rows.epochs n low high;
  };
  content = record {
    received = s.content.received;
    pieces = λ m i fits low. row_other (client_number k) (Some (client_text k)) rows (piece_number m i) (apart_above (client_number k) (piece_number m i) (number 9 0 0) (client_lt k.client small) (nine_piece m i)) ∙ s.content.pieces m i fits low;
    counts = s.content.counts;
    plays = λ d e n fits low few. row_other (client_number k) (Some (client_text k)) rows (play_number d e n) (apart_above (client_number k) (play_number d e n) (number 9 0 0) (client_lt k.client small) (nine_play d e n)) ∙ s.content.plays d e n fits low few;
  };
}

-- ---- a change of the tables

stored : {A : Type 0} (R : A → List ℕ → Type 0) (b : Bool) (x : A) (text : List ℕ) (r : Option A) (row : Option (List ℕ)) → R x text → IsStored R r row → IsStored R (cond b (Some x) r) (cond b (Some text) row)
stored R true x text r row is old = (text, refl, is)
stored R false x text r row is old = old

stored_none : {A : Type 0} (R : A → List ℕ → Type 0) (b : Bool) (r : Option A) (row : Option (List ℕ)) → IsStored R r row → IsStored R (cond b None r) (cond b None row)
stored_none R true r row old = refl
stored_none R false r row old = old

-- the kind of a row isn't that of clients
row_code : (r : Row) → code_of (kind_of r) < 8
row_code (row.Media f) = omega arith
row_code (row.Layout l) = omega arith
row_code (row.Campaign c) = omega arith
row_code (row.Daypart d) = omega arith
row_code (row.Group g) = omega arith
row_code (row.Display d) = omega arith
row_code (row.Event e) = omega arith

-- rows with one put
rows_put : (core : Core) (rows : ℕ → Option (List ℕ)) (e : Kept) → number_of_kept e < number 8 0 0 → AreRows core rows
    → AreRows (record core { rows = put number_of_kept e core.rows }) (with_row (number_of_kept e) (Some (saved_text e)) rows)
rows_put core rows e low r = record {
  rows = λ n lt. subst (λ f. IsStored IsSavedText f (with_row (number_of_kept e) (Some (saved_text e)) rows n)) (sym (found-put number_of_kept n e core.rows))
      (stored IsSavedText (eqb (number_of_kept e) n) e (saved_text e) (found number_of_kept n core.rows) (rows n) (inl refl) (r.rows n lt));
  clients = λ n ge lt. row_other (number_of_kept e) (Some (saved_text e)) rows n (apart_above (number_of_kept e) n (number 8 0 0) low ge) ∙ r.clients n ge lt;
  epochs = λ n ge lt. row_other (number_of_kept e) (Some (saved_text e)) rows n (apart_above (number_of_kept e) n (number 8 0 0) low (le_le (number 8 0 0) (number 9 0 0) n eight_nine ge)) ∙ r.epochs n ge lt;
}

-- and with one taken out
rows_without : (core : Core) (rows : ℕ → Option (List ℕ)) (k : ℕ) → k < number 8 0 0 → AreRows core rows
    → AreRows (record core { rows = without number_of_kept k core.rows }) (with_row k None rows)
rows_without core rows k low r = record {
  rows = λ n lt. subst (λ f. IsStored IsSavedText f (with_row k None rows n)) (sym (found-without number_of_kept k n core.rows))
      (stored_none IsSavedText (eqb k n) (found number_of_kept n core.rows) (rows n) (r.rows n lt));
  clients = λ n ge lt. row_other k None rows n (apart_above k n (number 8 0 0) low ge) ∙ r.clients n ge lt;
  epochs = λ n ge lt. row_other k None rows n (apart_above k n (number 8 0 0) low (le_le (number 8 0 0) (number 9 0 0) n eight_nine ge)) ∙ r.epochs n ge lt;
}

-- ---- content that stays

there_length : (r : Option Kept) (bytes : List ℕ) → received_in r ≡ length bytes → received_in r ≡ length (if_there r bytes)
there_length None bytes e = refl
there_length (Some k) bytes e = e

pub no_piece : (i : ℕ) (bytes : List ℕ) → length bytes ≤ i * 65536 → piece_at i bytes ≡ None
no_piece i bytes le = rw (le-ltb (i * 65536) (length bytes) le) refl

there_piece : (r : Option Kept) (bytes : List ℕ) (i : ℕ) → received_in r ≡ length bytes → piece_at i (if_there r bytes) ≡ piece_at i bytes
there_piece None bytes i e = no_piece i [] (omega arith) ∙ sym (no_piece i bytes (omega (arith, e)))
there_piece (Some k) bytes i e = refl

-- a change of the rows that leaves how much of each medium has come
pub content_kept : (core : Core) (content : Content) (kept : List Kept) (rows qs : ℕ → Option (List ℕ)) → ((m : ℕ) → m < 2 ^ 32 → received_of m kept ≡ received_of m core.rows)
    → ((n : ℕ) → number 10 0 0 ≤ n → qs n ≡ rows n) → AreContent core content rows → AreContent (record core { rows = kept }) (content_in kept content) qs
content_kept core content kept rows qs received same r = record {
  received = λ m fits. there_length (row_at (at kind.Media m) kept) (content.bytes m) (received m fits ∙ r.received m fits);
  pieces = λ m i fits low. same (piece_number m i) (ten_piece m i) ∙ (r.pieces m i fits low ∙ sym (there_piece (row_at (at kind.Media m) kept) (content.bytes m) i (received m fits ∙ r.received m fits)));
  counts = r.counts;
  plays = λ d e n fits low few. same (play_number d e n) (play_ge d e n) ∙ r.plays d e n fits low few;
}

-- ---- each change

-- how much has come of a medium where a row was put
received_put : (e : Kept) (rows : List Kept) (m : ℕ) → (number_of_kept e ≡ number_at (at kind.Media m) → e.received ≡ received_of m rows) → received_of m (put number_of_kept e rows) ≡ received_of m rows
received_put e rows m here =
    ap received_in (found-put number_of_kept (number_at (at kind.Media m)) e rows)
    ∙ by_equal (number_of_kept e) (number_at (at kind.Media m)) (λ b. received_in (cond b (Some e) (row_at (at kind.Media m) rows)) ≡ received_of m rows) here (λ _. refl)

received_insert : (r : Row) (rows : List Kept) (m : ℕ) → refusal rows (change.Insert r) ≡ None → received_of m (put number_of_kept (fresh r) rows) ≡ received_of m rows
received_insert r rows m allowed = received_put (fresh r) rows m (λ e.
    let none = is_new rows r allowed in
    let here : row_at (at kind.Media m) rows ≡ None = ap (λ n. found number_of_kept n rows) (sym e) ∙ none in
    sym (ap received_in here))

received_replace : (r : Row) (rows : List Kept) (m : ℕ) → IsRow Edit r → is_media r ≡ false → m < 2 ^ 32 → received_of m (put number_of_kept (fresh r) rows) ≡ received_of m rows
received_replace r rows m h other fits = received_put (fresh r) rows m (λ e.
    let code = code_one (code_of (kind_of r)) (id_in r) m (row_id r h) fits e in
    let is : is_media r ≡ true = media_code r ∙ eq-eqb (code_of (kind_of r)) 1 code in
    absurd (cc))

low_row : (r : Row) → IsRow Edit r → number_at (id_of r) < number 8 0 0
low_row r h = row_lt (code_of (kind_of r)) (id_in r) (row_code r) (row_id r h)

pub stands_put : (core : Core) (content : Content) (rows : ℕ → Option (List ℕ)) (r : Row) → IsRow Edit r → ((m : ℕ) → m < 2 ^ 32 → received_of m (put number_of_kept (fresh r) core.rows) ≡ received_of m core.rows) → Stands core content rows
    → Stands (record core { rows = put number_of_kept (fresh r) core.rows }) (content_in (put number_of_kept (fresh r) core.rows) content) (with_row (number_at (id_of r)) (Some (saved_text (fresh r))) rows)
stands_put core content rows r h received s =
    let low = low_row r h in record {
      rows = rows_put core rows (fresh r) low s.rows;
      content = content_kept core content (put number_of_kept (fresh r) core.rows) rows (with_row (number_at (id_of r)) (Some (saved_text (fresh r))) rows) received
          (λ n ge. row_other (number_at (id_of r)) (Some (saved_text (fresh r))) rows n (apart_above (number_at (id_of r)) n (number 8 0 0) low (le_le (number 8 0 0) (number 10 0 0) n eight_ten ge))) s.content;
    }

-- what has come of a medium where a row was taken out
received_without : (k : ℕ) (rows : List Kept) (m : ℕ) → (k ≡ number_at (at kind.Media m) → ⊥) → received_of m (without number_of_kept k rows) ≡ received_of m rows
received_without k rows m ne =
    ap received_in (found-without number_of_kept k (number_at (at kind.Media m)) rows)
    ∙ by_equal k (number_at (at kind.Media m)) (λ b. received_in (cond b None (row_at (at kind.Media m) rows)) ≡ received_of m rows) (λ e. absurd (ne e)) (λ _. refl)

stands_without : (core : Core) (content : Content) (rows : ℕ → Option (List ℕ)) (k : ℕ) → k < number 8 0 0 → ((m : ℕ) → m < 2 ^ 32 → k ≡ number_at (at kind.Media m) → ⊥) → Stands core content rows
    → Stands (record core { rows = without number_of_kept k core.rows }) (content_in (without number_of_kept k core.rows) content) (with_row k None rows)
stands_without core content rows k low ne s = record {
  rows = rows_without core rows k low s.rows;
  content = content_kept core content (without number_of_kept k core.rows) rows (with_row k None rows) (λ m fits. received_without k core.rows m (ne m fits))
      (λ n ge. row_other k None rows n (apart_above k n (number 8 0 0) low (le_le (number 8 0 0) (number 10 0 0) n eight_ten ge))) s.content;
}

gone : (k : ℕ) (rows : List Kept) → found number_of_kept k (without number_of_kept k rows) ≡ None
gone k rows = found-without number_of_kept k k rows ∙ rw (eq-eqb k k refl) refl

-- where a medium that goes had its pieces there is none
piece_gone : (core : Core) (content : Content) (rows : ℕ → Option (List ℕ)) (id m i : ℕ) → id < 2 ^ 32 → received_of id core.rows < 2 ^ 32 → m ≡ id → i < 2 ^ 32 → Stands core content rows → without_row kind.Media id core.rows rows (piece_number m i) ≡ None
piece_gone core content rows id m i fits short e few s =
    let k : ℕ = number_at (at kind.Media id) in
    let less : ℕ → Option (List ℕ) = with_row (number_at (at kind.Media id)) None rows in
    let count : ℕ = pieces_of (received_of id core.rows) in
    let have = s.content.received id fits in
    elim (below_or i (pieces_of (received_of id core.rows))) [
      | inl lt ↦ ap (λ x. without_row kind.Media id core.rows rows (piece_number x i)) e ∙ pieces_here id count less i lt
      | inr ge ↦
          ap (λ x. without_row kind.Media id core.rows rows (piece_number x i)) e
          ∙ (pieces_other id count less (piece_number id i) (λ j lt q. not_below j (pieces_of (received_of id core.rows)) i lt ge (piece_same id j i q))
          ∙ (row_other k None rows (piece_number id i) (row_no_piece id fits id i)
          ∙ (s.content.pieces id i fits few ∙ no_piece i (content.bytes id) (subst (λ r. r ≤ i * 65536) have (pieces_cover (received_of id core.rows) i ge)))))
    ]

piece_stays : (core : Core) (content : Content) (rows : ℕ → Option (List ℕ)) (id m i : ℕ) → id < 2 ^ 32 → received_of id core.rows < 2 ^ 32 → m < 2 ^ 32 → i < 2 ^ 32 → received_of m (without number_of_kept (number_at (at kind.Media id)) core.rows) ≡ received_of m core.rows → (m ≡ id → ⊥) → Stands core content rows
    → without_row kind.Media id core.rows rows (piece_number m i) ≡ piece_at i (if_there (row_at (at kind.Media m) (without number_of_kept (number_at (at kind.Media id)) core.rows)) (content.bytes m))
piece_stays core content rows id m i fits short low few same ne s =
    let k : ℕ = number_at (at kind.Media id) in
    let less : ℕ → Option (List ℕ) = with_row (number_at (at kind.Media id)) None rows in
    pieces_other id (pieces_of (received_of id core.rows)) less (piece_number m i)
    (λ j lt q. ne (sym (piece_media id j m i (index_fits (received_of id core.rows) j short lt) (wide i few) q)))
    ∙ (row_other k None rows (piece_number m i) (row_no_piece id fits m i)
    ∙ (s.content.pieces m i low few ∙ sym (there_piece (row_at (at kind.Media m) (without number_of_kept (number_at (at kind.Media id)) core.rows)) (content.bytes m) i (same ∙ s.content.received m low))))

-- a medium that goes with its pieces
stands_medium_gone : (core : Core) (content : Content) (rows : ℕ → Option (List ℕ)) (id : ℕ) → id < 2 ^ 32 → received_of id core.rows < 2 ^ 32 → Stands core content rows
    → Stands (record core { rows = without number_of_kept (number_at (at kind.Media id)) core.rows }) (content_in (without number_of_kept (number_at (at kind.Media id)) core.rows) content) (without_row kind.Media id core.rows rows)
stands_medium_gone core content rows id fits short s =
    let k : ℕ = number_at (at kind.Media id) in
    let kept : List Kept = without number_of_kept (number_at (at kind.Media id)) core.rows in
    let less : ℕ → Option (List ℕ) = with_row (number_at (at kind.Media id)) None rows in
    let count : ℕ = pieces_of (received_of id core.rows) in
    let nothing : (m : ℕ) → m ≡ id → row_at (at kind.Media m) (without number_of_kept (number_at (at kind.Media id)) core.rows) ≡ None =
    (λ m e. ap (λ x. row_at (at kind.Media x) (without number_of_kept (number_at (at kind.Media id)) core.rows)) e ∙ gone (number_at (at kind.Media id)) core.rows) in
    let others : (m : ℕ) → m < 2 ^ 32 → (m ≡ id → ⊥) → received_of m (without number_of_kept (number_at (at kind.Media id)) core.rows) ≡ received_of m core.rows =
    (λ m low ne. received_without (number_at (at kind.Media id)) core.rows m (λ e. ne (sym (id_one id m e)))) in
    record {
      rows = rows_same (record core { rows = without number_of_kept (number_at (at kind.Media id)) core.rows }) less (without_row kind.Media id core.rows rows)
          (λ n low. pieces_other id count less n (λ i lt. apart_below (piece_number id i) n (number 10 0 0) low (ten_piece id i))) (rows_without core rows k (media_lt id fits) s.rows);
      content = record {
        received = λ m low. elim (same_or m id) [
          | inl e ↦ rw (nothing m e) refl
          | inr ne ↦ there_length (row_at (at kind.Media m) kept) (content.bytes m) (others m low ne ∙ s.content.received m low)
        ];
        pieces = λ m i low few. elim (same_or m id) [
          | inl e ↦ piece_gone core content rows id m i fits short e few s ∙ sym (ap (λ r. piece_at i (if_there r (content.bytes m))) (nothing m e) ∙ no_piece i [] (omega arith))
          | inr ne ↦ piece_stays core content rows id m i fits short low few (others m low ne) ne s
        ];
        counts = s.content.counts;
        plays = λ d e n low few small. pieces_other id count less (play_number d e n) (λ i lt q. apart_above (play_number d e n) (piece_number id i) (number 11 0 0) (play_lt d e n low few (wide n small)) (piece_ge id i) (sym q))
            ∙ (row_other k None rows (play_number d e n) (row_no_play id fits d e n) ∙ s.content.plays d e n low few small);
      };
    }

-- ---- any change

removed : (core : Core) (content : Content) (rows : ℕ → Option (List ℕ)) (k : Kind) (id : ℕ) → id < 2 ^ 32 → received_of id core.rows < 2 ^ 32 → (k ≡ kind.Client → ⊥) → Stands core content rows
    → Stands (record core { rows = without number_of_kept (number_at (at k id)) core.rows }) (content_in (without number_of_kept (number_at (at k id)) core.rows) content) (without_row k id core.rows rows)
removed core content rows kind.Media id fits short ne s = stands_medium_gone core content rows id fits short s
removed core content rows kind.Layout id fits short ne s = stands_without core content rows (number_at (at kind.Layout id)) (row_lt 2 id (lit< tt) fits) (λ m low e. no_code 2 id m fits low (more_one 2 (lit< tt)) e) s
removed core content rows kind.Campaign id fits short ne s = stands_without core content rows (number_at (at kind.Campaign id)) (row_lt 3 id (lit< tt) fits) (λ m low e. no_code 3 id m fits low (more_one 3 (lit< tt)) e) s
removed core content rows kind.Daypart id fits short ne s = stands_without core content rows (number_at (at kind.Daypart id)) (row_lt 4 id (lit< tt) fits) (λ m low e. no_code 4 id m fits low (more_one 4 (lit< tt)) e) s
removed core content rows kind.Group id fits short ne s = stands_without core content rows (number_at (at kind.Group id)) (row_lt 5 id (lit< tt) fits) (λ m low e. no_code 5 id m fits low (more_one 5 (lit< tt)) e) s
removed core content rows kind.Display id fits short ne s = stands_without core content rows (number_at (at kind.Display id)) (row_lt 6 id (lit< tt) fits) (λ m low e. no_code 6 id m fits low (more_one 6 (lit< tt)) e) s
removed core content rows kind.Event id fits short ne s = stands_without core content rows (number_at (at kind.Event id)) (row_lt 7 id (lit< tt) fits) (λ m low e. no_code 7 id m fits low (more_one 7 (lit< tt)) e) s
removed core content rows kind.Client id fits short ne s = absurd (ne refl)

-- the rows stand for the server after a change that nothing refuses
pub stands_changed : (core : Core) (content : Content) (rows : ℕ → Option (List ℕ)) (c : TableChange) → AsksValid c → ((id : ℕ) → received_of id core.rows < 2 ^ 32) → refusal core.rows c ≡ None → Stands core content rows
    → Stands (record core { rows = after core.rows c }) (content_in (after core.rows c) content) (changed_by c core.rows rows)
stands_changed core content rows (change.Insert r) h short allowed s = stands_put core content rows r h (λ m low. received_insert r core.rows m allowed) s
stands_changed core content rows (change.Replace r) h short allowed s = stands_put core content rows r h.0 (λ m low. received_replace r core.rows m h.0 h.1 low) s
stands_changed core content rows (change.Remove k id) h short allowed s = removed core content rows k id h.0 (short id) h.1 s
