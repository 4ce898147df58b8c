-- The same rows stand for one server alone.
use Rattle.std.proofs.Common.{◌≡◌, ◌∙◌, ◌⊎◌, ⊎_elim, ℕ, ◌^◌, ◌<◌, ◌≤◌, Bool, true, cond, eqb, List, [], ◌∷◌, Option, Some, None, refl, ap, sym, subst, arith, inl, inr}
use Rattle.std.specs.Prelude.{option_map}
use Rattle.std.specs.Int.{w32, from_le_bytes}
use Rattle.std.specs.List.{AllByRecursion}
use Rattle.std.proofs.lemmas.Bool.{and_parts, cases_order, eqb-true}
use Rattle.std.proofs.lemmas.Nat.{from_le_bytes-to_le_bytes_4}
use Rattle.serde_json.specs.Data.{Data}
use Rattle.serde_json.specs.Read.{read}
use Rattle.sg_base.specs.declared.file.Listed.{Listed}
use Rattle.sg_base.specs.declared.row.Row.{Row}
use Rattle.sg_base.specs.declared.row.Row.TheVariants as row
use Rattle.sg_base.specs.Keys.{number}
use Rattle.sg_base.specs.Rising.{found}
use Rattle.sg_base.specs.Rows.{kind_of}
use Rattle.sg_base.proofs.RisingLemmas.{by_equal, found_outside, rank_found, same_rising}
use Rattle.sg_edit_runs.specs.Laws.{IsOneServer}
use Rattle.sg_loading.proofs.OneRow.{one_row}
use Rattle.sg_records.specs.declared.client.Client.{Client}
use Rattle.sg_records.specs.declared.epoch.Epoch.{Epoch}
use Rattle.sg_records.specs.Clients.{IsClient, client_json, client_number, client_text}
use Rattle.sg_records.specs.Numbers.{epoch_bytes, epoch_number}
use Rattle.sg_records.specs.Reading.{client_in}
use Rattle.sg_records.specs.Saved.{IsSaved, IsSavedText, is_state, medium_json}
use Rattle.sg_records.proofs.ReplyLemmas.{client_again}
use Rattle.sg_records.proofs.SavedLemmas.{json_kept, row_id}
use Rattle.sg_records.proofs.SoundSaved.{client_sound, id_fits}
use Rattle.sg_rows.proofs.CompactSound.{read-Sound}
use Rattle.sg_steps.specs.State.{AreRows, Core, IsNumbered, IsServer, IsStored}
use Rattle.sg_steps.proofs.NumberLemmas.{below_or, client_ge, client_lt, epoch_ge, epoch_lt, epoch_same, row_lt}
use Rattle.sg_tables.specs.Entries.{Kept, number_of_kept}
use Rattle.sg_tables.specs.Rows.{code_of}

-- ---- what is found

-- what is found is one of them
found_all : {A : Type 0} (rank : A → ℕ) (P : A → Type 0) (n : ℕ) (x : A) (xs : List A) → AllByRecursion P xs → found rank n xs ≡ Some x → P x
found_all rank P n x [] a f = absurd (cc)
found_all rank P n x (y ∷ ys) a f = by_equal (rank y) n (λ b. cond b (Some y) (found rank n ys) ≡ Some x → P x)
    (λ _ h. let is : y ≡ x = cc in subst P is a.0)
    (λ _ h. found_all rank P n x ys a.1 h) f

all_into : {A : Type 0} (P Q : A → Type 0) (xs : List A) → ((x : A) → P x → Q x) → AllByRecursion P xs → AllByRecursion Q xs
all_into P Q [] follows a = tt
all_into P Q (x ∷ xs) follows a = (follows x a.0, all_into P Q xs follows a.1)

-- elements of one text are one: so what has the texts of a row is one
one_mapped : {A : Type 0} (text : A → List ℕ) (r s : Option A) → ((x y : A) → r ≡ Some x → s ≡ Some y → text x ≡ text y → x ≡ y) → option_map text r ≡ option_map text s → r ≡ s
one_mapped text None None one e = refl
one_mapped text None (Some y) one e = absurd (cc)
one_mapped text (Some x) None one e = absurd (cc)
one_mapped text (Some x) (Some y) one e = let same : text x ≡ text y = cc in ap Some (one x y refl refl same)

one_stored : {A : Type 0} (R : A → List ℕ → Type 0) (r s : Option A) (row : Option (List ℕ)) → ((x y : A) (text : List ℕ) → r ≡ Some x → s ≡ Some y → R x text → R y text → x ≡ y) → IsStored R r row → IsStored R s row → r ≡ s
one_stored R None None row one a b = refl
one_stored R None (Some y) row one a b = let q = b.1 in absurd (cc)
one_stored R (Some x) None row one a b = let q = a.1 in absurd (cc)
one_stored R (Some x) (Some y) row one a b =
    let p = a.1 in let q = b.1 in let same : a.0 ≡ b.0 = cc in
    ap Some (one x y b.0 refl refl (subst (R x) same a.2) b.2)

-- ---- rows

same_data : (a b : Data) → ◌≡◌ {A = Option Data} (Some a) (Some b) → a ≡ b
same_data a b e = cc

same_received : (f : Listed) (m n : ℕ) (c k : Bool) → medium_json f m c ≡ medium_json f n k → m ≡ n
same_received f m n c k e = cc

same_complete : (f : Listed) (m n : ℕ) (c k : Bool) → medium_json f m c ≡ medium_json f n k → c ≡ k
same_complete f m n c k e = cc

abbrev entry : Row → ℕ → Bool → Kept
entry r received complete = record { row = r; received = received; complete = complete }

-- what has come of a medium is said by the text
medium_state : (f : Listed) (m n : ℕ) (c k : Bool) (text : List ℕ) → IsSaved (entry (row.Media f) m c) → IsSaved (entry (row.Media f) n k) → IsSavedText (entry (row.Media f) m c) text → IsSavedText (entry (row.Media f) n k) text → entry (row.Media f) m c ≡ entry (row.Media f) n k
medium_state f m n c k text h i says too =
    let a = json_kept (entry (row.Media f) m c) text h says in
    let b = json_kept (entry (row.Media f) n k) text i too in
    let json : a.json ≡ b.json = same_data a.json b.json (sym a.again ∙ (ap read (sym a.text ∙ b.text) ∙ b.again)) in
    let first : a.json ≡ medium_json f m c = ⊎_elim (λ e. e) (λ older. absurd (cc)) a.said in
    let second : b.json ≡ medium_json f n k = ⊎_elim (λ e. e) (λ older. absurd (cc)) b.said in
    let both : medium_json f m c ≡ medium_json f n k = sym first ∙ (json ∙ second) in
    ap (λ x. entry (row.Media f) x c) (same_received f m n c k both) ∙ ap (entry (row.Media f) n) (same_complete f m n c k both)

-- of other rows nothing comes
other_state : (r : Row) (m n : ℕ) (c k : Bool) → is_state None m c ≡ true → is_state None n k ≡ true → entry r m c ≡ entry r n k
other_state r m n c k a b =
    let p = and_parts (eqb m 0) c a in
    let q = and_parts (eqb n 0) k b in
    let same : m ≡ n = eqb-true m 0 p.0 ∙ sym (eqb-true n 0 q.0) in
    ap (λ x. entry r x c) same ∙ ap (entry r n) (p.1 ∙ sym q.1)

one_state : (r : Row) (m n : ℕ) (c k : Bool) (text : List ℕ) → IsSaved (entry r m c) → IsSaved (entry r n k) → IsSavedText (entry r m c) text → IsSavedText (entry r n k) text → entry r m c ≡ entry r n k
one_state (row.Media f) m n c k text h i says too = medium_state f m n c k text h i says too
one_state (row.Layout l) m n c k text h i says too = other_state (row.Layout l) m n c k h.state i.state
one_state (row.Campaign x) m n c k text h i says too = other_state (row.Campaign x) m n c k h.state i.state
one_state (row.Daypart d) m n c k text h i says too = other_state (row.Daypart d) m n c k h.state i.state
one_state (row.Group g) m n c k text h i says too = other_state (row.Group g) m n c k h.state i.state
one_state (row.Display d) m n c k text h i says too = other_state (row.Display d) m n c k h.state i.state
one_state (row.Event v) m n c k text h i says too = other_state (row.Event v) m n c k h.state i.state

one_kept : (e f : Kept) (text : List ℕ) → IsSaved e → IsSaved f → number_of_kept e ≡ number_of_kept f → IsSavedText e text → IsSavedText f text → e ≡ f
one_kept e f text h i number says too =
    let same = one_row e f text h i number says too in
    let is : e ≡ entry f.row e.received e.complete = ap (λ r. entry r e.received e.complete) same in
    is ∙ one_state f.row e.received f.received e.complete f.complete text (subst IsSaved is h) i (subst (λ x. IsSavedText x text) is says) too

row_code : (r : Row) → code_of (kind_of r) < 8
row_code (row.Media f) = omega arith
row_code (row.Layout l) = omega arith
row_code (row.Campaign c) = omega arith
row_code (row.Daypart d) = omega arith
row_code (row.Group g) = omega arith
row_code (row.Display d) = omega arith
row_code (row.Event e) = omega arith

row_first : (r : Row) → 1 ≤ code_of (kind_of r)
row_first (row.Media f) = omega arith
row_first (row.Layout l) = omega arith
row_first (row.Campaign c) = omega arith
row_first (row.Daypart d) = omega arith
row_first (row.Group g) = omega arith
row_first (row.Display d) = omega arith
row_first (row.Event e) = omega arith

-- where rows of the tables stand
abbrev IsLow : ℕ → Type 0
IsLow n = (number 1 0 0 ≤ n) × (n < number 8 0 0)

first_row : (code id : ℕ) → 1 ≤ code → number 1 0 0 ≤ number code id 0
first_row code id h = omega arith

low : (e : Kept) → IsSaved e → IsLow (number_of_kept e)
low e h = (first_row (code_of (kind_of e.row)) _ (row_first e.row), row_lt (code_of (kind_of e.row)) _ (row_code e.row) (row_id e.row h.row))

-- no row of the tables has a kind below the first one
pub none_first : (core : Core) (n : ℕ) → IsServer core → n < number 1 0 0 → found number_of_kept n core.rows ≡ None
none_first core n s lt = found_outside number_of_kept IsLow n core.rows (all_into IsSaved (λ e. IsLow (number_of_kept e)) core.rows low s.rows) (λ p. not_low n lt p.0)
  where
    not_low : (n : ℕ) → n < number 1 0 0 → number 1 0 0 ≤ n → ⊥
    not_low n lt le = omega arith

one_low : (c d : Core) (rows : ℕ → Option (List ℕ)) → IsServer c → IsServer d → AreRows c rows → AreRows d rows → (n : ℕ) → found number_of_kept n c.rows ≡ found number_of_kept n d.rows
one_low c d rows s t r q n =
    let outside : (IsLow n → ⊥) → found number_of_kept n c.rows ≡ found number_of_kept n d.rows =
    (λ out. found_outside number_of_kept IsLow n c.rows (all_into IsSaved (λ e. IsLow (number_of_kept e)) c.rows low s.rows) out
    ∙ sym (found_outside number_of_kept IsLow n d.rows (all_into IsSaved (λ e. IsLow (number_of_kept e)) d.rows low t.rows) out)) in
    elim (cases_order n (number 8 0 0)) [
      | inl e ↦ outside (λ p. not_both n (number 8 0 0) p.1 (inl e))
      | inr (inl lt) ↦ one_stored IsSavedText (found number_of_kept n c.rows) (found number_of_kept n d.rows) (rows n)
          (λ x y text f g says too. one_kept x y text (found_all number_of_kept IsSaved n x c.rows s.rows f) (found_all number_of_kept IsSaved n y d.rows t.rows g) (rank_found number_of_kept n c.rows x f ∙ sym (rank_found number_of_kept n d.rows y g)) says too)
          (r.rows n lt) (q.rows n lt)
      | inr (inr gt) ↦ outside (λ p. not_both n (number 8 0 0) p.1 (inr gt))
    ]
  where
    not_both : (n m : ℕ) → n < m → (n ≡ m) ⊎ (m < n) → ⊥
    not_both n m lt or = ⊎_elim (λ e. omega (arith, lt, e)) (λ g. omega (arith, lt, g)) or

-- ---- clients

same_client : (c d : Client) → ◌≡◌ {A = Option Client} (Some c) (Some d) → c ≡ d
same_client c d e = cc

number_client : (a b : ℕ) → number 8 a 0 ≡ number 8 b 0 → a ≡ b
number_client a b e = omega arith

one_client : (c d : Client) → IsClient c → IsClient d → client_number c ≡ client_number d → client_text c ≡ client_text d → c ≡ d
unfolding client_text
one_client c d h i number text =
    let a = read-Sound refl (client_sound c h) in
    let b = read-Sound refl (client_sound d i) in
    let json : client_json c ≡ client_json d = same_data (client_json c) (client_json d) (sym a ∙ (ap read text ∙ b)) in
    same_client c d (sym (client_again c h) ∙ (ap (client_in c.client) json ∙ (ap (λ n. client_in n (client_json d)) (number_client c.client d.client number) ∙ client_again d i)))

-- where clients stand
abbrev IsMiddle : ℕ → Type 0
IsMiddle n = (number 8 0 0 ≤ n) × (n < number 9 0 0)

middle : (c : Client) → IsClient c → IsMiddle (client_number c)
middle c h = (client_ge c.client, client_lt c.client (id_fits c.client (and_parts _ _ h).0))

one_middle : (c d : Core) (rows : ℕ → Option (List ℕ)) → AllByRecursion IsClient c.clients → AllByRecursion IsClient d.clients → AreRows c rows → AreRows d rows → (n : ℕ) → found client_number n c.clients ≡ found client_number n d.clients
one_middle c d rows s t r q n =
    let outside : (IsMiddle n → ⊥) → found client_number n c.clients ≡ found client_number n d.clients =
    (λ out. found_outside client_number IsMiddle n c.clients (all_into IsClient (λ k. IsMiddle (client_number k)) c.clients middle s) out
    ∙ sym (found_outside client_number IsMiddle n d.clients (all_into IsClient (λ k. IsMiddle (client_number k)) d.clients middle t) out)) in
    elim (below_or n (number 8 0 0)) [
      | inl lt ↦ outside (λ p. not_both n (number 8 0 0) lt p.0)
      | inr ge ↦ elim (below_or n (number 9 0 0)) [
        | inl lt ↦ one_mapped client_text (found client_number n c.clients) (found client_number n d.clients)
            (λ x y f g text. one_client x y (found_all client_number IsClient n x c.clients s f) (found_all client_number IsClient n y d.clients t g) (rank_found client_number n c.clients x f ∙ sym (rank_found client_number n d.clients y g)) text)
            (sym (r.clients n ge lt) ∙ q.clients n ge lt)
        | inr more ↦ outside (λ p. not_both n (number 9 0 0) p.1 more)
      ]
    ]
  where
    not_both : (n m : ℕ) → n < m → m ≤ n → ⊥
    not_both n m lt le = omega arith

-- ---- epochs

one_epoch : (limit : ℕ) (e f : Epoch) → limit ≤ 4294967294 → IsNumbered e → IsNumbered f → e.plays ≤ limit → f.plays ≤ limit → epoch_number e ≡ epoch_number f → epoch_bytes e ≡ epoch_bytes f → e ≡ f
one_epoch limit e f most h i few less number bytes =
    let same = epoch_same e.display e.epoch f.display f.epoch h.epoch i.epoch number in
    let plays : e.plays ≡ f.plays = sym (from_le_bytes-to_le_bytes_4 e.plays (fits e.plays limit few most)) ∙ (ap (from_le_bytes w32) bytes ∙ from_le_bytes-to_le_bytes_4 f.plays (fits f.plays limit less most)) in
    λ j. record { display = same.0 j; epoch = same.1 j; plays = plays j }
  where
    fits : (n limit : ℕ) → n ≤ limit → limit ≤ 4294967294 → n < 2 ^ 32
    fits n limit x y = omega arith

-- where epochs stand
abbrev IsHigh : ℕ → Type 0
IsHigh n = (number 9 0 0 ≤ n) × (n < number 10 0 0)

high : (e : Epoch) → IsNumbered e → IsHigh (epoch_number e)
high e h = (epoch_ge e.display e.epoch, epoch_lt e.display e.epoch h.display h.epoch)

one_high : (c d : Core) (rows : ℕ → Option (List ℕ)) → c.limit ≡ d.limit → IsServer c → IsServer d → AreRows c rows → AreRows d rows → (n : ℕ) → found epoch_number n c.epochs ≡ found epoch_number n d.epochs
one_high c d rows limit s t r q n =
    let outside : (IsHigh n → ⊥) → found epoch_number n c.epochs ≡ found epoch_number n d.epochs =
    (λ out. found_outside epoch_number IsHigh n c.epochs (all_into IsNumbered (λ k. IsHigh (epoch_number k)) c.epochs high s.numbered) out
    ∙ sym (found_outside epoch_number IsHigh n d.epochs (all_into IsNumbered (λ k. IsHigh (epoch_number k)) d.epochs high t.numbered) out)) in
    elim (below_or n (number 9 0 0)) [
      | inl lt ↦ outside (λ p. not_both n (number 9 0 0) lt p.0)
      | inr ge ↦ elim (below_or n (number 10 0 0)) [
        | inl lt ↦ one_mapped epoch_bytes (found epoch_number n c.epochs) (found epoch_number n d.epochs)
            (λ x y f g bytes. one_epoch c.limit x y s.limit (found_all epoch_number IsNumbered n x c.epochs s.numbered f) (found_all epoch_number IsNumbered n y d.epochs t.numbered g)
            (found_all epoch_number (λ e. e.plays ≤ c.limit) n x c.epochs s.few f) (subst (λ m. y.plays ≤ m) (sym limit) (found_all epoch_number (λ e. e.plays ≤ d.limit) n y d.epochs t.few g))
            (rank_found epoch_number n c.epochs x f ∙ sym (rank_found epoch_number n d.epochs y g)) bytes)
            (sym (r.epochs n ge lt) ∙ q.epochs n ge lt)
        | inr more ↦ outside (λ p. not_both n (number 10 0 0) p.1 more)
      ]
    ]
  where
    not_both : (n m : ℕ) → n < m → m ≤ n → ⊥
    not_both n m lt le = omega arith

-- ---- all of it

pub one_server : IsOneServer
one_server c d rows s t limit r q =
    let a = same_rising number_of_kept c.rows d.rows s.ordered.rising t.ordered.rising (one_low c d rows s.ordered.server t.ordered.server r q) in
    let b = same_rising client_number c.clients d.clients s.by_client t.by_client (one_middle c d rows s.clients t.clients r q) in
    let e = same_rising epoch_number c.epochs d.epochs s.ordered.server.rising t.ordered.server.rising (one_high c d rows limit s.ordered.server t.ordered.server r q) in
    λ i. record { rows = a i; clients = b i; epochs = e i; limit = limit i }
