-- A lawful server with one more row is lawful.
use Rattle.std.proofs.Common.{◌≡◌, ◌≢◌, ◌∙◌, ℕ, zero, suc, ◌+◌, ◌-◌, ◌^◌, ◌<◌, ◌≤◌, Bool, true, false, ◌&&◌, cond, eqb, ltb, List, [], ◌∷◌, length, Option, Some, None, refl, ap, sym, subst, arith}
use Rattle.std.specs.Prelude.{count_by, nat_le, nat_lt}
use Rattle.std.specs.List.{AllByRecursion}
use Rattle.std.proofs.lemmas.Bool.{and_parts, leb-true, ltb-false, ltb-true}
use Rattle.sg_base.specs.declared.kind.Kind.{Kind}
use Rattle.sg_base.specs.declared.limits.TheConstants.{MAX_EPOCH, MAX_MEDIA_BYTES}
use Rattle.sg_base.specs.declared.row.Row.{Row}
use Rattle.sg_base.specs.declared.row.Row.TheVariants as row
use Rattle.sg_base.specs.Keys.{number}
use Rattle.sg_base.specs.Rising.{IsRising, found, put}
use Rattle.sg_base.specs.Rows.{kind_of}
use Rattle.sg_base.proofs.FaultLemmas.{first_none, if_none}
use Rattle.sg_base.proofs.RisingLemmas.{by_equal, by_put, found-put, rising-put}
use Rattle.sg_loading.specs.Loading.{Follows, IsLawful, IsOfClient, IsOfEpoch, IsOfTables, Item, OfTables, OfClient, OfEpoch, Reads, with_item}
use Rattle.sg_records.specs.declared.client.Client.{Client}
use Rattle.sg_records.specs.declared.epoch.Epoch.{Epoch}
use Rattle.sg_records.specs.Clients.{IsClient, client_number, is_id}
use Rattle.sg_records.specs.Numbers.{IsEpoch, epoch_number, is_epoch}
use Rattle.sg_records.specs.Saved.{IsSaved}
use Rattle.sg_records.proofs.SoundSaved.{id_fits, plays_few}
use Rattle.sg_steps.specs.State.{Core, IsNumbered, IsServer}
use Rattle.sg_tables.specs.declared.change.TableChange.TheVariants.{Insert}
use Rattle.sg_tables.specs.declared.change.TableRefusal.{TableRefusal}
use Rattle.sg_tables.specs.declared.row_id.RowId.{RowId}
use Rattle.sg_tables.specs.Entries.{Kept, number_of_kept}
use Rattle.sg_tables.specs.Refusals.{bytes_fault, bytes_of, count_fault, declared, exists_fault, is_of, most_of, reference_fault, references_fault, refusal, row_at}
use Rattle.sg_tables.specs.Rows.{code_of, id_of, number_at, references}
use Rattle.sg_tables.proofs.CountLemmas.{is_new}
use Rattle.sg_tables.proofs.KeptLemmas.{kept_put}
use Rattle.sg_tables.proofs.KindLemmas.{same_code}
use Rattle.sg_tables.proofs.SumLemmas.{part, sum-put}

-- ---- elements

all_put : {A : Type 0} (rank : A → ℕ) (P : A → Type 0) (x : A) (xs : List A) → P x → AllByRecursion P xs → AllByRecursion P (put rank x xs)
all_put rank P x [] p a = (p, tt)
all_put rank P x (y ∷ ys) p a = by_put rank x y ys (AllByRecursion P) (λ _. (p, a)) (λ _. (p, a.1)) (λ _. (a.0, all_put rank P x ys p a.1))

all_into : {A : Type 0} (P Q : A → Type 0) (xs : List A) → ((x : A) → P x → Q x) → AllByRecursion P xs → AllByRecursion Q xs
all_into P Q [] follows a = tt
all_into P Q (x ∷ xs) follows a = (follows x a.0, all_into P Q xs follows a.1)

put_long : {A : Type 0} (rank : A → ℕ) (x : A) (xs : List A) → length (put rank x xs) ≤ length xs + 1
put_long rank x [] = omega arith
put_long rank x (y ∷ ys) = by_put rank x y ys (λ l. length l ≤ length (y ∷ ys) + 1) (λ _. omega arith) (λ _. omega arith) (λ _. let rest = put_long rank x ys in omega (arith, rest))

still_there : {A : Type 0} (rank : A → ℕ) (x : A) (xs : List A) (k : ℕ) → found rank k xs ≢ None → found rank k (put rank x xs) ≢ None
still_there rank x xs k there gone =
    by_equal (rank x) k (λ b. cond b (Some x) (found rank k xs) ≡ None → ⊥)
    (λ _ none. absurd (cc))
    (λ _ none. there none)
    (sym (found-put rank k x xs) ∙ gone)

-- ---- rows that are named

not_there : (id : RowId) (r : Option Kept) → r ≡ None → reference_fault id r ≡ None → ⊥
not_there id None e ok = cc
not_there id (Some x) e ok = cc

named_one : (e : Kept) (rows : List Kept) (id : RowId) → found number_of_kept (number_of_kept e) rows ≡ None → reference_fault id (row_at id rows) ≡ None → reference_fault id (row_at id (put number_of_kept e rows)) ≡ None
named_one e rows id new ok =
    subst (λ r. reference_fault id r ≡ None) (sym (found-put number_of_kept (number_at id) e rows))
    (by_equal (number_of_kept e) (number_at id) (λ b. reference_fault id (cond b (Some e) (row_at id rows)) ≡ None)
    (λ same. absurd (not_there id (row_at id rows) (ap (λ k. found number_of_kept k rows) (sym same) ∙ new) ok))
    (λ _. ok))

named_all : (e : Kept) (rows : List Kept) (ids : List RowId) → found number_of_kept (number_of_kept e) rows ≡ None → references_fault rows ids ≡ None → references_fault (put number_of_kept e rows) ids ≡ None
named_all e rows [] new ok = refl
named_all e rows (id ∷ ids) new ok =
    let parts = first_none (reference_fault id (row_at id rows)) (references_fault rows ids) ok in
    rw (named_one e rows id new parts.0) (named_all e rows ids new parts.1)

abbrev IsNamed : List Kept → Kept → Type 0
IsNamed rows e = references_fault rows (references e.row) ≡ None

named_put : (e : Kept) (rows : List Kept) → found number_of_kept (number_of_kept e) rows ≡ None → IsNamed rows e → AllByRecursion (IsNamed rows) rows → AllByRecursion (IsNamed (put number_of_kept e rows)) (put number_of_kept e rows)
named_put e rows new own all =
    kept_put (IsNamed (put number_of_kept e rows)) e rows (named_all e rows (references e.row) new own)
    (all_into (IsNamed rows) (IsNamed (put number_of_kept e rows)) rows (λ x ok. named_all e rows (references x.row) new ok) all)

-- ---- limits

room_left : (b : Bool) (f : TableRefusal) → cond b None (Some f) ≡ None → b ≡ true
room_left true f e = refl
room_left false f e = absurd (cc)

few_put : (e : Kept) (rows : List Kept) (k : Kind) → IsRising number_of_kept rows → found number_of_kept (number_of_kept e) rows ≡ None → count_by (is_of (kind_of e.row)) rows < most_of (kind_of e.row) → count_by (is_of k) rows ≤ most_of k → count_by (is_of k) (put number_of_kept e rows) ≤ most_of k
few_put e rows k rising new less few =
    let put_is = sum-put number_of_kept (λ (x : Kept). cond (is_of k x) 1 0) e rows rising in
    let none = ap (part (λ (x : Kept). cond (is_of k x) 1 0)) new in
    by_equal (code_of (kind_of e.row)) (code_of k) (λ b. count_by (is_of k) (put number_of_kept e rows) + part (λ (x : Kept). cond (is_of k x) 1 0) (found number_of_kept (number_of_kept e) rows) ≡ count_by (is_of k) rows + cond b 1 0 → count_by (is_of k) (put number_of_kept e rows) ≤ most_of k)
    (λ same is.
    let here : count_by (is_of k) rows < most_of k = subst (λ j. count_by (is_of j) rows < most_of j) (same_code (kind_of e.row) k same) less in
    omega (arith, is, none, here))
    (λ _ is. omega (arith, is, none, few))
    put_is

light_left : (r : Row) (total : ℕ) → total ≤ MAX_MEDIA_BYTES → bytes_fault r total ≡ None → total + bytes_of r ≤ MAX_MEDIA_BYTES
light_left (row.Media file) total le e = ltb-false MAX_MEDIA_BYTES (total + file.length) (if_none (ltb MAX_MEDIA_BYTES (total + file.length)) _ None e).0
light_left (row.Layout l) total le e = omega arith
light_left (row.Campaign c) total le e = omega arith
light_left (row.Daypart d) total le e = omega arith
light_left (row.Group g) total le e = omega arith
light_left (row.Display d) total le e = omega arith
light_left (row.Event v) total le e = omega arith

light_put : (e : Kept) (rows : List Kept) → IsRising number_of_kept rows → found number_of_kept (number_of_kept e) rows ≡ None → declared rows + bytes_of e.row ≤ MAX_MEDIA_BYTES → declared (put number_of_kept e rows) ≤ MAX_MEDIA_BYTES
light_put e rows rising new light =
    let put_is = sum-put number_of_kept (λ (x : Kept). bytes_of x.row) e rows rising in
    let none = ap (part (λ (x : Kept). bytes_of x.row)) new in
    omega (arith, put_is, none, light)

-- ---- one more row

-- what it says that nothing refuses a row
record IsLetIn (rows : List Kept) (e : Kept) : Type 0 where
  pub new : found number_of_kept (number_of_kept e) rows ≡ None
  pub named : references_fault rows (references e.row) ≡ None
  pub less : count_by (is_of (kind_of e.row)) rows < most_of (kind_of e.row)
  pub light : bytes_fault e.row (declared rows) ≡ None

let_in : (rows : List Kept) (e : Kept) → refusal rows (Insert e.row) ≡ None → IsLetIn rows e
let_in rows e allowed =
    let a = (first_none (exists_fault (id_of e.row) (row_at (id_of e.row) rows)) _ allowed).1 in
    let b = first_none (references_fault rows (references e.row)) _ a in
    let c = first_none (count_fault (kind_of e.row) rows) (bytes_fault e.row (declared rows)) b.1 in
    record {
      new = is_new rows e.row allowed;
      named = b.0;
      less = ltb-true (count_by (is_of (kind_of e.row)) rows) (most_of (kind_of e.row)) (room_left _ _ c.0);
      light = c.1;
    }

lawful_saved : (core : Core) (n : ℕ) (text : List ℕ) (e : Kept) → IsLawful core → IsOfTables core.rows n text e → IsLawful (with_item (OfTables e) core)
lawful_saved core n text e h is =
    let ok = let_in core.rows e is.allowed in
    record {
      server = record {
        limit = h.server.limit;
        rows = kept_put IsSaved e core.rows is.saved h.server.rows;
        rising = h.server.rising;
        numbered = h.server.numbered;
        few = h.server.few;
      };
      rising = rising-put number_of_kept e core.rows h.rising;
      named = named_put e core.rows ok.new ok.named h.named;
      few = λ k. few_put e core.rows k h.rising ok.new ok.less (h.few k);
      light = light_put e core.rows h.rising ok.new (light_left e.row (declared core.rows) h.light ok.light);
      clients = h.clients;
      few_clients = h.few_clients;
      epochs = h.epochs;
      follow = h.follow;
    }

lawful_client : (core : Core) (n : ℕ) (text : List ℕ) (c : Client) → IsLawful core → IsOfClient core.clients n text c → IsLawful (with_item (OfClient c) core)
lawful_client core n text c h is =
    let long = put_long client_number c core.clients in
    let few = is.few in
    record {
      server = record {
        limit = h.server.limit;
        rows = h.server.rows;
        rising = h.server.rising;
        numbered = h.server.numbered;
        few = h.server.few;
      };
      rising = h.rising;
      named = h.named;
      few = h.few;
      light = h.light;
      clients = all_put client_number IsClient c core.clients is.client h.clients;
      few_clients = omega (arith, long, few);
      epochs = h.epochs;
      follow = h.follow;
    }

epoch_numbered : (limit : ℕ) (e : Epoch) → IsEpoch limit e → IsNumbered e
epoch_numbered limit e h =
    let some = and_parts (is_id e.display) (nat_lt 0 e.epoch && (nat_le e.epoch MAX_EPOCH && nat_le e.plays limit)) h in
    let many = and_parts (nat_lt 0 e.epoch) (nat_le e.epoch MAX_EPOCH && nat_le e.plays limit) some.1 in
    let least = leb-true e.epoch MAX_EPOCH (and_parts (nat_le e.epoch MAX_EPOCH) (nat_le e.plays limit) many.1).0 in
    record {
      display = id_fits e.display some.0;
      epoch = omega (arith, least);
    }

lawful_epoch : (core : Core) (n : ℕ) (text : List ℕ) (e : Epoch) → IsLawful core → IsOfEpoch core.limit core.epochs n text e → IsLawful (with_item (OfEpoch e) core)
lawful_epoch core n text e h is =
    let more = put epoch_number e core.epochs in
    let follow : (x : Epoch) → Follows core.epochs x → Follows more x = (λ x before above. still_there epoch_number e core.epochs (number 9 x.display (x.epoch - 1)) (before above)) in
    record {
      server = record {
        limit = h.server.limit;
        rows = h.server.rows;
        rising = rising-put epoch_number e core.epochs h.server.rising;
        numbered = all_put epoch_number IsNumbered e core.epochs (epoch_numbered core.limit e is.epoch) h.server.numbered;
        few = all_put epoch_number (λ x. x.plays ≤ core.limit) e core.epochs (plays_few core.limit e is.epoch) h.server.few;
      };
      rising = h.rising;
      named = h.named;
      few = h.few;
      light = h.light;
      clients = h.clients;
      few_clients = h.few_clients;
      epochs = all_put epoch_number (IsEpoch core.limit) e core.epochs is.epoch h.epochs;
      follow = all_put epoch_number (Follows more) e core.epochs (follow e is.follows) (all_into (Follows core.epochs) (Follows more) core.epochs follow h.follow);
    }

pub lawful_with : (core : Core) (n : ℕ) (text : List ℕ) (item : Item) → IsLawful core → Reads core n text item → IsLawful (with_item item core)
lawful_with core n text (OfTables e) h is = lawful_saved core n text e h is
lawful_with core n text (OfClient c) h is = lawful_client core n text c h is
lawful_with core n text (OfEpoch e) h is = lawful_epoch core n text e h is
