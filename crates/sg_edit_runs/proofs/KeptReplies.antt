-- A refusal of an edit may be kept with its client: it names rows by valid ids, and limits that there are.
use Rattle.std.proofs.Common.{◌≡◌, ℕ, ◌+◌, ◌^◌, nat_lt, ◌&&◌, Bool, true, false, cond, List, [], ◌∷◌, ◌++◌, map, Option, Some, None, Result, Ok, Err, IsTrue, refl, subst, lt-ltb}
use Rattle.std.specs.Prelude.{IfSome, count_by}
use Rattle.std.specs.List.{AllByRecursion, flat_map}
use Rattle.sg_base.specs.declared.event.Target.{Target}
use Rattle.sg_base.specs.declared.event.Target.TheVariants as target
use Rattle.sg_base.specs.declared.event.When.{When}
use Rattle.sg_base.specs.declared.event.When.TheVariants.{Always, Custom, Named}
use Rattle.sg_base.specs.declared.kind.Kind.{Kind}
use Rattle.sg_base.specs.declared.kind.Kind.TheVariants as kind
use Rattle.sg_base.specs.declared.layout.Item.{Item}
use Rattle.sg_base.specs.declared.layout.Region.{Region}
use Rattle.sg_base.specs.declared.limits.TheConstants.{MAX_MEDIA_BYTES}
use Rattle.sg_base.specs.declared.row.Row.{Row}
use Rattle.sg_base.specs.declared.row.Row.TheVariants as row
use Rattle.sg_base.specs.Faults.{first_in, first_of}
use Rattle.sg_base.specs.Rows.{kind_of}
use Rattle.sg_edit_rows.specs.EditRows.{IsRow}
use Rattle.sg_records.specs.declared.reply.FaultName.{FaultName}
use Rattle.sg_records.specs.declared.reply.FaultName.TheVariants as fault
use Rattle.sg_records.specs.declared.reply.Reply.{Reply}
use Rattle.sg_records.specs.declared.reply.Reply.TheVariants as reply
use Rattle.sg_records.specs.Clients.{is_id, is_kept, is_limit, is_row}
use Rattle.sg_records.specs.Replies.{refused_by}
use Rattle.sg_records.specs.Saved.{IsSaved}
use Rattle.sg_rows.specs.declared.form.RowForm.TheVariants.{Edit}
use Rattle.sg_rows.specs.Rows.{IsId, IsItem, IsRegion, IsTarget, IsWhen}
use Rattle.sg_steps.specs.declared.edit.Edit.{Edit as EditValue}
use Rattle.sg_steps.specs.declared.edit.Edit.TheVariants as edit
use Rattle.sg_steps.specs.Edits.{IsEdit}
use Rattle.sg_steps.specs.Step.{allowed, asked, tried}
use Rattle.sg_tables.specs.declared.change.TableChange.{TableChange}
use Rattle.sg_tables.specs.declared.change.TableChange.TheVariants as change
use Rattle.sg_tables.specs.declared.change.TableRefusal.{TableRefusal}
use Rattle.sg_tables.specs.declared.change.TableRefusal.TheVariants as refused
use Rattle.sg_tables.specs.declared.row_id.RowId.{RowId}
use Rattle.sg_tables.specs.Entries.{Kept, is_media}
use Rattle.sg_tables.specs.Refusals.{bytes_fault, bytes_of, count_fault, declared, exists_fault, is_of, most_of, reference_fault, references_fault, refusal, row_at, unknown_fault, use_fault, user_fault}
use Rattle.sg_tables.specs.Rows.{at, daypart_in, id_in, id_of, references, target_in, uses}

-- ---- ids

abbrev IsNamed : RowId → Type 0
IsNamed id = is_row id.kind id.id ≡ true

valid : (n : ℕ) → IsId n → is_id n ≡ true
valid n h = rw (lt-ltb 0 n h.some, lt-ltb n (2 ^ 32) h.fits) refl

own : (r : Row) → IsRow Edit r → is_id (id_in r) ≡ true
own (row.Media f) h = valid f.media.0 h.media
own (row.Layout l) h = valid l.id.0 h.id
own (row.Campaign c) h = valid c.id.0 h.id
own (row.Daypart d) h = valid d.id.0 h.id
own (row.Group g) h = valid g.0 h
own (row.Display d) h = valid d.id.0 h.id
own (row.Event e) h = valid e.event.id.0 h.event.id

named : (r : Row) → IsRow Edit r → IsNamed (id_of r)
named (row.Media f) h = valid f.media.0 h.media
named (row.Layout l) h = valid l.id.0 h.id
named (row.Campaign c) h = valid c.id.0 h.id
named (row.Daypart d) h = valid d.id.0 h.id
named (row.Group g) h = valid g.0 h
named (row.Display d) h = valid d.id.0 h.id
named (row.Event e) h = valid e.event.id.0 h.event.id

-- ---- the rows that a row names

all_map : {A : Type 0} (f : A → RowId) (P : A → Type 0) (xs : List A) → ((x : A) → P x → IsNamed (f x)) → AllByRecursion P xs → AllByRecursion IsNamed (map f xs)
all_map f P [] follows a = tt
all_map f P (x ∷ xs) follows a = (follows x a.0, all_map f P xs follows a.1)

all_joined : (xs ys : List RowId) → AllByRecursion IsNamed xs → AllByRecursion IsNamed ys → AllByRecursion IsNamed (xs ++ ys)
all_joined [] ys a b = b
all_joined (x ∷ xs) ys a b = (a.0, all_joined xs ys a.1 b)

abbrev items_in : Region → List RowId
items_in region = map (λ item. at kind.Media item.media.0) region.items

all_regions : (regions : List Region) → AllByRecursion IsRegion regions → AllByRecursion IsNamed (flat_map items_in regions)
all_regions [] a = tt
all_regions (r ∷ rs) a =
    all_joined (items_in r) (flat_map items_in rs) (all_map (λ (item : Item). at kind.Media item.media.0) IsItem r.items (λ item h. valid item.media.0 h.media) a.0.items) (all_regions rs a.1)

target_named : (t : Target) → IsTarget t → IsNamed (target_in t)
target_named (target.Layout id) h = valid id.0 h
target_named (target.Campaign id) h = valid id.0 h

daypart_named : (w : When) → IsWhen w → AllByRecursion IsNamed (daypart_in w)
daypart_named Always h = tt
daypart_named (Custom from to) h = tt
daypart_named (Named daypart date) h = (valid daypart.0 h.0, tt)

all_named : (r : Row) → IsRow Edit r → AllByRecursion IsNamed (references r)
all_named (row.Media f) h = tt
all_named (row.Layout l) h = all_regions l.regions h.regions
all_named (row.Campaign c) h = all_map (λ l. at kind.Layout l.0) (λ l. IsId l.0) c.layouts (λ l i. valid l.0 i) h.layouts
all_named (row.Daypart d) h = tt
all_named (row.Group g) h = tt
all_named (row.Display d) h = (valid d.default.0 h.default, all_map (λ g. at kind.Group g.0) (λ g. IsId g.0) d.groups (λ g i. valid g.0 i) h.groups)
all_named (row.Event e) h = (
  target_named e.event.target h.event.target,
  all_joined (daypart_in e.event.when) (map (λ d. at kind.Display d.0) e.displays ++ map (λ g. at kind.Group g.0) e.groups) (daypart_named e.event.when h.event.when)
      (all_joined (map (λ d. at kind.Display d.0) e.displays) (map (λ g. at kind.Group g.0) e.groups)
      (all_map (λ d. at kind.Display d.0) (λ d. IsId d.0) e.displays (λ d i. valid d.0 i) h.displays)
      (all_map (λ g. at kind.Group g.0) (λ g. IsId g.0) e.groups (λ g i. valid g.0 i) h.groups)),
)

-- ---- refusals

abbrev Fits : ℕ → TableRefusal → Type 0
Fits seq f = is_kept seq (refused_by f) ≡ true

fits_first : (seq : ℕ) (a b : Option TableRefusal) → IfSome a (Fits seq) → IfSome b (Fits seq) → IfSome (first_of a b) (Fits seq)
fits_first seq None b x y = y
fits_first seq (Some f) b x y = x

fits_in : {X : Type 0} (seq : ℕ) (g : X → Option TableRefusal) (P : X → Type 0) (xs : List X) → ((x : X) → P x → IfSome (g x) (Fits seq)) → AllByRecursion P xs → IfSome (first_in g xs) (Fits seq)
fits_in seq g P [] follows a = tt
fits_in seq g P (x ∷ xs) follows a = fits_first seq (g x) (first_in g xs) (follows x a.0) (fits_in seq g P xs follows a.1)

fits_if : (seq : ℕ) (b : Bool) (f : TableRefusal) → Fits seq f → IfSome (cond b (Some f) None) (Fits seq)
fits_if seq true f h = h
fits_if seq false f h = tt

fits_else : (seq : ℕ) (b : Bool) (f : TableRefusal) → Fits seq f → IfSome (cond b None (Some f)) (Fits seq)
fits_else seq true f h = tt
fits_else seq false f h = h

fits_exists : (seq : ℕ) (id : RowId) (r : Option Kept) → IsNamed id → IfSome (exists_fault id r) (Fits seq)
fits_exists seq id None h = tt
fits_exists seq id (Some e) h = h

fits_unknown : (seq : ℕ) (id : RowId) (r : Option Kept) → IsNamed id → IfSome (unknown_fault id r) (Fits seq)
fits_unknown seq id None h = h
fits_unknown seq id (Some e) h = tt

fits_reference : (seq : ℕ) (id : RowId) (r : Option Kept) → IsNamed id → IfSome (reference_fault id r) (Fits seq)
fits_reference seq id None h = h
fits_reference seq id (Some e) h = fits_else seq e.complete (refused.Incomplete (record { 0 = id.id })) refl

fits_references : (seq : ℕ) (rows : List Kept) (r : Row) → IsRow Edit r → IfSome (references_fault rows (references r)) (Fits seq)
fits_references seq rows r h =
    fits_in seq (λ id. reference_fault id (row_at id rows)) IsNamed (references r) (λ id i. fits_reference seq id (row_at id rows) i) (all_named r h)

has_limit : (r : Row) → is_limit (kind_of r) (most_of (kind_of r)) ≡ true
has_limit (row.Media f) = refl
has_limit (row.Layout l) = refl
has_limit (row.Campaign c) = refl
has_limit (row.Daypart d) = refl
has_limit (row.Group g) = refl
has_limit (row.Display d) = refl
has_limit (row.Event e) = refl

fits_count : (seq : ℕ) (rows : List Kept) (r : Row) → IfSome (count_fault (kind_of r) rows) (Fits seq)
fits_count seq rows r = fits_else seq (nat_lt (count_by (is_of (kind_of r)) rows) (most_of (kind_of r))) (refused.Full (kind_of r) (most_of (kind_of r))) (has_limit r)

fits_bytes : (seq : ℕ) (r : Row) (bytes : ℕ) → IfSome (bytes_fault r bytes) (Fits seq)
fits_bytes seq r bytes = fits_if seq (is_media r && nat_lt MAX_MEDIA_BYTES (bytes + bytes_of r)) (refused.Full kind.Media MAX_MEDIA_BYTES) refl

fits_use : (seq : ℕ) (id : RowId) (k : Kind) (e : Kept) → IsNamed id → is_row k (id_in e.row) ≡ true → IfSome (use_fault id k e) (Fits seq)
fits_use seq id k e h i = fits_if seq (is_of k e && uses id e.row) (refused.InUse id.kind id.id k (id_in e.row)) (rw (h, i) refl)

fits_user : (seq : ℕ) (id : RowId) (rows : List Kept) → IsNamed id → AllByRecursion IsSaved rows → IfSome (user_fault id rows) (Fits seq)
fits_user seq id rows h saved =
    fits_first seq (first_in (use_fault id kind.Campaign) rows) _ (fits_in seq (use_fault id kind.Campaign) IsSaved rows (λ e s. fits_use seq id kind.Campaign e h (own e.row s.row)) saved)
    (fits_first seq (first_in (use_fault id kind.Layout) rows) _ (fits_in seq (use_fault id kind.Layout) IsSaved rows (λ e s. fits_use seq id kind.Layout e h (own e.row s.row)) saved)
    (fits_first seq (first_in (use_fault id kind.Event) rows) (first_in (use_fault id kind.Display) rows) (fits_in seq (use_fault id kind.Event) IsSaved rows (λ e s. fits_use seq id kind.Event e h (own e.row s.row)) saved)
    (fits_in seq (use_fault id kind.Display) IsSaved rows (λ e s. fits_use seq id kind.Display e h (own e.row s.row)) saved)))

-- a change of valid rows and ids
abbrev IsOfRows : TableChange → Type 0
IsOfRows (change.Insert r) = IsRow Edit r
IsOfRows (change.Replace r) = IsRow Edit r
IsOfRows (change.Remove k id) = IsTrue (is_row k id)

fits_refusal : (seq : ℕ) (rows : List Kept) (c : TableChange) → IsOfRows c → AllByRecursion IsSaved rows → IfSome (refusal rows c) (Fits seq)
fits_refusal seq rows (change.Insert r) h saved =
    fits_first seq (exists_fault (id_of r) (row_at (id_of r) rows)) _ (fits_exists seq (id_of r) (row_at (id_of r) rows) (named r h))
    (fits_first seq (references_fault rows (references r)) _ (fits_references seq rows r h)
    (fits_first seq (count_fault (kind_of r) rows) (bytes_fault r (declared rows)) (fits_count seq rows r) (fits_bytes seq r (declared rows))))
fits_refusal seq rows (change.Replace r) h saved =
    fits_first seq (unknown_fault (id_of r) (row_at (id_of r) rows)) (references_fault rows (references r)) (fits_unknown seq (id_of r) (row_at (id_of r) rows) (named r h)) (fits_references seq rows r h)
fits_refusal seq rows (change.Remove k id) h saved =
    fits_first seq (unknown_fault (at k id) (row_at (at k id) rows)) (user_fault (at k id) rows) (fits_unknown seq (at k id) (row_at (at k id) rows) h) (fits_user seq (at k id) rows h saved)

-- ---- replies

edit_rows : (e : EditValue) (c : TableChange) → IsEdit e → asked e ≡ Ok c → IsOfRows c
edit_rows (edit.Insert r) c h e = let same : change.Insert r ≡ c = cc in subst IsOfRows same h
edit_rows (edit.Replace r) c h e = elim (is_media r) as (λ b. cond b (Err fault.NoReplace) (Ok (change.Replace r)) ≡ Ok c → IsOfRows c) [
  | true ↦ (λ q. absurd (cc))
  | false ↦ (λ q. let same : change.Replace r ≡ c = cc in subst IsOfRows same h)
] e
edit_rows (edit.Remove k id) c h e = let same : change.Remove k id ≡ c = cc in subst IsOfRows same h
edit_rows (edit.Faulty f) c h e = absurd (cc)

allowed_fits : (seq : ℕ) (c : TableChange) (o : Option TableRefusal) (answer : Reply) → IfSome o (Fits seq) → allowed c o ≡ Err answer → is_kept seq answer ≡ true
allowed_fits seq c None answer h e = absurd (cc)
allowed_fits seq c (Some f) answer h e = let same : refused_by f ≡ answer = cc in subst (λ r. is_kept seq r ≡ true) same h

tried_fits : (seq : ℕ) (rows : List Kept) (a : Result TableChange FaultName) (answer : Reply) → ((c : TableChange) → a ≡ Ok c → IsOfRows c) → AllByRecursion IsSaved rows → tried rows a ≡ Err answer → is_kept seq answer ≡ true
tried_fits seq rows (Err f) answer h saved e = let same : reply.Invalid f ≡ answer = cc in subst (λ r. is_kept seq r ≡ true) same refl
tried_fits seq rows (Ok c) answer h saved e = allowed_fits seq c (refusal rows c) answer (fits_refusal seq rows c (h c refl) saved) e

-- the answer to an edit that is refused
pub refused_fits : (seq : ℕ) (rows : List Kept) (e : EditValue) (answer : Reply) → IsEdit e → AllByRecursion IsSaved rows → tried rows (asked e) ≡ Err answer → is_kept seq answer ≡ true
refused_fits seq rows e answer h saved is = tried_fits seq rows (asked e) answer (λ c q. edit_rows e c h q) saved is
