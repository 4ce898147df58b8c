-- Counts that are kept, and what the rows make of them after a change.
use Rattle.std.proofs.Common.{◌≡◌, ℕ, ◌+◌, ◌*◌, ◌^◌, ◌<◌, ◌≤◌, Bool, true, false, cond, eqb, ltb, ◌&&◌, ◌||◌, List, [], ◌∷◌, ◌++◌, length, get_or, take, refl, ap, sym, ◌∙◌, subst, arith}
use Rattle.std.specs.Prelude.{Option, None, Some, count_by, filter}
use Rattle.std.specs.List.{AllByRecursion, list_any}
use Rattle.std.proofs.lemmas.Bool.{eq-eqb, ne_eqb, eqb-true, ltb-true, ltb-false, and_parts}
use Rattle.std.proofs.lemmas.List.{take_more}
use Rattle.std.proofs.lemmas.List.Sums.{sum_by-cons, sum_by-append, sum_by-take-le, count_by-le-length}
use Rattle.sg_base.specs.declared.kind.Kind.{Kind}
use Rattle.sg_base.specs.declared.kind.Kind.TheVariants as kind
use Rattle.sg_base.specs.declared.limits.TheConstants.{MAX_MEDIA_BYTES}
use Rattle.sg_base.specs.declared.row.Row.{Row}
use Rattle.sg_base.specs.declared.row.Row.TheVariants as row
use Rattle.sg_base.specs.Faults.{first_of, first_in}
use Rattle.sg_base.specs.Rising.{found, put, without}
use Rattle.sg_base.specs.Rows.{kind_of}
use Rattle.sg_base.proofs.FaultLemmas.{first_none, if_none}
use Rattle.sg_base.proofs.RisingLemmas.{by_equal, found-put, found-without, rank_found, rising-put, rising-without, all_without}
use Rattle.sg_tables.specs.declared.change.TableChange.TheVariants.{Insert, Replace}
use Rattle.sg_tables.specs.declared.change.TableRefusal.{TableRefusal}
use Rattle.sg_tables.specs.declared.change.TableRefusal.TheVariants.{InUse}
use Rattle.sg_tables.specs.declared.counts.Count.{Count}
use Rattle.sg_tables.specs.declared.row_id.RowId.{RowId}
use Rattle.sg_tables.specs.Counts.{AreCounted, IsBounded, count_in, count_number, counted, times, times_in}
use Rattle.sg_tables.specs.Entries.{Kept, is_media, number_of_kept}
use Rattle.sg_tables.specs.Refusals.{bytes_fault, bytes_of, count_fault, declared, exists_fault, is_of, most_of, refusal, references_fault, row_at, unknown_fault, use_fault, user_fault}
use Rattle.sg_tables.specs.Rows.{code_of, id_in, id_of, is_same, number_at, references, uses}
use Rattle.sg_tables.proofs.KeptLemmas.{closed_put, closed_without, kept_at, kept_put, named_there}
use Rattle.sg_tables.proofs.KindLemmas.{kind_is, same_code}
use Rattle.sg_tables.proofs.SumLemmas.{part, sum-put, sum-without}

-- ---- counts that are kept

count_of : (b : Bool) (c d : Option Count) → count_in (cond b c d) ≡ cond b (count_in c) (count_in d)
count_of true c d = refl
count_of false c d = refl

pub counted_here : (c : Count) (counts : List Count) → counted (count_number c) (put count_number c counts) ≡ c.count
counted_here c counts =
    ap count_in (found-put count_number (count_number c) c counts)
    ∙ (count_of (eqb (count_number c) (count_number c)) (Some c) (found count_number (count_number c) counts)
    ∙ rw (eq-eqb (count_number c) (count_number c) refl))

pub counted_there : (c : Count) (counts : List Count) (n : ℕ) → (n ≡ count_number c → ⊥) → counted n (put count_number c counts) ≡ counted n counts
counted_there c counts n ne =
    ap count_in (found-put count_number n c counts)
    ∙ (count_of (eqb (count_number c) n) (Some c) (found count_number n counts)
    ∙ rw (ne_eqb (count_number c) n (λ e. ne (sym e))))

pub counted_gone : (k : ℕ) (counts : List Count) → counted k (without count_number k counts) ≡ 0
counted_gone k counts =
    ap count_in (found-without count_number k k counts)
    ∙ (count_of (eqb k k) None (found count_number k counts) ∙ rw (eq-eqb k k refl))

pub counted_left : (k n : ℕ) (counts : List Count) → (n ≡ k → ⊥) → counted n (without count_number k counts) ≡ counted n counts
counted_left k n counts ne =
    ap count_in (found-without count_number k n counts)
    ∙ (count_of (eqb k n) None (found count_number n counts) ∙ rw (ne_eqb k n (λ e. ne (sym e))))

-- ---- how often a row stands among ids

times_cons : (n : ℕ) (id : RowId) (ids : List RowId) → times n (id ∷ ids) ≡ cond (eqb (number_at id) n) 1 0 + times n ids
times_cons n id ids = sum_by-cons (λ (x : RowId). cond (eqb (number_at x) n) 1 0) id ids

-- one more of them
pub times_more : (n : ℕ) (ids : List RowId) (i : ℕ) (id : RowId) → i < length ids → id ≡ get_or ids i id → times n (take (i + 1) ids) ≡ times n (take i ids) + cond (eqb (number_at id) n) 1 0
times_more n ids i id inside is =
    ap (λ l. times n l) (take_more ids i id inside ∙ ap (λ x. take i ids ++ x ∷ []) (sym is))
    ∙ (sum_by-append (λ (x : RowId). cond (eqb (number_at x) n) 1 0) (take i ids) (id ∷ [])
    ∙ ap (λ m. times n (take i ids) + m) (times_cons n id [] ∙ omega arith))

pub times_front : (n : ℕ) (ids : List RowId) (i : ℕ) → times n (take i ids) ≤ times n ids
times_front n ids i = sum_by-take-le (λ (x : RowId). cond (eqb (number_at x) n) 1 0) ids i

-- ---- how many rows there are, and how often they name one

kept_cons : (k : Kind) (e : Kept) (rows : List Kept) → count_by (is_of k) (e ∷ rows) ≡ cond (is_of k e) 1 0 + count_by (is_of k) rows
kept_cons k e rows = sum_by-cons (λ (x : Kept). cond (is_of k x) 1 0) e rows

-- a row is of one of the kinds
of_some_kind : (k : Kind) → 1 ≤ cond (eqb (code_of k) 1) 1 0 + (cond (eqb (code_of k) 2) 1 0 + (cond (eqb (code_of k) 3) 1 0 + (cond (eqb (code_of k) 4) 1 0 + (cond (eqb (code_of k) 5) 1 0 + (cond (eqb (code_of k) 6) 1 0 + (cond (eqb (code_of k) 7) 1 0 + cond (eqb (code_of k) 8) 1 0))))))
of_some_kind kind.Media = omega arith
of_some_kind kind.Layout = omega arith
of_some_kind kind.Campaign = omega arith
of_some_kind kind.Daypart = omega arith
of_some_kind kind.Group = omega arith
of_some_kind kind.Display = omega arith
of_some_kind kind.Event = omega arith
of_some_kind kind.Client = omega arith

abbrev kinds_count : List Kept → ℕ
kinds_count rows = count_by (is_of kind.Media) rows + (count_by (is_of kind.Layout) rows + (count_by (is_of kind.Campaign) rows + (count_by (is_of kind.Daypart) rows + (count_by (is_of kind.Group) rows + (count_by (is_of kind.Display) rows + (count_by (is_of kind.Event) rows + count_by (is_of kind.Client) rows))))))

length_by_kind : (rows : List Kept) → length rows ≤ kinds_count rows
length_by_kind [] = omega arith
length_by_kind (e ∷ rows) =
    let rest = length_by_kind rows in
    let one = of_some_kind (kind_of e.row) in
    let a = kept_cons kind.Media e rows in let b = kept_cons kind.Layout e rows in
    let c = kept_cons kind.Campaign e rows in let d = kept_cons kind.Daypart e rows in
    let f = kept_cons kind.Group e rows in let g = kept_cons kind.Display e rows in
    let h = kept_cons kind.Event e rows in let i = kept_cons kind.Client e rows in
    omega (arith, rest, one, a, b, c, d, f, g, h, i)

-- no more rows than all kinds may have together
rows_bound : (rows : List Kept) → ((k : Kind) → count_by (is_of k) rows ≤ most_of k) → length rows ≤ 13200
rows_bound rows few =
    let all = length_by_kind rows in
    let a = few kind.Media in let b = few kind.Layout in let c = few kind.Campaign in let d = few kind.Daypart in
    let f = few kind.Group in let g = few kind.Display in let h = few kind.Event in let i = few kind.Client in
    omega (arith, all, a, b, c, d, f, g, h, i)

times_bound : (n : ℕ) (rows : List Kept) → AllByRecursion IsBounded rows → times_in n rows ≤ length rows * 2 ^ 64
times_bound n [] a = omega arith
times_bound n (e ∷ rows) a =
    let rest = times_bound n rows a.1 in
    let here = count_by-le-length (λ (x : RowId). eqb (number_at x) n) (references e.row) in
    let long = a.0.references in
    let c = sum_by-cons (λ (x : Kept). times n (references x.row)) e rows in
    omega (arith, rest, here, long, c)

-- a count has room for what one more row names
pub counted_fits : (rows : List Kept) (counts : List Count) (total n m : ℕ) → AreCounted rows counts total → m < 2 ^ 64 → counted n counts + m < 2 ^ 128
counted_fits rows counts total n m a lt =
    let each = a.each n in
    let few = rows_bound rows a.few in
    let times = times_bound n rows a.bounded in
    omega (arith, each, few, times, lt)

-- ---- what it says that nothing refuses a change

absent : (id : RowId) (r : Option Kept) → exists_fault id r ≡ None → r ≡ None
absent id None e = refl
absent id (Some x) e = absurd (cc)

pub is_new : (rows : List Kept) (r : Row) → refusal rows (Insert r) ≡ None → row_at (id_of r) rows ≡ None
is_new rows r e = absent (id_of r) (row_at (id_of r) rows) (first_none (exists_fault (id_of r) (row_at (id_of r) rows)) _ e).0

room_left : (b : Bool) (f : TableRefusal) → cond b None (Some f) ≡ None → b ≡ true
room_left true f e = refl
room_left false f e = absurd (cc)

light_left : (r : Row) (total : ℕ) → total ≤ MAX_MEDIA_BYTES → bytes_fault r total ≡ None → total + bytes_of r ≤ MAX_MEDIA_BYTES
light_left (row.Media file) total le e = ltb-false MAX_MEDIA_BYTES (total + file.length) (if_none (ltb MAX_MEDIA_BYTES (total + file.length)) _ None e).0
light_left (row.Layout l) total le e = omega arith
light_left (row.Campaign c) total le e = omega arith
light_left (row.Daypart d) total le e = omega arith
light_left (row.Group g) total le e = omega arith
light_left (row.Display d) total le e = omega arith
light_left (row.Event v) total le e = omega arith

-- ---- after a change

pub counted_insert : (e : Kept) (rows : List Kept) (counts new : List Count) (total sum : ℕ) → AreCounted rows counts total → IsBounded e → refusal rows (Insert e.row) ≡ None
    → ((n : ℕ) → counted n new ≡ counted n counts + times n (references e.row)) → sum ≡ total + bytes_of e.row → AreCounted (put number_of_kept e rows) new sum
counted_insert e rows counts new total sum a bounded allowed added summed =
    let none = is_new rows e.row allowed in
    let passed_new = (first_none (exists_fault (id_of e.row) (row_at (id_of e.row) rows)) _ allowed).1 in
    let passed_named = first_none (references_fault rows (references e.row)) _ passed_new in
    let limits = passed_named.1 in
    let counts_left = (first_none (count_fault (kind_of e.row) rows) (bytes_fault e.row (declared rows)) limits) in
    let less : count_by (is_of (kind_of e.row)) rows < most_of (kind_of e.row) = ltb-true _ _ (room_left _ _ counts_left.0) in
    let nothing : (f : Kept → ℕ) → part f (found number_of_kept (number_of_kept e) rows) ≡ 0 = (λ f. ap (part f) none) in
    let bytes_now = sum-put number_of_kept (λ (x : Kept). bytes_of x.row) e rows a.rising in
    let bytes_none = nothing (λ (x : Kept). bytes_of x.row) in
    let bytes_old = a.bytes in
    let light = light_left e.row (declared rows) a.light counts_left.1 in
    record {
      rising = rising-put number_of_kept e rows a.rising;
      closed = closed_put e rows (named_there rows (references e.row) passed_named.0) a.closed;
      each = λ n.
          let old = a.each n in
          let now = added n in
          let put_is = sum-put number_of_kept (λ (x : Kept). times n (references x.row)) e rows a.rising in
          let zero_is = nothing (λ (x : Kept). times n (references x.row)) in
          omega (arith, old, now, put_is, zero_is);
      bytes = omega (arith, bytes_now, bytes_none, bytes_old, summed);
      few = λ k.
          let put_is = sum-put number_of_kept (λ (x : Kept). cond (is_of k x) 1 0) e rows a.rising in
          let zero_is = nothing (λ (x : Kept). cond (is_of k x) 1 0) in
          let old = a.few k in
          by_equal (code_of (kind_of e.row)) (code_of k) (λ b. count_by (is_of k) (put number_of_kept e rows) + part (λ (x : Kept). cond (is_of k x) 1 0) (found number_of_kept (number_of_kept e) rows) ≡ count_by (is_of k) rows + cond b 1 0 → count_by (is_of k) (put number_of_kept e rows) ≤ most_of k)
          (λ same is.
          let here : count_by (is_of k) rows < most_of k = subst (λ j. count_by (is_of j) rows < most_of j) (same_code (kind_of e.row) k same) less in
          omega (arith, is, zero_is, here))
          (λ _ is. omega (arith, is, zero_is, old))
          put_is;
      light = omega (arith, bytes_now, bytes_none, light);
      bounded = kept_put IsBounded e rows bounded a.bounded;
    }

pub counted_remove : (n : ℕ) (e : Kept) (rows : List Kept) (counts new : List Count) (total rest : ℕ) → AreCounted rows counts total → times_in n rows ≡ 0 → found number_of_kept n rows ≡ Some e
    → ((k : ℕ) → counted k new + times k (references e.row) ≡ counted k counts) → rest + bytes_of e.row ≡ total → AreCounted (without number_of_kept n rows) new rest
counted_remove n e rows counts new total rest a unused there taken left =
    let it : (f : Kept → ℕ) → part f (found number_of_kept n rows) ≡ f e = (λ f. ap (part f) there) in
    let bytes_now = sum-without number_of_kept (λ (x : Kept). bytes_of x.row) n rows a.rising in
    let bytes_it = it (λ (x : Kept). bytes_of x.row) in
    let bytes_old = a.bytes in
    let light = a.light in
    record {
      rising = rising-without number_of_kept n rows a.rising;
      closed = closed_without n rows unused a.closed;
      each = λ k.
          let old = a.each k in
          let now = taken k in
          let without_is = sum-without number_of_kept (λ (x : Kept). times k (references x.row)) n rows a.rising in
          let it_is = it (λ (x : Kept). times k (references x.row)) in
          omega (arith, old, now, without_is, it_is);
      bytes = omega (arith, bytes_now, bytes_it, bytes_old, left);
      few = λ k.
          let without_is = sum-without number_of_kept (λ (x : Kept). cond (is_of k x) 1 0) n rows a.rising in
          let old = a.few k in
          omega (arith, without_is, old);
      light = omega (arith, bytes_now, light);
      bounded = all_without number_of_kept IsBounded n rows a.bounded;
    }

-- what a row names is counted
pub counted_of : (n : ℕ) (e : Kept) (rows : List Kept) (counts : List Count) (total k : ℕ) → AreCounted rows counts total → found number_of_kept n rows ≡ Some e → times k (references e.row) ≤ counted k counts
counted_of n e rows counts total k a there =
    let old = a.each k in
    let without_is = sum-without number_of_kept (λ (x : Kept). times k (references x.row)) n rows a.rising in
    let it_is : part (λ (x : Kept). times k (references x.row)) (found number_of_kept n rows) ≡ times k (references e.row) = ap (part (λ (x : Kept). times k (references x.row))) there in
    omega (arith, old, without_is, it_is)

-- and so are the bytes that it declares
pub declared_of : (n : ℕ) (e : Kept) (rows : List Kept) (counts : List Count) (total : ℕ) → AreCounted rows counts total → found number_of_kept n rows ≡ Some e → bytes_of e.row ≤ total
declared_of n e rows counts total a there =
    let old = a.bytes in
    let without_is = sum-without number_of_kept (λ (x : Kept). bytes_of x.row) n rows a.rising in
    let it_is : part (λ (x : Kept). bytes_of x.row) (found number_of_kept n rows) ≡ bytes_of e.row = ap (part (λ (x : Kept). bytes_of x.row)) there in
    omega (arith, old, without_is, it_is)

pub media_code : (r : Row) → is_media r ≡ eqb (code_of (kind_of r)) 1
media_code (row.Media f) = refl
media_code (row.Layout l) = refl
media_code (row.Campaign c) = refl
media_code (row.Daypart d) = refl
media_code (row.Group g) = refl
media_code (row.Display d) = refl
media_code (row.Event v) = refl

no_bytes : (r : Row) → is_media r ≡ false → bytes_of r ≡ 0
no_bytes (row.Media f) e = absurd (cc)
no_bytes (row.Layout l) e = refl
no_bytes (row.Campaign c) e = refl
no_bytes (row.Daypart d) e = refl
no_bytes (row.Group g) e = refl
no_bytes (row.Display d) e = refl
no_bytes (row.Event v) e = refl

abbrev one_if : Bool → ℕ
one_if b = cond b 1 0

-- two rows of one key are of one kind
kind_at : (d e : Kept) → IsBounded d → IsBounded e → number_of_kept d ≡ number_of_kept e → code_of (kind_of d.row) ≡ code_of (kind_of e.row)
kind_at d e bd be same =
    let i = bd.id in
    let j = be.id in
    kind_is (code_of (kind_of d.row)) (code_of (kind_of e.row)) (id_in d.row) i (omega (arith, i, j, same)) (omega (arith, i, j, same))

pub counted_replace : (old e : Kept) (rows : List Kept) (counts mid new : List Count) (total : ℕ) → AreCounted rows counts total → IsBounded e → is_media e.row ≡ false → refusal rows (Replace e.row) ≡ None → found number_of_kept (number_of_kept e) rows ≡ Some old
    → ((k : ℕ) → counted k mid + times k (references old.row) ≡ counted k counts) → ((k : ℕ) → counted k new ≡ counted k mid + times k (references e.row)) → AreCounted (put number_of_kept e rows) new total
counted_replace old e rows counts mid new total a bounded plain allowed there taken added =
    let it : (f : Kept → ℕ) → part f (found number_of_kept (number_of_kept e) rows) ≡ f old = (λ f. ap (part f) there) in
    let old_bounded = kept_at IsBounded (number_of_kept e) old rows a.bounded there in
    let same = kind_at old e old_bounded bounded (rank_found number_of_kept (number_of_kept e) rows old there) in
    let old_plain : is_media old.row ≡ false = media_code old.row ∙ (ap (λ c. eqb c 1) same ∙ (sym (media_code e.row) ∙ plain)) in
    let no_old = no_bytes old.row old_plain in
    let no_new = no_bytes e.row plain in
    let bytes_now = sum-put number_of_kept (λ (x : Kept). bytes_of x.row) e rows a.rising in
    let bytes_it = it (λ (x : Kept). bytes_of x.row) in
    let bytes_old = a.bytes in
    let light = a.light in
    let passed_named = (first_none (unknown_fault (id_of e.row) (row_at (id_of e.row) rows)) (references_fault rows (references e.row)) allowed).1 in
    record {
      rising = rising-put number_of_kept e rows a.rising;
      closed = closed_put e rows (named_there rows (references e.row) passed_named) a.closed;
      each = λ k.
          let was = a.each k in
          let less = taken k in
          let more = added k in
          let put_is = sum-put number_of_kept (λ (x : Kept). times k (references x.row)) e rows a.rising in
          let it_is = it (λ (x : Kept). times k (references x.row)) in
          omega (arith, was, less, more, put_is, it_is);
      bytes = omega (arith, bytes_now, bytes_it, bytes_old, no_old, no_new);
      few = λ k.
          let put_is = sum-put number_of_kept (λ (x : Kept). cond (is_of k x) 1 0) e rows a.rising in
          let it_is = it (λ (x : Kept). cond (is_of k x) 1 0) in
          let one = ap (λ c. one_if (eqb c (code_of k))) same in
          let was = a.few k in
          omega (arith, put_is, it_is, one, was);
      light = omega (arith, bytes_now, bytes_it, light, no_old, no_new);
      bounded = kept_put IsBounded e rows bounded a.bounded;
    }

-- ---- users of a row

-- a row that stands nowhere among ids is named nowhere
unnamed : (id : RowId) (ids : List RowId) → times (number_at id) ids ≡ 0 → list_any (is_same id) ids ≡ false
unnamed id [] e = refl
unnamed id (x ∷ xs) e =
    elim (is_same id x) as (λ b. is_same id x ≡ b → b || list_any (is_same id) xs ≡ false) [
      | true ↦ λ h.
          let parts = and_parts (eqb (code_of id.kind) (code_of x.kind)) (eqb id.id x.id) h in
          let k = eqb-true (code_of id.kind) (code_of x.kind) parts.0 in
          let i = eqb-true id.id x.id parts.1 in
          let same : number_at x ≡ number_at id = omega (arith, k, i) in
          let q : times (number_at id) (x ∷ xs) ≡ 1 + times (number_at id) xs = times_cons (number_at id) x xs ∙ rw (eq-eqb (number_at x) (number_at id) same) in
          absurd (omega (arith, q, e))
      | false ↦ λ _. unnamed id xs (let q = times_cons (number_at id) x xs in omega (arith, q, e))
    ] refl

no_use : (id : RowId) (k : Kind) (rows : List Kept) → times_in (number_at id) rows ≡ 0 → first_in (use_fault id k) rows ≡ None
no_use id k [] e = refl
no_use id k (x ∷ xs) e =
    let c = sum_by-cons (λ (y : Kept). times (number_at id) (references y.row)) x xs in
    let here = unnamed id (references x.row) (omega (arith, c, e)) in
    let rest = no_use id k xs (omega (arith, c, e)) in
    elim (is_of k x) as (λ b. first_of (cond (b && uses id x.row) (Some (InUse id.kind id.id k (id_in x.row))) None) (first_in (use_fault id k) xs) ≡ None) [
      | true ↦ rw here rest
      | false ↦ rest
    ]

pub no_user : (id : RowId) (rows : List Kept) → times_in (number_at id) rows ≡ 0 → user_fault id rows ≡ None
no_user id rows e =
    rw (no_use id kind.Campaign rows e, no_use id kind.Layout rows e, no_use id kind.Event rows e, no_use id kind.Display rows e)

-- the first user of a kind is one of its rows
pub first_of_kind : (id : RowId) (k : Kind) (rows : List Kept) → first_in (use_fault id k) (filter (is_of k) rows) ≡ first_in (use_fault id k) rows
first_of_kind id k [] = refl
first_of_kind id k (x ∷ xs) = elim (is_of k x) as (λ b. is_of k x ≡ b → first_in (use_fault id k) (cond b (x ∷ filter (is_of k) xs) (filter (is_of k) xs)) ≡ first_in (use_fault id k) (x ∷ xs)) [
  | true ↦ λ _. ap (first_of (use_fault id k x)) (first_of_kind id k xs)
  | false ↦ λ no. rw no (first_of_kind id k xs)
] refl

-- where each of several faults isn't there, the last decides
pub passed : (a b c d : Option TableRefusal) → a ≡ None → b ≡ None → c ≡ None → first_of a (first_of b (first_of c d)) ≡ d
passed a b c d p q r = rw (p, q, r)
