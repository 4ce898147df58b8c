-- What is known of the entries that were read; and the entries of a valid list are read again.
use Rattle.std.proofs.Common.{◌≡◌, ℕ, suc, ◌+◌, ◌<◌, ◌≤◌, ◌==◌, ◌||◌, nat_le, Bool, true, false, not, List, [], ◌∷◌, ◌++◌, length, map, Result, Ok, Err, get_or, drop, drop-cons, append_assoc, refl, sym, ap, subst, ◌∙◌, arith, add-one}
use Rattle.std.proofs.lemmas.List.{append-nil, drop_all}
use Rattle.std.proofs.lemmas.List.Folds.{list_any-append}
use Rattle.std.proofs.lemmas.Bool.Decides.{nat_tests}
use Rattle.std.proofs.lemmas.Map.Keys.{IsDistinct-head, IsDistinct-tail, IsDistinct-cons}
use Rattle.std.specs.List.{AllByRecursion, IsDistinct, list_any}
use Rattle.serde_json.specs.Data.{Data, Items, no_items, item}
use Rattle.serde_json.specs.View.{view, items_of, items_view}
use Rattle.serde_json.specs.declared.value.Value.{Value}
use Rattle.sg_base.proofs.DoubleLemmas.{same}
use Rattle.sg_rows.specs.declared.fault.RowFault.{RowFault}
use Rattle.sg_base.specs.declared.kind.Kind.{Kind}
use Rattle.sg_base.specs.declared.kind.LimitName.{LimitName}
use Rattle.sg_rows.specs.Faults.{◌>>=◌, needs}
use Rattle.sg_rows.proofs.BindLemmas.{bind_ok, needs_ok}
use Rattle.sg_rows.specs.Parts.{count_of_items, member_at, items_at, with_front}
use Rattle.sg_manifest.specs.declared.fault.ManifestFault.{ManifestFault}
use Rattle.sg_manifest.specs.declared.fault.ManifestFault.TheVariants.{Double, Limit}
use Rattle.sg_manifest.specs.Faults.{in_entry}
use Rattle.sg_manifest.specs.Reading.{entries_at, rows_at}

not_false : (b : Bool) → not b ≡ true → b ≡ false
not_false true e = absurd (cc)
not_false false e = refl

ok_same : {A : Type 0} (r : Result A ManifestFault) (x y : A) → r ≡ Ok x → r ≡ Ok y → x ≡ y
ok_same r x y e f = cc

pub counted : (vs : List Value) → count_of_items (items_view vs) ≡ length vs
counted [] = refl
counted (v ∷ vs) = rw (counted vs, add-one) refl

pub counted_items : {A : Type 0} (f : A → Data) (xs : List A) → count_of_items (items_of (map f xs)) ≡ length xs
counted_items f [] = refl
counted_items f (x ∷ xs) = rw (counted_items f xs, add-one) refl

abbrev pub IsNew : {A : Type 0} → (A → ℕ) → List ℕ → A → Type 0
IsNew key seen x = list_any (λ n. n == key x) seen ≡ false

or_false : (a b : Bool) → (a || b) ≡ false → (a ≡ false) × (b ≡ false)
or_false true b h = absurd (cc)
or_false false b h = (refl, h)

-- what is new behind one id more is new behind the others, and has another id
older : {A : Type 0} (key : A → ℕ) (seen : List ℕ) (x : A) (xs : List A) → AllByRecursion (IsNew key (seen ++ key x ∷ [])) xs → AllByRecursion (IsNew key seen) xs
older key seen x [] h = tt
older key seen x (y ∷ ys) h =
    let both = or_false (list_any (λ n. n == key y) seen) (list_any (λ n. n == key y) (key x ∷ [])) (rw (list_any-append (λ n. n == key y) seen (key x ∷ [])) at h.0) in
    (both.0, older key seen x ys h.1)

apart_of : {A : Type 0} (key : A → ℕ) (seen : List ℕ) (x : A) (xs : List A) → AllByRecursion (IsNew key (seen ++ key x ∷ [])) xs → AllByRecursion (λ y. same key x y ≡ false) xs
apart_of key seen x [] h = tt
apart_of key seen x (y ∷ ys) h =
    let both = or_false (list_any (λ n. n == key y) seen) (list_any (λ n. n == key y) (key x ∷ [])) (rw (list_any-append (λ n. n == key y) seen (key x ∷ [])) at h.0) in
    ((or_false (key x == key y) false both.1).0, apart_of key seen x ys h.1)

pub record Facts {A : Type 0} (key : A → ℕ) (seen : List ℕ) (n : ℕ) (xs : List A) : Type 0 where
  pub long : length xs ≡ n
  pub new : AllByRecursion (IsNew key seen) xs
  pub apart : IsDistinct (same key) xs

no_facts : {A : Type 0} (key : A → ℕ) (seen : List ℕ) → Facts key seen 0 []
unfolding IsDistinct
no_facts key seen = record { long = refl; new = tt; apart = tt }

pub entries_facts : {A : Type 0} (list : ℕ) (kind : Kind) (at : Data → Result A RowFault) (key : A → ℕ) (k : ℕ) (seen : List ℕ) (ds : Items) (xs : List A)
    → entries_at list kind at key k seen ds ≡ Ok xs → Facts key seen (count_of_items ds) xs
entries_facts list kind at key k seen no_items xs e = subst (Facts key seen 0) (ok_same (entries_at list kind at key k seen no_items) [] xs refl e) (no_facts key seen)
entries_facts {A} list kind at key k seen (item d ds) xs e =
    let rest : A → Result (List A) ManifestFault = λ x. entries_at list kind at key (k + 1) (seen ++ key x ∷ []) ds >>= (λ ys. Ok (x ∷ ys)) in
    let a = bind_ok (in_entry list k (at d)) (λ x. needs (not (list_any (λ n. n == key x) seen)) (Double kind (key x)) >>= (λ new. rest x)) xs e in
    let b = bind_ok (needs (not (list_any (λ n. n == key a.0) seen)) (Double kind (key a.0))) (λ new. rest a.0) xs a.2 in
    let c = bind_ok (entries_at list kind at key (k + 1) (seen ++ key a.0 ∷ []) ds) (λ ys. Ok (a.0 ∷ ys)) xs b.2 in
    let known = entries_facts list kind at key (k + 1) (seen ++ key a.0 ∷ []) ds c.0 c.1 in
    let new = not_false _ (needs_ok (not (list_any (λ n. n == key a.0) seen)) (Double kind (key a.0)) b.0 b.1) in
    let made : Result (List A) ManifestFault = Ok (a.0 ∷ c.0) in
    subst (Facts key seen (count_of_items ds + 1)) (ok_same made (a.0 ∷ c.0) xs refl c.2) (record {
      long = omega (arith, known.long);
      new = (new, older key seen a.0 c.0 known.new);
      apart = IsDistinct-cons (same key) a.0 c.0 (apart_of key seen a.0 c.0 known.new) known.apart;
    })

-- ---- the entries of a valid list

newer : {A : Type 0} (key : A → ℕ) (seen : List ℕ) (x : A) (xs : List A) → AllByRecursion (IsNew key seen) xs → AllByRecursion (λ y. same key x y ≡ false) xs → AllByRecursion (IsNew key (seen ++ key x ∷ [])) xs
newer key seen x [] h k = tt
newer key seen x (y ∷ ys) h k = (rw (list_any-append (λ n. n == key y) seen (key x ∷ []), h.0, k.0) refl, newer key seen x ys h.1 k.1)

entries_again : {A : Type 0} (f : A → Data) (at : Data → Result A RowFault) (P : A → Type 0) → ((x : A) → P x → at (f x) ≡ Ok x)
    → (list : ℕ) (kind : Kind) (key : A → ℕ) (k : ℕ) (seen : List ℕ) (xs : List A) → AllByRecursion P xs → AllByRecursion (IsNew key seen) xs → IsDistinct (same key) xs
    → entries_at list kind at key k seen (items_of (map f xs)) ≡ Ok xs
entries_again f at P again list kind key k seen [] h n d = refl
entries_again f at P again list kind key k seen (x ∷ xs) h n d =
    let rest = entries_again f at P again list kind key (k + 1) (seen ++ key x ∷ []) xs h.1 (newer key seen x xs n.1 (IsDistinct-head (same key) x xs d)) (IsDistinct-tail (same key) x xs d) in
    rw (again x h.0, n.0, rest) refl

all_new : {A : Type 0} (key : A → ℕ) (xs : List A) → AllByRecursion (IsNew key []) xs
all_new key [] = tt
all_new key (x ∷ xs) = (refl, all_new key xs)

pub list_again : {A : Type 0} (f : A → Data) (at : Data → Result A RowFault) (P : A → Type 0) → ((x : A) → P x → at (f x) ≡ Ok x)
    → (list : ℕ) (kind : Kind) (key : A → ℕ) (xs : List A) → AllByRecursion P xs → IsDistinct (same key) xs
    → entries_at list kind at key 0 [] (items_of (map f xs)) ≡ Ok xs
list_again f at P again list kind key xs h d = entries_again f at P again list kind key 0 [] xs h (all_new key xs) d

-- ---- for the loop over the entries

pub all_more : {A : Type 0} (P : A → Type 0) (xs : List A) (x : A) → AllByRecursion P xs → P x → AllByRecursion P (xs ++ x ∷ [])
all_more P [] x h p = (p, tt)
all_more P (y ∷ ys) x h p = (h.0, all_more P ys x h.1 p)

front_more : {A : Type 0} (rows : List A) (x : A) (r : Result (List A) ManifestFault) → with_front (rows ++ x ∷ []) r ≡ with_front rows (r >>= (λ xs. Ok (x ∷ xs)))
front_more rows x (Ok ys) = ap Ok (append_assoc rows (x ∷ []) ys)
front_more rows x (Err f) = refl

-- an entry whose id was seen
pub seen_at : {A : Type 0} (list : ℕ) (kind : Kind) (at : Data → Result A RowFault) (key : A → ℕ) (i : ℕ) (seen : List ℕ) (vs : List Value) (v : Value) (x : A) (id : ℕ) (rows : List A) (whole : Result (List A) ManifestFault)
    → i < length vs → v ≡ get_or vs i v → in_entry list i (at (view v)) ≡ Ok x → id ≡ key x → list_any (λ n. n == id) seen ≡ true
    → with_front rows (entries_at list kind at key i seen (items_view (drop i vs))) ≡ whole → whole ≡ Err (Double kind id)
seen_at list kind at key i seen vs v x id rows whole inside is made named old left =
    let here : drop i vs ≡ v ∷ drop (suc i) vs = rw (drop-cons vs i v inside, ← is) refl in
    let known : list_any (λ n. n == key x) seen ≡ true = subst (λ (m : ℕ). list_any (λ n. n == m) seen ≡ true) named old in
    let fault : with_front rows (entries_at list kind at key i seen (items_view (drop i vs))) ≡ Err (Double kind (key x)) = rw (here, made, known) refl in
    sym left ∙ fault ∙ ap (λ (m : ℕ). Err (Double kind m)) (sym named)

-- an entry with a new id
pub next_at : {A : Type 0} (list : ℕ) (kind : Kind) (at : Data → Result A RowFault) (key : A → ℕ) (i : ℕ) (seen more : List ℕ) (vs : List Value) (v : Value) (x : A) (id : ℕ) (rows longer : List A) (whole : Result (List A) ManifestFault)
    → i < length vs → v ≡ get_or vs i v → in_entry list i (at (view v)) ≡ Ok x → id ≡ key x → list_any (λ n. n == id) seen ≡ false
    → more ≡ seen ++ id ∷ [] → longer ≡ rows ++ x ∷ []
    → with_front rows (entries_at list kind at key i seen (items_view (drop i vs))) ≡ whole
    → with_front longer (entries_at list kind at key (i + 1) more (items_view (drop (i + 1) vs))) ≡ whole
next_at list kind at key i seen more vs v x id rows longer whole inside is made named new m l left =
    let here : drop i vs ≡ v ∷ drop (suc i) vs = rw (drop-cons vs i v inside, ← is) refl in
    let known : list_any (λ n. n == key x) seen ≡ false = subst (λ (m : ℕ). list_any (λ n. n == m) seen ≡ false) named new in
    let step : with_front rows (entries_at list kind at key i seen (items_view (drop i vs))) ≡ with_front rows (entries_at list kind at key (i + 1) (seen ++ key x ∷ []) (items_view (drop (suc i) vs)) >>= (λ xs. Ok (x ∷ xs))) = rw (here, made, known) refl in
    let front = front_more rows x (entries_at list kind at key (i + 1) (seen ++ key x ∷ []) (items_view (drop (suc i) vs))) in
    rw (m, l, named, add-one) (rw add-one at front ∙ sym (rw add-one at step) ∙ left)

-- no entry is left
pub done_at : {A : Type 0} (list : ℕ) (kind : Kind) (at : Data → Result A RowFault) (key : A → ℕ) (i : ℕ) (seen : List ℕ) (vs : List Value) (rows : List A) (whole : Result (List A) ManifestFault)
    → length vs ≤ i → with_front rows (entries_at list kind at key i seen (items_view (drop i vs))) ≡ whole → whole ≡ Ok rows
done_at list kind at key i seen vs rows whole over left =
    let none : drop i vs ≡ [] = drop_all i vs over in
    let made : with_front rows (entries_at list kind at key i seen (items_view (drop i vs))) ≡ Ok rows = rw (none, append-nil rows) refl in
    sym left ∙ made

-- ---- a list by its limit

pub rows_limit : {A : Type 0} (list : ℕ) (name : LimitName) (most : ℕ) (kind : Kind) (at : Data → Result A RowFault) (key : A → ℕ) (member : List ℕ) (d : Data) (vs : List Value)
    → member_at items_at member d ≡ Ok (items_view vs) → most < length vs → rows_at list name most kind at key member d ≡ Err (Limit name (length vs))
rows_limit list name most kind at key member d vs e many =
    let over : nat_le (length vs) most ≡ false = grind (arith, nat_tests) in
    rw (e, counted vs, over) refl

pub rows_are : {A : Type 0} (list : ℕ) (name : LimitName) (most : ℕ) (kind : Kind) (at : Data → Result A RowFault) (key : A → ℕ) (member : List ℕ) (d : Data) (vs : List Value)
    → member_at items_at member d ≡ Ok (items_view vs) → length vs ≤ most → rows_at list name most kind at key member d ≡ entries_at list kind at key 0 [] (items_view vs)
rows_are list name most kind at key member d vs e few =
    let within : nat_le (length vs) most ≡ true = grind (arith, nat_tests) in
    rw (e, counted vs, within) refl
