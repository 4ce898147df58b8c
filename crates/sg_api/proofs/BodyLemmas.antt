-- A batch that is read has no more plays than it may have.
use Rattle.std.proofs.Common.{◌≡◌, ℕ, ◌≤◌, Bool, true, false, List, ◌∷◌, length, refl, subst, arith}
use Rattle.std.specs.Prelude.{IfOk, Result, Ok, Err, codes, ◌&&◌, nat_le, nat_lt}
use Rattle.std.proofs.lemmas.Bool.{leb-true}
use Rattle.serde_json.specs.Data.{Data, Items, no_items, item}
use Rattle.serde_json.specs.Find.{get}
use Rattle.sg_base.specs.declared.limits.TheConstants.{BATCH_PLAYS}
use Rattle.sg_base.specs.declared.play.PlayBody.{PlayBody}
use Rattle.sg_bodies.specs.Bodies.{PlaysParts, batch_at, play_at, plays_body_in}
use Rattle.sg_rows.specs.declared.fault.RowFault.{RowFault}
use Rattle.sg_rows.specs.declared.fault.RowFault.TheVariants as row
use Rattle.sg_rows.specs.Faults.{◌>>=◌, needs, wants}
use Rattle.sg_rows.specs.Parts.{count_of_items, each_at, exactly, id_at, items_at, member_at}

if_bound : {F A B : Type 0} (r : Result A F) (f : A → Result B F) (P : B → Type 0) → ((x : A) → IfOk (f x) P) → IfOk (r >>= f) P
if_bound (Ok x) f P h = h x
if_bound (Err e) f P h = tt

if_then : {F A B : Type 0} (r : Result A F) (f : A → Result B F) (Q : A → Type 0) (P : B → Type 0) → IfOk r Q → ((x : A) → Q x → IfOk (f x) P)
    → IfOk (r >>= f) P
if_then (Ok x) f Q P q h = h x q
if_then (Err e) f Q P q h = tt

if_needs : {F B : Type 0} (b : Bool) (e : F) (f : Unit {0} → Result B F) (P : B → Type 0) → (b ≡ true → IfOk (f tt) P) → IfOk (needs b e >>= f) P
if_needs true e f P h = h refl
if_needs false e f P h = tt

counted : {A : Type 0} (f : Data → Result A RowFault) (ds : Items) → IfOk (each_at f ds) (λ xs. length xs ≡ count_of_items ds)
counted f no_items = refl
counted {A} f (item d ds) =
    if_bound (f d) (λ x. each_at f ds >>= (λ xs. Ok (x ∷ xs))) (λ (xs : List A). length xs ≡ count_of_items (item d ds))
    (λ x. if_then (each_at f ds) (λ xs. Ok (x ∷ xs)) (λ (xs : List A). length xs ≡ count_of_items ds)
    (λ (xs : List A). length xs ≡ count_of_items (item d ds)) (counted f ds) (λ xs e. omega (arith, e)))

second : (a b : Bool) → (a && b) ≡ true → b ≡ true
second true b e = e
second false b e = absurd (cc)

items_few : (ds : Items) → (nat_lt 0 (count_of_items ds) && nat_le (count_of_items ds) BATCH_PLAYS) ≡ true
    → IfOk (each_at play_at ds) (λ xs. length xs ≤ BATCH_PLAYS)
items_few ds small =
    let most : count_of_items ds ≤ BATCH_PLAYS = leb-true (count_of_items ds) BATCH_PLAYS (second _ _ small) in
    at_most (each_at play_at ds) (count_of_items ds) most (counted play_at ds)
  where
    at_most : (r : Result (List PlayBody) RowFault) (n : ℕ) → n ≤ BATCH_PLAYS → IfOk r (λ xs. length xs ≡ n) → IfOk r (λ xs. length xs ≤ BATCH_PLAYS)
    at_most (Ok xs) n le e = omega (arith, le, e)
    at_most (Err e) n le h = tt

batch_few : (d : Data) → IfOk (batch_at d) (λ xs. length xs ≤ BATCH_PLAYS)
unfolding batch_at
batch_few d = if_bound (items_at d) _ (λ xs. length xs ≤ BATCH_PLAYS)
    (λ items. if_needs (nat_lt 0 (count_of_items items) && nat_le (count_of_items items) BATCH_PLAYS) row.Shape _ (λ xs. length xs ≤ BATCH_PLAYS) (items_few items))

few_plays : (d : Data) → IfOk (plays_body_in d) (λ p. length p.plays ≤ BATCH_PLAYS)
unfolding plays_body_in
few_plays d =
    if_bound (exactly 3 d) _ (λ p. length p.plays ≤ BATCH_PLAYS)
    (λ form. if_bound (member_at id_at (codes "epoch") d) _ (λ p. length p.plays ≤ BATCH_PLAYS)
    (λ epoch. if_bound (member_at id_at (codes "first") d) _ (λ p. length p.plays ≤ BATCH_PLAYS)
    (λ first. if_then (member_at batch_at (codes "plays") d) _ (λ xs. length xs ≤ BATCH_PLAYS) (λ p. length p.plays ≤ BATCH_PLAYS)
    (if_bound (wants (get (codes "plays") d) row.Shape) batch_at (λ xs. length xs ≤ BATCH_PLAYS) batch_few) (λ plays small. small))))

pub few_in : (d : Data) (p : PlaysParts) → plays_body_in d ≡ Ok p → length p.plays ≤ BATCH_PLAYS
few_in d p is = subst (λ (r : Result PlaysParts RowFault). IfOk r (λ q. length q.plays ≤ BATCH_PLAYS)) is (few_plays d)
