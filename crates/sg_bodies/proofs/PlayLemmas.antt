-- Plays by the items of their JSON.
use Rattle.std.proofs.Common.{◌≡◌, ℕ, ◌<◌, ◌≤◌, List, [], ◌∷◌, length, refl, arith, lt-ltb, false}
use Rattle.std.specs.Prelude.{◌≢◌, Err, Ok, nat_le}
use Rattle.std.proofs.lemmas.Bool.{le-leb}
use Rattle.serde_json.specs.Data.{Data}
use Rattle.serde_json.specs.declared.value.Value.{Value}
use Rattle.serde_json.specs.View.{items_view, view}
use Rattle.sg_base.specs.declared.limits.TheConstants.{BATCH_PLAYS}
use Rattle.sg_bodies.specs.Bodies.{batch_at, play_at, play_in}
use Rattle.sg_bodies.proofs.BatchLemmas.{counted}
use Rattle.sg_rows.specs.Parts.{each_at, items_at}
use Rattle.sg_rows.specs.declared.fault.RowFault.TheVariants.{Shape}

other_items : (vs : List Value) → length vs ≢ 4 → play_in (items_view vs) ≡ Err Shape
other_items [] other = refl
other_items (v ∷ []) other = refl
other_items (v ∷ w ∷ []) other = refl
other_items (v ∷ w ∷ x ∷ []) other = refl
other_items (v ∷ w ∷ x ∷ y ∷ []) other = absurd (other refl)
other_items (v ∷ w ∷ x ∷ y ∷ z ∷ vs) other = refl

pub no_play : (d : Data) (vs : List Value) → items_at d ≡ Ok (items_view vs) → length vs ≢ 4 → play_at d ≡ Err Shape
unfolding play_at
no_play d vs e other = rw (e, other_items vs other) refl

pub no_plays : (d : Data) (vs : List Value) → items_at d ≡ Ok (items_view vs) → length vs ≡ 0 → batch_at d ≡ Err Shape
unfolding batch_at
no_plays d [] e none = rw e refl
no_plays d (v ∷ vs) e none = absurd (omega arith)

over : (n m : ℕ) → m < n → nat_le n m ≡ false
over n m h = grind arith

pub many_plays : (d : Data) (vs : List Value) → items_at d ≡ Ok (items_view vs) → BATCH_PLAYS < length vs → batch_at d ≡ Err Shape
unfolding batch_at
many_plays d vs e many = rw (e, counted view vs, lt-ltb 0 (length vs) (omega arith), over (length vs) BATCH_PLAYS many) refl

pub some_plays : (d : Data) (vs : List Value) → items_at d ≡ Ok (items_view vs) → length vs ≢ 0 → length vs ≤ BATCH_PLAYS
    → batch_at d ≡ each_at play_at (items_view vs)
unfolding batch_at
some_plays d vs e some few = rw (e, counted view vs, lt-ltb 0 (length vs) (omega arith), le-leb (length vs) BATCH_PLAYS few) refl
