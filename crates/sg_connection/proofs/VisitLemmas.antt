-- One connection after others.
use Rattle.std.proofs.Common.{◌≡◌, ◌∙◌, ℕ, ◌+◌, ◌≤◌, Bool, true, List, [], ◌∷◌, ◌++◌, map, inl, inr, refl, sym, ap, subst, arith, append_assoc}
use Rattle.std.specs.Prelude.{None, Some}
use Rattle.std.specs.declared.option.Option.{Option}
use Rattle.std.proofs.lemmas.List.{append-nil, length-append}
use Rattle.sg_base.specs.Causes.{Rose}
use Rattle.sg_http.specs.Messages.{Request}
use Rattle.sg_outside.specs.Lists.{Grows, Loses}
use Rattle.sg_connection.specs.declared.answer.Answer.{Answer}
use Rattle.sg_connection.specs.Serving.{Scene, Serves}
use Rattle.sg_connection.specs.declared.door.Served.TheVariants.{Done, DoorFault}
use Rattle.sg_connection.specs.Visits.{Handed, ServesDoor, Visit, Visits, came, left}

loses_none : {C : Type 0} (a : Option (List C)) → Loses a a []
loses_none None = tt
loses_none (Some xs) = refl

grows_none : {C : Type 0} (a : Option (List C)) → Grows a a []
grows_none None = tt
grows_none (Some xs) = sym (append-nil xs)

loses_then : {C : Type 0} (a b c : Option (List C)) (xs ys : List C) → Loses a b xs → Loses b c ys → Loses a c (xs ++ ys)
loses_then a b None xs ys p q = tt
loses_then a None (Some cs) xs ys p q = absurd q
loses_then None (Some bs) (Some cs) xs ys p q = absurd p
loses_then (Some zs) (Some bs) (Some cs) xs ys p q = p ∙ ap (λ l. xs ++ l) q ∙ sym (append_assoc xs ys cs)

grows_then : {C : Type 0} (a b c : Option (List C)) (xs ys : List C) → Grows a b xs → Grows b c ys → Grows a c (xs ++ ys)
grows_then a b None xs ys p q = tt
grows_then a None (Some cs) xs ys p q = absurd q
grows_then None (Some bs) (Some cs) xs ys p q = absurd p
grows_then (Some zs) (Some bs) (Some cs) xs ys p q = q ∙ ap (λ l. l ++ ys) p ∙ append_assoc zs xs ys

map-append : {A B : Type 0} (f : A → B) (xs ys : List A) → map f (xs ++ ys) ≡ map f xs ++ map f ys
map-append f [] ys = refl
map-append f (x ∷ xs) ys = ap (λ zs. f x ∷ zs) (map-append f xs ys)

visits_more : {S C : Type 0} (rule : S → Request → Answer → S → Type 0) (scene : C → S → Scene S) (s t w : S) (vs : List (Visit C)) (v : Visit C)
    → Visits rule scene s vs t → Serves rule (scene v.came t) (scene v.left w) v.end → Visits rule scene s (vs ++ v ∷ []) w
visits_more rule scene s t w [] v p q = (w, subst (λ x. Serves rule (scene v.came x) (scene v.left w) v.end) p q, refl)
visits_more rule scene s t w (x ∷ vs) v p q = (p.0, p.1, visits_more rule scene p.0 t w vs v p.2 q)

pub handed_none : {S C : Type 0} (rule : S → Request → Answer → S → Type 0) (scene : C → S → Scene S) (s : S) (coming back : Option (List C))
    → Handed rule scene s s coming coming back back 0
handed_none rule scene s coming back = record {
  visits = [];
  gone = loses_none coming;
  handed = grows_none back;
  count = refl;
  served = refl;
}

pub handed_more : {S C : Type 0} (rule : S → Request → Answer → S → Type 0) (scene : C → S → Scene S) (s t w : S)
    (coming coming' coming'' back back' back'' : Option (List C)) (n : ℕ) (v : Visit C)
    → Handed rule scene s t coming coming' back back' n → Loses coming' coming'' (v.came ∷ []) → Grows back' back'' (v.left ∷ [])
    → Serves rule (scene v.came t) (scene v.left w) v.end → Handed rule scene s w coming coming'' back back'' (n + 1)
handed_more rule scene s t w coming coming' coming'' back back' back'' n v p gone handed served = record {
  visits = p.visits ++ v ∷ [];
  gone = subst (Loses coming coming'') (sym (map-append came p.visits (v ∷ []))) (loses_then coming coming' coming'' _ _ p.gone gone);
  handed = subst (Grows back back'') (sym (map-append left p.visits (v ∷ []))) (grows_then back back' back'' _ _ p.handed handed);
  count = omega (arith, p.count, length-append p.visits (v ∷ []));
  served = visits_more rule scene s t w p.visits v p.served served;
}

-- ---- how it ends

same_handed : {S C : Type 0} (rule : S → Request → Answer → S → Type 0) (scene : C → S → Scene S) (s t : S)
    (coming coming' other back back' more : Option (List C)) (n : ℕ) → Handed rule scene s t coming coming' back back' n
    → other ≡ coming' → more ≡ back' → Handed rule scene s t coming other back more n
same_handed rule scene s t coming coming' other back back' more n h c b =
    subst (λ x. Handed rule scene s t coming x back more n) (sym c) (subst (λ x. Handed rule scene s t coming coming' back x n) (sym b) h)

pub door_ended : {S C : Type 0} (rule : S → Request → Answer → S → Type 0) (scene : C → S → Scene S) (s t : S)
    (coming coming' other back back' more : Option (List C)) (n limit : ℕ) (ended : Bool) (before now : ℕ)
    → Handed rule scene s t coming coming' back back' n → other ≡ coming' → more ≡ back' → n ≤ limit → ended ≡ true
    → ServesDoor rule scene s t coming other back more limit ended before now (Done n)
door_ended rule scene s t coming coming' other back back' more n limit ended before now h c b few over =
    (same_handed rule scene s t coming coming' other back back' more n h c b, few, λ _. over)

pub door_full : {S C : Type 0} (rule : S → Request → Answer → S → Type 0) (scene : C → S → Scene S) (s t : S)
    (coming coming' back back' : Option (List C)) (n limit : ℕ) (ended : Bool) (before now : ℕ)
    → Handed rule scene s t coming coming' back back' n → n ≡ limit
    → ServesDoor rule scene s t coming coming' back back' limit ended before now (Done limit)
door_full rule scene s t coming coming' back back' n limit ended before now h all =
    (subst (Handed rule scene s t coming coming' back back') all h, omega arith, λ other. absurd (other refl))

pub door_shut : {S C : Type 0} (rule : S → Request → Answer → S → Type 0) (scene : C → S → Scene S) (s t : S)
    (coming coming' other back back' more : Option (List C)) (n limit : ℕ) (ended : Bool) (before now : ℕ)
    → Handed rule scene s t coming coming' back back' n → other ≡ coming' → more ≡ back' → n ≤ limit → Rose before now
    → ServesDoor rule scene s t coming other back more limit ended before now (DoorFault n)
door_shut rule scene s t coming coming' other back back' more n limit ended before now h c b few rose =
    (t, coming', same_handed rule scene s t coming coming' coming' back back' more n h refl b, few, rose, inl (refl, c))

pub door_lost : {S C : Type 0} (rule : S → Request → Answer → S → Type 0) (scene : C → S → Scene S) (s t w : S)
    (coming coming' other back back' more : Option (List C)) (n limit : ℕ) (ended : Bool) (before now : ℕ) (v : Visit C)
    → Handed rule scene s t coming coming' back back' n → Loses coming' other (v.came ∷ []) → more ≡ back' → n ≤ limit → Rose before now
    → Serves rule (scene v.came t) (scene v.left w) v.end
    → ServesDoor rule scene s w coming other back more limit ended before now (DoorFault n)
door_lost rule scene s t w coming coming' other back back' more n limit ended before now v h gone b few rose served = (
  t,
  coming',
  same_handed rule scene s t coming coming' coming' back back' more n h refl b,
  few,
  rose,
  inr (record { visit = v; gone = gone; served = served }),
)
