-- The events of a kind.
use Rattle.std.proofs.Common.{◌≡◌, ◌≢◌, ℕ, ◌+◌, ◌&&◌, Bool, true, eqb, nat_lt, cond, List, [], ◌∷◌, length, filter, refl, sym, subst, inl, inr, arith}
use Rattle.std.specs.List.{AllByRecursion}
use Rattle.std.proofs.lemmas.Bool.{cases_Bool, cases_lt, lt-ltb, ne_eqb}
use Rattle.sg_base.specs.Event.{EventValue}
use Rattle.sg_layer.specs.declared.kind.Kind.{Kind}
use Rattle.sg_layer.specs.declared.kind.Kind.TheVariants.{Normal, Interrupt, Overlay}
use Rattle.sg_layer.specs.Kinds.{is_of, events_of}
use Rattle.sg_layer.proofs.ListLemmas.{all_passing}
use Rattle.sg_layer.proofs.OrderLemmas.{all_by_order, length_by_order}

-- what holds of an event of a kind
pub record IsChosen (P : EventValue → Type 0) (kind : Kind) (e : EventValue) : Type 0 where
  pub known : P e
  pub chosen : is_of kind e ≡ true

passing : (P : EventValue → Type 0) (kind : Kind) (es : List EventValue) → AllByRecursion P es → AllByRecursion (IsChosen P kind) (filter (is_of kind) es)
passing P kind es all = all_passing P (IsChosen P kind) (is_of kind) es (λ e q h. record { known = h; chosen = q }) all

-- what holds of all events holds of those of a kind
pub all_events : (P : EventValue → Type 0) (kind : Kind) (es : List EventValue) → AllByRecursion P es → AllByRecursion (IsChosen P kind) (events_of kind es)
all_events P Normal es all = all_by_order (IsChosen P Normal) (filter (is_of Normal) es) (passing P Normal es all)
all_events P Interrupt es all = passing P Interrupt es all
all_events P Overlay es all = all_by_order (IsChosen P Overlay) (filter (is_of Overlay) es) (passing P Overlay es all)

-- an event of layer 0 is a normal one or an interrupt
parted : (e : EventValue) (a b c : ℕ) → a + b ≡ c → cond (eqb e.layer 0 && nat_lt 0 e.share) (a + 1) a + cond (eqb e.layer 0 && eqb e.share 0) (b + 1) b ≡ cond (eqb e.layer 0) (c + 1) c
parted e a b c h =
    elim (cases_Bool (eqb e.layer 0)) [
      | inr other ↦ rw other (omega (arith, h))
      | inl same ↦
          elim (cases_lt 0 e.share) [
            | inl some ↦ let apart : e.share ≢ 0 = omega (arith, some) in rw (same, lt-ltb 0 e.share some, ne_eqb e.share 0 apart) (omega (arith, h))
            | inr none ↦ let zero : e.share ≡ 0 = omega (arith, none) in rw (same, zero) (omega (arith, h))
          ]
    ]

length_more : (p : EventValue → Bool) (e : EventValue) (es : List EventValue) → length (filter p (e ∷ es)) ≡ cond (p e) (length (filter p es) + 1) (length (filter p es))
length_more p e es =
    let C : Bool → Type 0 = λ b. length (cond b (e ∷ filter p es) (filter p es)) ≡ cond b (length (filter p es) + 1) (length (filter p es)) in
    elim (cases_Bool (p e)) [ inl stays ↦ subst C (sym stays) (omega arith) | inr gone ↦ subst C (sym gone) refl ]

both_kinds : (es : List EventValue) → length (filter (is_of Interrupt) es) + length (filter (is_of Normal) es) ≡ length (filter (λ e. eqb e.layer 0) es)
both_kinds [] = refl
both_kinds (e ∷ es) =
    rw (length_more (is_of Interrupt) e es, length_more (is_of Normal) e es, length_more (λ f. eqb f.layer 0) e es)
    (parted e (length (filter (is_of Interrupt) es)) (length (filter (is_of Normal) es)) (length (filter (λ f. eqb f.layer 0) es)) (both_kinds es))

-- the interrupts and the normal events are those of layer 0
pub length_kinds : (es : List EventValue) → length (events_of Interrupt es) + length (events_of Normal es) ≡ length (filter (λ e. eqb e.layer 0) es)
length_kinds es = omega (arith, length_by_order (filter (is_of Normal) es), both_kinds es)
