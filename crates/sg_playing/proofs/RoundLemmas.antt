-- Which turns sync.
use Rattle.std.proofs.Common.{◌≡◌, ◌⊎◌, inl, inr, ℕ, zero, suc, ◌+◌, ◌*◌, ◌≤◌, ◌<◌, ◌==◌, ◌↔◌, Bool, true, ◌∙◌, arith}
use Rattle.std.proofs.lemmas.Bool.{both_ways, cases_eq, eq-eqb, ne_eqb}
use Rattle.sg_playing.specs.Rounds.{HasTurned, IsSyncTurn, RoundsView}

-- between two turns that sync none does
pub not_sync : (every since rounds other : ℕ) → 1 ≤ since → since < every → rounds * every + since ≡ other * every → ⊥
not_sync every since rounds zero some few is = absurd (omega (arith, some, is))
not_sync every since zero (suc other) some few is = absurd (omega (arith, few, is))
not_sync every since (suc rounds) (suc other) some few is = not_sync every since rounds other some few (omega (arith, is))

pub syncs_iff : (view : RoundsView) (n : ℕ) (syncs : Bool) → (view.every ≡ 0 → ⊥) → view.since ≤ view.every → syncs ≡ (view.since == view.every)
    → HasTurned view n → (syncs ≡ true) ↔ IsSyncTurn view.every (n + 1)
syncs_iff view n syncs some few is (inl none) = absurd (some none)
syncs_iff view n syncs some few is (inr (inl (due, none))) =
    (λ _. (some, (0, first n view.every none)), λ _. is ∙ eq-eqb view.since view.every due)
  where
    first : (n every : ℕ) → n ≡ 0 → n + 1 ≡ 0 * every + 1
    first n every none = omega (arith, none)
syncs_iff view n syncs some few is (inr (inr (rounds, total, one))) = by_cases (cases_eq view.since view.every)
  where
    next : (n rounds every since : ℕ) → n ≡ rounds * every + since → since ≡ every → n + 1 ≡ (rounds + 1) * every + 1
    next n rounds every since total due = omega (arith, total, due)

    below : (a b : ℕ) → a ≤ b → (a ≡ b → ⊥) → a < b
    below a b le differ = omega (arith, le, differ)

    same : (n a b : ℕ) → n ≡ a → n + 1 ≡ b + 1 → a ≡ b
    same n a b is more = omega (arith, is, more)

    by_cases : (view.since ≡ view.every) ⊎ (view.since ≡ view.every → ⊥) → (syncs ≡ true) ↔ IsSyncTurn view.every (n + 1)
    by_cases (inl due) = (λ _. (some, (rounds + 1, next n rounds view.every view.since total due)), λ _. is ∙ eq-eqb view.since view.every due)
    by_cases (inr early) = (
      λ yes. absurd (both_ways syncs (is ∙ ne_eqb view.since view.every early) yes),
      λ sync. absurd (not_sync view.every view.since rounds sync.1.0 one (below view.since view.every few early)
          (same n (rounds * view.every + view.since) (sync.1.0 * view.every) total sync.1.1)),
    )
