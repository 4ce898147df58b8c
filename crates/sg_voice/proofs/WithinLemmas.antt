-- What the code keeps of a long list of plays.
use Rattle.std.proofs.Common.{◌≡◌, ℕ, ◌-◌, ◌<◌, List, [], ◌∷◌, ◌++◌, refl, ap, sym, ◌∙◌, arith}
use Rattle.std.proofs.lemmas.Bool.{cond-true, cond-false, eq-eqb, ne_eqb}
use Rattle.std.proofs.lemmas.List.{append-nil}
use Rattle.sg_voice.specs.declared.play.Play.{Play}
use Rattle.sg_voice.specs.Hour.{total}
use Rattle.sg_voice.specs.Within.{within}

-- with no room nothing is kept
pub within_none : (room : ℕ) (ps : List Play) → room ≡ 0 → within room ps ≡ []
within_none room [] none = refl
within_none room (p ∷ ps) none = cond-true _ _ _ (eq-eqb room 0 none)

-- with room the first play is
pub within_some : (room : ℕ) (p : Play) (ps : List Play) → 0 < room → within room (p ∷ ps) ≡ p ∷ within (room - p.seconds) ps
within_some room p ps some = cond-false _ _ _ (ne_eqb room 0 (λ e. omega (arith, e)))

-- what leaves room is kept whole
pub within_all : (room : ℕ) (ps : List Play) → total ps < room → within room ps ≡ ps
within_all room [] few = refl
within_all room (p ∷ ps) few = within_some room p ps (omega arith) ∙ ap (λ (q : List Play). p ∷ q) (within_all (room - p.seconds) ps (omega arith))

-- where no room is left, what is done is all
pub finished : (room : ℕ) (done rest target : List Play) → room ≡ 0 → done ++ within room rest ≡ target → done ≡ target
finished room done rest target none e = sym (append-nil done) ∙ (ap (λ (q : List Play). done ++ q) (sym (within_none room rest none)) ∙ e)
