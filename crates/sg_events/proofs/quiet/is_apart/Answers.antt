use Rattle.std.proofs.Common.{◌≡◌, ◌∙◌, ap, subst, arith, w64, to_z, of_z, ℤ, pos, ◌+ℤ◌, ◌*ℤ◌, ◌≤ℤ◌}
use Rattle.jiff_core.proofs.SignedLemmas.{signed_casts}
use Rattle.sg_base.specs.declared.limits.TheConstants.{DAY}
use Rattle.sg_events.proofs.QuietLemmas.{apart_later, apart_over}
use Rattle.sg_events.proofs.quiet.is_apart.Goals as goal

pub returns-then-is_later : goal.returns-then-is_later
returns-then-is_later c = λ yes date.
    let a = c.args in
    let same : to_z w64 (of_z w64 c.day_of.result) ≡ c.day_of.result = omega (arith, signed_casts, c.day_of.ensures.low, c.day_of.ensures.high) in
    let at = c.begin_on-begin.ensures.value ∙ ap (λ (d : ℤ). (d *ℤ pos DAY) +ℤ pos a.start) same in
    let both = c.is_later.ensures.0 yes in
    apart_later c.day_of.result a.t a.until a.start a.seconds date c.requires.start c.day_of.ensures.from c.day_of.ensures.till c.requires.later (subst (λ (b : ℤ). a.until ≤ℤ b) at both.0) (subst (λ (b : ℤ). (b +ℤ pos a.seconds) ≤ℤ (a.t +ℤ pos DAY)) at both.1)

pub returns-else-is_later : goal.returns-else-is_later
returns-else-is_later c = λ yes date.
    let a = c.args in
    let same : to_z w64 (of_z w64 c.day_of.result) ≡ c.day_of.result = omega (arith, signed_casts, c.day_of.ensures.low, c.day_of.ensures.high) in
    let at = c.begin_on-begin.ensures.value ∙ ap (λ (d : ℤ). (d *ℤ pos DAY) +ℤ pos a.start) same in
    let both = c.is_over.ensures.0 yes in
    apart_over c.day_of.result a.t a.until a.start a.seconds date c.requires.start c.day_of.ensures.from c.day_of.ensures.till c.requires.later (subst (λ (b : ℤ). (b +ℤ pos a.seconds) ≤ℤ a.t) at both.0) (subst (λ (b : ℤ). a.until ≤ℤ (b +ℤ pos DAY)) at both.1)
