-- Writes inside two ranges, and what they keep.
use Rattle.std.proofs.Common.{◌≡◌, ◌⊎◌, ℕ, ◌+◌, ◌≤◌, List, ◌∙◌}
use Rattle.sg_disk.specs.View.{View, range, Torn}
use Rattle.sg_disk.specs.Runs.{After, Within, Keeps}
use Rattle.sg_disk.proofs.Ranges.{torn_none, torn_joined, range_kept}
use Rattle.sg_disk.proofs.Moments.{joined, weaker, at_end}
use Rattle.sg_disk.proofs.Keeping.{HasOf}
use Rattle.sg_paged_slots.specs.Both.{TornBoth, WithinBoth}

-- a write inside the first
pub both_first : (a n b m : ℕ) (v w : View) → Within a n v w → WithinBoth a n b m v w
both_first a n b m v w run = record {
  moments = weaker v w (After (Torn a n) v) (After (TornBoth a n b m) v) (λ c was. (was.0, was.1, (c, was.2, torn_none b m c))) run.moments;
  bytes = λ told. (w.bytes, run.bytes told, torn_none b m w.bytes);
}

-- and one inside the second behind it
pub both_second : (a n b m : ℕ) (u v w : View) → (u.told → v.told) → WithinBoth a n b m u v → Within b m v w → WithinBoth a n b m u w
both_second a n b m u v w tells first second = record {
  moments = joined u v w (After (TornBoth a n b m) u) first.moments (weaker v w (After (Torn b m) v) (After (TornBoth a n b m) u) (λ c was.
      let before = at_end u v (After (TornBoth a n b m) u) first.moments was.0 was.1 in
      let torn = before.2 in
      (before.0, before.1, (torn.0, torn.1, torn_joined b m torn.0 was.0 c torn.2 was.2))) second.moments);
  bytes = λ told. let torn = first.bytes told in (torn.0, torn.1, torn_joined b m torn.0 v.bytes w.bytes torn.2 (second.bytes (tells told)));
}

-- what stands outside both stays
pub both_kept : (a n b m p l : ℕ) (old new : List ℕ) → (p + l ≤ a) ⊎ (a + n ≤ p) → (p + l ≤ b) ⊎ (b + m ≤ p) → TornBoth a n b m old new → range new p l ≡ range old p l
both_kept a n b m p l old new first second torn = range_kept b m p l torn.0 new torn.2 second ∙ range_kept a n p l old torn.0 torn.1 first

pub keeps_both : (a n b m p l : ℕ) (v w : View) → (p + l ≤ a) ⊎ (a + n ≤ p) → (p + l ≤ b) ⊎ (b + m ≤ p) → WithinBoth a n b m v w → Keeps p l v w
keeps_both a n b m p l v w first second run = record {
  moments = weaker v w (After (TornBoth a n b m) v) (HasOf p l v) (λ c was. (was.0, was.1, both_kept a n b m p l was.0 c first second was.2)) run.moments;
  bytes = λ told. both_kept a n b m p l v.bytes w.bytes first second (run.bytes told);
}
