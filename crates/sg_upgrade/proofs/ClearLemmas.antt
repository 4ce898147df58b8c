-- The clearing of an area, write by write.
use Rattle.std.proofs.Common.{◌≡◌, ◌⊎◌, inl, inr, ℕ, ◌+◌, ◌-◌, ◌<◌, ◌≤◌, List, length, get_or, replicate, refl, sym, ◌∙◌, ap, subst, arith}
use Rattle.std.proofs.lemmas.Bool.{cases_lt}
use Rattle.std.proofs.lemmas.List.{length-replicate, get_or-replicate}
use Rattle.sg_disk.specs.View.{View, put, Torn, Written, Passed}
use Rattle.sg_disk.specs.Runs.{Ran, Within}
use Rattle.sg_disk.specs.declared.places.TheConstants.{DATA}
use Rattle.sg_disk.proofs.Ranges.{put_is_torn, byte_kept}
use Rattle.sg_disk.proofs.Parts.{byte_written}
use Rattle.sg_disk.proofs.Moments.{ran_none, ran_one, ran_joined, ran_fewer}
use Rattle.sg_disk.proofs.Writes.{within_none, within_joined, within_part}
use Rattle.sg_slots.specs.Bytes.{AreZeros}
use Rattle.sg_upgrade.specs.declared.places.TheConstants.{WHOLE}

-- zeros outside a range that is written
pub zeros_outside : (a l place n : ℕ) (c d : List ℕ) → Torn place n c d → (a + l ≤ place) ⊎ (place + n ≤ a) → AreZeros a l c → AreZeros a l d
zeros_outside a l place n c d torn (inl le) zeros p low high = byte_kept place n p c d torn (inl (omega (arith, le, high))) ∙ zeros p low high
zeros_outside a l place n c d torn (inr le) zeros p low high = byte_kept place n p c d torn (inr (omega (arith, le, low))) ∙ zeros p low high

pub zeros_long : (l : ℕ) (zeros : List ℕ) → zeros ≡ replicate l 0 → length zeros ≡ l
zeros_long l zeros is = ap length is ∙ length-replicate l 0

-- how far the area behind the data has been cleared: its first n bytes are zeros
pub record Cleared (a n : ℕ) (old new : View) : Type 0 where
  pub size : new.size ≡ old.size
  pub ran : Ran 0 old new
  pub within : Within a (WHOLE - DATA) old new
  pub zeros : old.told → AreZeros a n new.bytes

pub cleared_none : (a : ℕ) (v : View) → Cleared a 0 v v
cleared_none a v = record {
  size = refl;
  ran = ran_none v;
  within = within_none a (WHOLE - DATA) v;
  zeros = λ told p low high. absurd (omega (arith, low, high));
}

-- one piece more
pub cleared_more : (a n l : ℕ) (zeros : List ℕ) (old mid new : View) → zeros ≡ replicate l 0 → n + l ≤ WHOLE - DATA → a + (WHOLE - DATA) ≤ old.size → new.size ≡ mid.size → Passed (Written (a + n) zeros) (Torn (a + n) (length zeros)) mid new → Cleared a n old mid → Cleared a (n + l) old new
cleared_more a n l zeros old mid new is fits large size call so_far =
    let long : length zeros ≡ l = zeros_long l zeros is in
    let ran : Ran 1 old new = ran_joined 0 1 old mid new so_far.ran (ran_one (Written (a + n) zeros) (Torn (a + n) (length zeros)) mid new call) in
    record {
      size = size ∙ so_far.size;
      ran = ran_fewer 1 0 old new (omega arith) ran;
      within = within_joined a (WHOLE - DATA) old mid new so_far.ran.told so_far.within (within_part a (WHOLE - DATA) (a + n) zeros mid new (omega arith) (omega (arith, long, fits)) (omega (arith, so_far.size, large, long, fits)) call);
      zeros = λ told p low high.
          let here = so_far.ran.told told in
          let whole : a + n + length zeros ≤ length mid.bytes = omega (arith, mid.sized here, so_far.size, large, long, fits) in
          subst (λ (c : List ℕ). get_or c p 0 ≡ 0) (sym (call.bytes here)) (elim (cases_lt p (a + n)) [
            | inl before ↦ byte_kept (a + n) (length zeros) p mid.bytes (put mid.bytes (a + n) zeros) (put_is_torn mid.bytes (a + n) zeros whole) (inl before) ∙ so_far.zeros told p low (omega (arith, before))
            | inr past ↦
                let at : p ≡ a + n + (p - (a + n)) = omega (arith, past) in
                let lt : p - (a + n) < length zeros = omega (arith, past, high, long) in
                ap (λ (k : ℕ). get_or (put mid.bytes (a + n) zeros) k 0) at ∙ byte_written mid.bytes (a + n) (p - (a + n)) zeros whole lt ∙ ap (λ (l : List ℕ). get_or l (p - (a + n)) 0) is ∙ get_or-replicate l (p - (a + n)) 0 0 (omega (arith, lt, long))
          ]);
    }
