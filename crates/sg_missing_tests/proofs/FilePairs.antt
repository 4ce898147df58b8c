-- Two files with ascending ids.
use Rattle.std.proofs.Common.{◌≤◌, ◌<◌, List, [], ◌∷◌, arith}
use Rattle.std.specs.List.{All, AllPairs}
use Rattle.std.proofs.lemmas.List.Elements.{All-cons, All-nil}
use Rattle.std.proofs.lemmas.List.Kept.{AllPairs-cons}
use Rattle.sg_base.specs.declared.file.Listed.{Listed}
use Rattle.sg_missing.specs.Missing.{AreFiles}

pub both_have : (P : Listed → Type 0) (f g : Listed) → P f → P g → All P (f ∷ g ∷ [])
both_have P f g first second = All-cons P f (g ∷ []) first (All-cons P g [] second (All-nil P))

pub two_files : (f g : Listed) → 1 ≤ f.length → 1 ≤ g.length → f.media.0 < g.media.0 → AreFiles (f ∷ g ∷ [])
two_files f g first second lt = record {
  some = both_have (λ (f : Listed). 1 ≤ f.length) f g first second;
  ascending = AllPairs-cons (λ (f g : Listed). f.media.0 < g.media.0) f (g ∷ []) (All-cons (λ (h : Listed). f.media.0 < h.media.0) g [] lt (All-nil (λ (h : Listed). f.media.0 < h.media.0)))
      (AllPairs-cons (λ (f g : Listed). f.media.0 < g.media.0) g [] (All-nil (λ (h : Listed). g.media.0 < h.media.0)) (λ i j d lt within. absurd (omega (arith, within))));
}
