-- What calls keep of a range, wherever else they write.
use Rattle.std.proofs.Common.{◌≡◌, ◌⊎◌, ℕ, ◌+◌, ◌≤◌, List, refl, sym, ◌∙◌, ap, arith}
use Rattle.sg_disk.specs.View.{View, range, Torn}
use Rattle.sg_disk.specs.Runs.{After, LeavesOnly, Quiet, Within, Keeps, HasOne}
use Rattle.sg_disk.proofs.Ranges.{range_kept, range-range}
use Rattle.sg_disk.proofs.Moments.{started, joined, weaker, at_end}

-- an image has at a place what some image of another view has there
abbrev pub HasOf : ℕ → ℕ → View → List ℕ → Type 0
HasOf place n v c = (d : List ℕ) × v.images d × (range c place n ≡ range d place n)

pub keeps_none : (place n : ℕ) (v : View) → Keeps place n v v
keeps_none place n v = record { moments = started v (HasOf place n v) (λ c now. (c, now, refl)); bytes = λ _. refl }

pub keeps_joined : (place n : ℕ) (u v w : View) → (u.told → v.told) → Keeps place n u v → Keeps place n v w → Keeps place n u w
keeps_joined place n u v w tells first second = record {
  moments = joined u v w (HasOf place n u) first.moments (weaker v w (HasOf place n v) (HasOf place n u) (λ c was.
      let before = at_end u v (HasOf place n u) first.moments was.0 was.1 in
      (before.0, before.1, was.2 ∙ before.2)) second.moments);
  bytes = λ told. second.bytes (tells told) ∙ first.bytes told;
}

-- a write elsewhere
pub keeps_within : (place n a l : ℕ) (v w : View) → (a + l ≤ place) ⊎ (place + n ≤ a) → Within place n v w → Keeps a l v w
keeps_within place n a l v w apart within = record {
  moments = weaker v w (After (Torn place n) v) (HasOf a l v) (λ c was. (was.0, was.1, range_kept place n a l was.0 c was.2 apart)) within.moments;
  bytes = λ told. range_kept place n a l v.bytes w.bytes (within.bytes told) apart;
}

-- calls that changed nothing
pub keeps_unchanged : (place n : ℕ) (v w : View) → LeavesOnly v.images v w → (v.told → w.bytes ≡ v.bytes) → Keeps place n v w
keeps_unchanged place n v w moments bytes = record {
  moments = weaker v w v.images (HasOf place n v) (λ c was. (c, was, refl)) moments;
  bytes = λ told. ap (λ (b : List ℕ). range b place n) (bytes told);
}

pub keeps_quiet : (k place n : ℕ) (v w : View) → Quiet k v w → Keeps place n v w
keeps_quiet k place n v w quiet = keeps_unchanged place n v w quiet.moments quiet.bytes

-- a part of what is kept
pub keeps_part : (a l place n : ℕ) (v w : View) → place + n ≤ l → Keeps a l v w → Keeps (a + place) n v w
keeps_part a l place n v w fits keeps = record {
  moments = weaker v w (HasOf a l v) (HasOf (a + place) n v) (λ c was. (was.0, was.1, part c was.0 was.2)) keeps.moments;
  bytes = λ told. part w.bytes v.bytes (keeps.bytes told);
}
  where
    part : (c d : List ℕ) → range c a l ≡ range d a l → range c (a + place) n ≡ range d (a + place) n
    part c d same = sym (range-range c a l place n fits) ∙ ap (λ (b : List ℕ). range b place n) same ∙ range-range d a l place n fits

-- what every image has there stays so
pub one_keeps : (place n : ℕ) (v w : View) → v.told → HasOne place n v → Keeps place n v w → HasOne place n w
one_keeps place n v w told one keeps c now =
    let was = at_end v w (HasOf place n v) keeps.moments c now in
    was.2 ∙ one was.0 was.1 ∙ sym (keeps.bytes told)
