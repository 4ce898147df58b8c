-- Runs of writes inside one range.
use Rattle.std.proofs.Common.{◌≡◌, ◌⊎◌, ℕ, ◌+◌, ◌≤◌, List, length, sym, ◌∙◌, subst, ap, arith}
use Rattle.sg_disk.specs.View.{View, range, Torn, Same, Written, Passed, Failed, Only}
use Rattle.sg_disk.specs.Runs.{After, Quiet, Within, HasOne}
use Rattle.sg_disk.proofs.Ranges.{torn_none, torn_wider, torn_joined, put_is_torn, range_kept}
use Rattle.sg_disk.proofs.Moments.{started, one_call, joined, weaker, at_end}

pub within_none : (place n : ℕ) (v : View) → Within place n v v
within_none place n v = record {
  moments = started v (After (Torn place n) v) (λ c now. (c, now, torn_none place n c));
  bytes = λ _. torn_none place n v.bytes;
}

pub within_wider : (place n p l : ℕ) (v w : View) → p ≤ place → place + n ≤ p + l → Within place n v w → Within p l v w
within_wider place n p l v w low high run = record {
  moments = weaker v w (After (Torn place n) v) (After (Torn p l) v) (λ c was. (was.0, was.1, torn_wider place n p l was.0 c low high was.2)) run.moments;
  bytes = λ told. torn_wider place n p l v.bytes w.bytes low high (run.bytes told);
}

pub within_joined : (place n : ℕ) (u v w : View) → (u.told → v.told) → Within place n u v → Within place n v w → Within place n u w
within_joined place n u v w tells first second = record {
  moments = joined u v w (After (Torn place n) u) first.moments (weaker v w (After (Torn place n) v) (After (Torn place n) u) (λ c was.
      let first_was = at_end u v (After (Torn place n) u) first.moments was.0 was.1 in
      (first_was.0, first_was.1, torn_joined place n first_was.0 was.0 c first_was.2 was.2)) second.moments);
  bytes = λ told. torn_joined place n u.bytes v.bytes w.bytes (first.bytes told) (second.bytes (tells told));
}

-- what a read gives elsewhere stays so
pub bytes_kept : (place n a l : ℕ) (v w : View) → v.told → (a + l ≤ place) ⊎ (place + n ≤ a) → Within place n v w → range w.bytes a l ≡ range v.bytes a l
bytes_kept place n a l v w told apart run = range_kept place n a l v.bytes w.bytes (run.bytes told) apart

-- what every image has elsewhere stays so
pub one_kept : (place n a l : ℕ) (v w : View) → v.told → (a + l ≤ place) ⊎ (place + n ≤ a) → HasOne a l v → Within place n v w → HasOne a l w
one_kept place n a l v w told apart one run c now =
    let was = at_end v w (After (Torn place n) v) run.moments c now in
    range_kept place n a l was.0 c was.2 apart ∙ one was.0 was.1 ∙ sym (bytes_kept place n a l v w told apart run)

-- a disk with one image has one range everywhere
pub one_stable : (a l : ℕ) (v : View) → Only v.bytes v → HasOne a l v
one_stable a l v only c now = ap (λ (d : List ℕ). range d a l) (only c now)

pub one_quiet : (n a l : ℕ) (v w : View) → v.told → Quiet n v w → HasOne a l v → HasOne a l w
one_quiet n a l v w told quiet one c now = one c (at_end v w v.images quiet.moments c now) ∙ sym (ap (λ (d : List ℕ). range d a l) (quiet.bytes told))

-- one call
pub within_write : (place : ℕ) (bs : List ℕ) (v w : View) → place + length bs ≤ v.size → Passed (Written place bs) (Torn place (length bs)) v w → Within place (length bs) v w
within_write place bs v w fits call = record {
  moments = one_call v w (After (Torn place (length bs)) v) (λ c now. (c, now, torn_none place (length bs) c)) call.time call.images;
  bytes = λ told. subst (λ (c : List ℕ). Torn place (length bs) v.bytes c) (sym (call.bytes told)) (put_is_torn v.bytes place bs (omega (arith, v.sized told)));
}

pub within_write_failed : (place n : ℕ) (v w : View) → Failed (Torn place n) v w → Within place n v w
within_write_failed place n v w call = record {
  moments = one_call v w (After (Torn place n) v) (λ c now. (c, now, torn_none place n c)) call.time call.images;
  bytes = call.bytes;
}

-- a call that wrote nothing
unwritten : (place n : ℕ) (old new : List ℕ) → Same old new → Torn place n old new
unwritten place n old new same = subst (λ (c : List ℕ). Torn place n old c) (sym same) (torn_none place n old)

pub within_same : (place n : ℕ) (v w : View) → Passed Same Same v w → Within place n v w
within_same place n v w call = record {
  moments = one_call v w (After (Torn place n) v) (λ c now. (c, now, torn_none place n c)) call.time (λ c now. let was = call.images c now in (was.0, was.1, unwritten place n was.0 c was.2));
  bytes = λ told. unwritten place n v.bytes w.bytes (call.bytes told);
}

pub within_same_failed : (place n : ℕ) (v w : View) → Failed Same v w → Within place n v w
within_same_failed place n v w call = record {
  moments = one_call v w (After (Torn place n) v) (λ c now. (c, now, torn_none place n c)) call.time (λ c now. let was = call.images c now in (was.0, was.1, unwritten place n was.0 c was.2));
  bytes = λ told. unwritten place n v.bytes w.bytes (call.bytes told);
}

-- calls that changed nothing
pub within_quiet : (place n k : ℕ) (v w : View) → Quiet k v w → Within place n v w
within_quiet place n k v w quiet = record {
  moments = weaker v w v.images (After (Torn place n) v) (λ c was. (c, was, torn_none place n c)) quiet.moments;
  bytes = λ told. unwritten place n v.bytes w.bytes (quiet.bytes told);
}

-- a write inside an area
pub within_part : (a l place : ℕ) (bs : List ℕ) (v w : View) → a ≤ place → place + length bs ≤ a + l → place + length bs ≤ v.size → Passed (Written place bs) (Torn place (length bs)) v w → Within a l v w
within_part a l place bs v w low high fits call = within_wider place (length bs) a l v w low high (within_write place bs v w fits call)

pub within_part_failed : (a l place n : ℕ) (v w : View) → a ≤ place → place + n ≤ a + l → Failed (Torn place n) v w → Within a l v w
within_part_failed a l place n v w low high call = within_wider place n a l v w low high (within_write_failed place n v w call)
