-- What a disk in memory reads as is one of its images, and its clock is right.
use Rattle.std.specs.Prelude.{◌≡◌, ℕ, ◌+◌, ◌-◌, ◌≤◌, min, List, [], ◌∷◌, ◌++◌, length, take, drop, replicate, refl, Option}
use Rattle.std.specs.Coded.{×_prop, Unit-prop, le_prop}
use Rattle.std.proofs.Common.{inl, inr, sym, ◌∙◌, ap, length-append, length-take, append_assoc}
use Rattle.std.proofs.Math.Nat.{le_trans, le-add_right, not-suc-le_self, add_assoc, add_comm, sub-add-min_cancel}
use Rattle.std.proofs.lemmas.List.{take_at, drop_at, length-take-le, length-replicate, take-append-drop, take_min}
use Rattle.sg_disk.specs.View.{View, put, Torn, Sized}
use Rattle.sg_disk.specs.History.{resized, read_of, Fits, ImageOf, ImageSince}
use Rattle.sg_disk.specs.declared.history.Call.{Call}
use Rattle.sg_disk.specs.declared.history.Call.TheVariants.{Write, Resize, Sync}

pub Fits-prop : (first : List ℕ) (h : List Call) → IsProp (Fits first h)
Fits-prop first [] = Unit-prop
Fits-prop first (call ∷ before) = ×_prop le_prop (Fits-prop first before)

-- the front and the end of a list make its length
length_parts : (n : ℕ) (c : List ℕ) → n ≤ length c → n + length (drop n c) ≡ length c
length_parts n c fits = ap (λ (k : ℕ). k + length (drop n c)) (sym (length-take-le n c fits)) ∙ sym (length-append (take n c) (drop n c)) ∙ ap length (take-append-drop n c)

-- a write that was done whole
put_torn : (place : ℕ) (bs c : List ℕ) → place + length bs ≤ length c → Torn place (length bs) c (put c place bs)
unfolding put
put_torn place bs c fits =
    let rest : List ℕ = drop (place + length bs) c in
    let front : length (take place c) ≡ place = length-take-le place c (le_trans (le-add_right place (length bs)) fits) in
    let both : length (take place c ++ bs) ≡ place + length bs = length-append (take place c) bs ∙ ap (λ (k : ℕ). k + length bs) front in
    record {
      same_length = length-append (take place c) (bs ++ rest) ∙ ap (λ (k : ℕ). k + length (bs ++ rest)) front ∙ ap (λ (k : ℕ). place + k) (length-append bs rest) ∙ sym (add_assoc place (length bs) (length rest)) ∙ length_parts (place + length bs) c fits;
      before = take_at (take place c) (bs ++ rest) place front;
      after = ap (λ (d : List ℕ). drop (place + length bs) d) (sym (append_assoc (take place c) bs rest)) ∙ drop_at (take place c ++ bs) rest (place + length bs) both;
    }

-- a change of the length that was done whole
pub resized_sized : (n byte : ℕ) (c : List ℕ) → Sized n c (resized c n byte)
resized_sized n byte c =
    let more : List ℕ = replicate (n - length c) byte in
    record {
      is_long = length-append (take n c) more ∙ ap (λ (k : ℕ). k + length more) (length-take n c) ∙ ap (λ (k : ℕ). min n (length c) + k) (length-replicate (n - length c) byte) ∙ add_comm (min n (length c)) (n - length c) ∙ sub-add-min_cancel n (length c);
      front = take_at (take n c) more (min n (length c)) (length-take n c) ∙ sym (take_min n c);
    }

-- a disk as it reads is one of its images
pub read_image : (first : List ℕ) (h : List Call) → Fits first h → ImageOf first h (read_of first h)
read_image first [] fits = refl
read_image first (Write place written ∷ before) fits = (read_of first before, read_image first before fits.1, put_torn place written.items (read_of first before) fits.0)
read_image first (Resize n ∷ before) fits = (read_of first before, read_image first before fits.1, inr (resized_sized n 0 (read_of first before)))
read_image first (Sync ∷ before) fits = refl

-- this moment is one of those since an earlier one
pub since_now : (first : List ℕ) (h : List Call) (t : ℕ) (c : List ℕ) → ImageOf first h c → ImageSince first h t c
since_now first [] t c now = now
since_now first (call ∷ before) t c now = inl now

-- since this moment there is no other
pub now_since : (first : List ℕ) (h : List Call) (c : List ℕ) → ImageSince first h (length h) c → ImageOf first h c
now_since first [] c left = left
now_since first (call ∷ before) c (inl now) = now
now_since first (call ∷ before) c (inr earlier) = absurd (not-suc-le_self (length before) earlier.0)

-- the disk that had these first bytes, and then these calls
abbrev pub history_view : (first : List ℕ) (h : List Call) → Fits first h → ℕ → Option ℕ → View
history_view first h fits faults stop = record {
  size = length (read_of first h);
  told = Unit {0};
  bytes = read_of first h;
  images = ImageOf first h;
  moment = length h;
  since = ImageSince first h;
  faults = faults;
  stop = stop;
  sized = λ _. refl;
  reads = λ _. read_image first h fits;
  counts_now = λ t c le now. since_now first h t c now;
  only_now = λ c left. now_since first h c left;
}
