-- Each pick names an image.
use Rattle.std.proofs.Common.{◌≡◌, inl, inr, ℕ, List, [], ◌∷◌, length, replicate, Vec, refl, ap, subst, arith}
use Rattle.std.proofs.lemmas.List.{length-replicate}
use Rattle.std.specs.declared.alloc.Global.{Global}
use Rattle.sg_disk.specs.View.{put, Torn, Resized}
use Rattle.sg_disk.specs.History.{after, read_of, Fits, ImageOf, torn_by, picked}
use Rattle.sg_disk.specs.HistoryLaws.{resized_sized}
use Rattle.sg_disk.specs.declared.history.Call.{Call}
use Rattle.sg_disk.specs.declared.history.Call.TheVariants.{Write, Resize, Sync}
use Rattle.sg_disk.specs.declared.history.Pick.{Pick}
use Rattle.sg_disk.specs.declared.history.Pick.TheVariants.{Nothing, All, Byte}
use Rattle.sg_disk.proofs.Ranges.{torn_none, put_is_torn}
use Rattle.sg_disk.proofs.Replays.{length_torn}

picked_all : (first : List ℕ) (h : List Call) → picked All first h ≡ read_of first h
picked_all first [] = refl
picked_all first (Write place written ∷ before) = ap (λ (c : List ℕ). after (Write place written) c) (picked_all first before)
picked_all first (Resize n ∷ before) = ap (λ (c : List ℕ). after (Resize n) c) (picked_all first before)
picked_all first (Sync ∷ before) = refl

length_picked : (b : ℕ) (first : List ℕ) (h : List Call) → Fits first h → length (picked (Byte b) first h) ≡ length (read_of first h)
length_picked b first [] fits = refl
length_picked b first (Write place written ∷ before) fits = length_torn b (Write place written) (picked (Byte b) first before) (read_of first before) (length_picked b first before fits.1) fits.0
length_picked b first (Resize n ∷ before) fits = length_torn b (Resize n) (picked (Byte b) first before) (read_of first before) (length_picked b first before fits.1) fits.0
length_picked b first (Sync ∷ before) fits = refl

picked_write : (pick : Pick) (first : List ℕ) (place : ℕ) (written : Vec ℕ Global) (before : List Call) → Fits first (Write place written ∷ before) → Torn place (length written.items) (picked pick first before) (torn_by pick (Write place written) (picked pick first before))
picked_write Nothing first place written before fits = torn_none place (length written.items) (picked Nothing first before)
picked_write All first place written before fits =
    let same = picked_all first before in
    put_is_torn (picked All first before) place written.items (omega (arith, fits.0, ap length same))
picked_write (Byte b) first place written before fits =
    let n = length written.items in
    let c = picked (Byte b) first before in
    let is_long : length (replicate n b) ≡ n = length-replicate n b in
    subst (λ (m : ℕ). Torn place m c (put c place (replicate n b))) is_long (put_is_torn c place (replicate n b) (omega (arith, fits.0, is_long, length_picked b first before fits.1)))

picked_resize : (pick : Pick) (n : ℕ) (c : List ℕ) → Resized n c (torn_by pick (Resize n) c)
picked_resize Nothing n c = inl refl
picked_resize All n c = inr (resized_sized n 0 c)
picked_resize (Byte b) n c = inr (resized_sized n b c)

pub picked_image : (pick : Pick) (first : List ℕ) (h : List Call) → Fits first h → ImageOf first h (picked pick first h)
picked_image pick first [] fits = refl
picked_image pick first (Write place written ∷ before) fits = (picked pick first before, picked_image pick first before fits.1, picked_write pick first place written before fits)
picked_image pick first (Resize n ∷ before) fits = (picked pick first before, picked_image pick first before fits.1, picked_resize pick n (picked pick first before))
picked_image pick first (Sync ∷ before) fits = refl
