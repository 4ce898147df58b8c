-- What one call does to a disk in memory.
use Rattle.std.proofs.Common.{◌≡◌, ◌⊎◌, inl, inr, ℕ, List, ◌∷◌, length, Option, Vec, refl, sym, subst, arith}
use Rattle.std.specs.declared.alloc.Global.{Global}
use Rattle.sg_base.specs.Causes.{Rose}
use Rattle.sg_base.specs.Stops.{Lowers, Falls, LowersByOne}
use Rattle.sg_disk.specs.View.{View, Torn, Sized, Resized, Same, Written, Follows, Elapses, Passed, Failed}
use Rattle.sg_disk.specs.History.{read_of, Fits, ImageOf, ImageSince}
use Rattle.sg_disk.specs.HistoryLaws.{history_view, read_image, resized_sized}
use Rattle.sg_disk.specs.declared.history.Call.{Call}
use Rattle.sg_disk.specs.declared.history.Call.TheVariants.{Write, Resize, Sync}
use Rattle.sg_disk.proofs.Ranges.{put_is_torn}

-- what a call does to the contents, whatever it answers
pub record Goes (exact torn : List ℕ → List ℕ → Type 0) (old new : View) : Type 0 where
  pub told : old.told → new.told
  pub bytes : old.told → exact old.bytes new.bytes
  pub images : Follows torn old new
  pub time : Elapses old new

pub passes : (exact torn : List ℕ → List ℕ → Type 0) (old new : View) → Goes exact torn old new → new.faults ≡ old.faults → Lowers 1 old.stop new.stop → LowersByOne old.stop new.stop → Passed exact torn old new
passes exact torn old new goes faults stop by_one = record {
  told = goes.told;
  bytes = goes.bytes;
  images = goes.images;
  time = goes.time;
  faults = faults;
  stop = stop;
  by_one = by_one;
}

pub fails : (torn : List ℕ → List ℕ → Type 0) (old new : View) → Goes torn torn old new → Rose old.faults new.faults → Falls old.stop new.stop → LowersByOne old.stop new.stop → Failed torn old new
fails torn old new goes faults stop by_one = record {
  told = goes.told;
  bytes = goes.bytes;
  images = goes.images;
  time = goes.time;
  faults = faults;
  stop = stop;
  by_one = by_one;
}

-- a call that was noted elapses
elapses : (first : List ℕ) (h : List Call) (x : Call) (fits : Fits first h) (fits' : Fits first (x ∷ h)) (f f' : ℕ) (s s' : Option ℕ) → Elapses (history_view first h fits f s) (history_view first (x ∷ h) fits' f' s')
elapses first h x fits fits' f f' s s' = record {
  later = omega arith;
  nothing_else = λ t c le left. earlier t c left;
  keeps = λ t c le was. inr (le, was);
}
  where
    earlier : (t : ℕ) (c : List ℕ) → ImageSince first (x ∷ h) t c → ImageSince first h t c ⊎ ImageOf first (x ∷ h) c
    earlier t c (inl now) = inr now
    earlier t c (inr was) = inl was.1

-- a call that left the list as it was changes nothing
pub stays : (torn : List ℕ → List ℕ → Type 0) (first first' : List ℕ) (h h' : List Call) (fits : Fits first h) (fits' : Fits first' h') (f f' : ℕ) (s s' : Option ℕ) → ((c : List ℕ) → torn c c) → first' ≡ first → h' ≡ h → Goes torn torn (history_view first h fits f s) (history_view first' h' fits' f' s')
stays torn first first' h h' fits fits' f f' s s' none same_first same_h =
    subst (λ (x : List ℕ). (k : Fits x h') → Goes torn torn (history_view first h fits f s) (history_view x h' k f' s')) (sym same_first)
    (subst (λ (y : List Call). (k : Fits first y) → Goes torn torn (history_view first h fits f s) (history_view first y k f' s')) (sym same_h) (λ k. record {
      told = λ t. t;
      bytes = λ _. none (read_of first h);
      images = λ c now. (c, now, none c);
      time = record { later = omega arith; nothing_else = λ t c le left. inl left; keeps = λ t c le was. was };
    })) fits'

-- one that was noted goes its step
noted : (exact torn : List ℕ → List ℕ → Type 0) (x : Call) (first first' : List ℕ) (h h' : List Call) (fits : Fits first h) (fits' : Fits first' h') (f f' : ℕ) (s s' : Option ℕ) → first' ≡ first → h' ≡ x ∷ h → ((k : Fits first (x ∷ h)) → exact (read_of first h) (read_of first (x ∷ h))) → ((c : List ℕ) → ImageOf first (x ∷ h) c → (d : List ℕ) × ImageOf first h d × torn d c) → Goes exact torn (history_view first h fits f s) (history_view first' h' fits' f' s')
noted exact torn x first first' h h' fits fits' f f' s s' same_first same_h reads images =
    subst (λ (a : List ℕ). (k : Fits a h') → Goes exact torn (history_view first h fits f s) (history_view a h' k f' s')) (sym same_first)
    (subst (λ (y : List Call). (k : Fits first y) → Goes exact torn (history_view first h fits f s) (history_view first y k f' s')) (sym same_h) (λ k. record {
      told = λ t. t;
      bytes = λ _. reads k;
      images = images;
      time = elapses first h x fits k f f' s s';
    })) fits'

pub writes : (first first' : List ℕ) (h h' : List Call) (fits : Fits first h) (fits' : Fits first' h') (f f' : ℕ) (s s' : Option ℕ) (place : ℕ) (written : Vec ℕ Global) (bs : List ℕ) → written.items ≡ bs → first' ≡ first → h' ≡ Write place written ∷ h → Goes (Written place bs) (Torn place (length bs)) (history_view first h fits f s) (history_view first' h' fits' f' s')
writes first first' h h' fits fits' f f' s s' place written bs same same_first same_h =
    subst (λ (b : List ℕ). Goes (Written place b) (Torn place (length b)) (history_view first h fits f s) (history_view first' h' fits' f' s')) same
    (noted (Written place written.items) (Torn place (length written.items)) (Write place written) first first' h h' fits fits' f f' s s' same_first same_h (λ k. refl) (λ c now. now))

-- a write that a crash meets was noted whole, and is torn
pub writes_torn : (first first' : List ℕ) (h h' : List Call) (fits : Fits first h) (fits' : Fits first' h') (f f' : ℕ) (s s' : Option ℕ) (place : ℕ) (written : Vec ℕ Global) (bs : List ℕ) → written.items ≡ bs → first' ≡ first → h' ≡ Write place written ∷ h → Goes (Torn place (length bs)) (Torn place (length bs)) (history_view first h fits f s) (history_view first' h' fits' f' s')
writes_torn first first' h h' fits fits' f f' s s' place written bs same same_first same_h =
    subst (λ (b : List ℕ). Goes (Torn place (length b)) (Torn place (length b)) (history_view first h fits f s) (history_view first' h' fits' f' s')) same
    (noted (Torn place (length written.items)) (Torn place (length written.items)) (Write place written) first first' h h' fits fits' f f' s s' same_first same_h (λ k. put_is_torn (read_of first h) place written.items k.0) (λ c now. now))

pub resizes : (first first' : List ℕ) (h h' : List Call) (fits : Fits first h) (fits' : Fits first' h') (f f' : ℕ) (s s' : Option ℕ) (n : ℕ) → first' ≡ first → h' ≡ Resize n ∷ h → Goes (Sized n) (Resized n) (history_view first h fits f s) (history_view first' h' fits' f' s')
resizes first first' h h' fits fits' f f' s s' n same_first same_h =
    noted (Sized n) (Resized n) (Resize n) first first' h h' fits fits' f f' s s' same_first same_h (λ k. resized_sized n 0 (read_of first h)) (λ c now. now)

pub resizes_torn : (first first' : List ℕ) (h h' : List Call) (fits : Fits first h) (fits' : Fits first' h') (f f' : ℕ) (s s' : Option ℕ) (n : ℕ) → first' ≡ first → h' ≡ Resize n ∷ h → Goes (Resized n) (Resized n) (history_view first h fits f s) (history_view first' h' fits' f' s')
resizes_torn first first' h h' fits fits' f f' s s' n same_first same_h =
    noted (Resized n) (Resized n) (Resize n) first first' h h' fits fits' f f' s s' same_first same_h (λ k. inr (resized_sized n 0 (read_of first h))) (λ c now. now)

pub syncs : (first first' : List ℕ) (h h' : List Call) (fits : Fits first h) (fits' : Fits first' h') (f f' : ℕ) (s s' : Option ℕ) → first' ≡ first → h' ≡ Sync ∷ h → Goes Same Same (history_view first h fits f s) (history_view first' h' fits' f' s')
syncs first first' h h' fits fits' f f' s s' same_first same_h =
    noted Same Same Sync first first' h h' fits fits' f f' s s' same_first same_h (λ k. refl) (λ c now. (read_of first h, read_image first h fits, now))

-- after it a crash leaves what a read gives
pub sync_durable : (first first' : List ℕ) (h h' : List Call) (c : List ℕ) → first' ≡ first → h' ≡ Sync ∷ h → ImageOf first' h' c → c ≡ read_of first h
sync_durable first first' h h' c same_first same_h now =
    let moved : ImageOf first h' c = subst (λ (a : List ℕ). ImageOf a h' c) same_first now in
    subst (λ (y : List Call). ImageOf first y c) same_h moved
