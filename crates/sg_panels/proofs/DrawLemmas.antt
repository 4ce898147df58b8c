-- What is seen on a panel, call by call.
use Rattle.std.proofs.Common.{◌≡◌, ℕ, ◌+◌, ◌-◌, ◌%◌, min, ◌<◌, ◌≤◌, List, [], ◌∷◌, ◌++◌, length, take, drop, map, get_or, option_map, refl, sym, ◌∙◌, ap, arith, append_assoc, length-append, None, Some}
use Rattle.std.specs.declared.option.Option.{Option}
use Rattle.std.proofs.lemmas.List.{append-nil, take_more, take_all, map-append}
use Rattle.std.proofs.Math.Seq.{take-add}
use Rattle.sg_base.specs.declared.ids.MediaId.{MediaId}
use Rattle.sg_base.specs.declared.limits.TheConstants.{PIECE_LEN}
use Rattle.sg_devices.specs.declared.panel.Begun.{Begun}
use Rattle.sg_devices.specs.declared.panel.Shown.{Shown}
use Rattle.sg_devices.specs.Panels.{Face, PanelView, HasRoom, IsWhole, closed, extended, opened, with_more}
use Rattle.sg_panels.specs.Draws.{IsBegun, Shows, shown_of, showing, with_shown}
use Rattle.sg_disk.specs.View.{range}
use Rattle.sg_panels.specs.Reads.{Known, StaysKnown}

-- ---- the bytes of one medium

face_none : (face : Option Face) → option_map (λ (f : Face). record f { part = f.part ++ [] }) face ≡ face
face_none None = refl
face_none (Some f) = ap (λ (p : List ℕ). Some (record f { part = p })) (append-nil f.part)

begun_none : (begun : Option Begun) → option_map (with_more 0) begun ≡ begun
begun_none None = refl
begun_none (Some b) = ap (λ (n : ℕ). Some (record b { got = n })) (nothing_more b.got)
  where
    nothing_more : (n : ℕ) → n + 0 ≡ n
    nothing_more n = omega arith

pub extended_none : (v : PanelView) → extended [] v ≡ v
extended_none v =
    ap (λ (face : Option Face). record { face = face; begun = option_map (with_more 0) v.begun; faults = v.faults }) (face_none v.face)
    ∙ ap (λ (begun : Option Begun). record { face = v.face; begun = begun; faults = v.faults }) (begun_none v.begun)

face_more : (a b : List ℕ) (face : Option Face)
    → option_map (λ (f : Face). record f { part = f.part ++ b }) (option_map (λ (f : Face). record f { part = f.part ++ a }) face)
    ≡ option_map (λ (f : Face). record f { part = f.part ++ (a ++ b) }) face
face_more a b None = refl
face_more a b (Some f) = ap (λ (p : List ℕ). Some (record f { part = p })) (append_assoc f.part a b)

begun_more : (a b : List ℕ) (begun : Option Begun)
    → option_map (with_more (length b)) (option_map (with_more (length a)) begun) ≡ option_map (with_more (length (a ++ b))) begun
begun_more a b None = refl
begun_more a b (Some begun) = ap (λ (n : ℕ). Some (record begun { got = n })) (together begun.got)
  where
    together : (n : ℕ) → n + length a + length b ≡ n + length (a ++ b)
    together n = omega (arith, length-append a b)

pub extended_more : (a b : List ℕ) (v : PanelView) → extended b (extended a v) ≡ extended (a ++ b) v
extended_more a b v =
    ap (λ (face : Option Face). record { face = face; begun = option_map (with_more (length b)) (option_map (with_more (length a)) v.begun); faults = v.faults })
    (face_more a b v.face)
    ∙ ap (λ (begun : Option Begun). record { face = option_map (λ (f : Face). record f { part = f.part ++ (a ++ b) }) v.face; begun = begun; faults = v.faults })
    (begun_more a b v.begun)

-- there is room for what is left
pub room_left : (size n : ℕ) (part : List ℕ) (v : PanelView) → IsBegun size v.begun → length part + n ≤ size → HasRoom (extended part v).begun n
room_left size n part v begun fits = by_begun v.begun begun
  where
    by_begun : (begun : Option Begun) → IsBegun size begun → HasRoom (option_map (with_more (length part)) begun) n
    by_begun None is = is
    by_begun (Some b) is = omega (arith, is.0, is.1, fits)

-- all bytes of what was begun have come
pub whole_then : (size : ℕ) (part : List ℕ) (v : PanelView) → IsBegun size v.begun → length part ≡ size → IsWhole (extended part v).begun
whole_then size part v begun long = by_begun v.begun begun
  where
    by_begun : (begun : Option Begun) → IsBegun size begun → IsWhole (option_map (with_more (length part)) begun)
    by_begun None is = is
    by_begun (Some b) is = omega (arith, is.0, is.1, long)

-- a medium that was begun, came and ended is shown
pub closed_is : (bytes : ℕ → List ℕ) (region : ℕ) (media : MediaId) (size : ℕ) (part : List ℕ) (v : PanelView) → part ≡ bytes media.0
    → closed (extended part (opened region media.0 size v)) ≡ with_shown (shown_of bytes (region, media)) v
closed_is bytes region media size part v is = by_face v.face
  where
    by_face : (face : Option Face)
        → closed (extended part (opened region media.0 size (record v { face = face }))) ≡ with_shown (shown_of bytes (region, media)) (record v { face = face })
    by_face None = refl
    by_face (Some f) = ap (λ (p : List ℕ). record {
      face = Some (record { shown = f.shown ++ record { region = region; media = media.0; bytes = p } ∷ []; part = [] });
      begun = None;
      faults = v.faults;
    }) is

-- ---- the regions of a picture

shown_more : (shown : List Shown) (more : Shown) (v : PanelView) → with_shown more (showing shown v) ≡ showing (shown ++ more ∷ []) v
shown_more shown more v = by_face v.face
  where
    by_face : (face : Option Face) → with_shown more (showing shown (record v { face = face })) ≡ showing (shown ++ more ∷ []) (record v { face = face })
    by_face None = refl
    by_face (Some f) = refl

pub shows_none : (known : Known) (old new : PanelView) → new ≡ showing [] old → Shows known [] old new
shows_none known old new is = record { shown = λ bytes knows. is; begun = ap (λ (v : PanelView). v.begun) is; kept = ap (λ (v : PanelView). v.faults) is }

-- one region more
pub shows_more : (known later : Known) (picture : List (ℕ × MediaId)) (i : ℕ) (d : ℕ × MediaId) (old mid new : PanelView) → i < length picture
    → ((bytes : ℕ → List ℕ) → known bytes → later bytes) → Shows known (take i picture) old mid
    → ((bytes : ℕ → List ℕ) → later bytes → new ≡ with_shown (shown_of bytes (get_or picture i d)) mid) → new.begun ≡ None → new.faults ≡ mid.faults
    → Shows known (take (i + 1) picture) old new
shows_more known later picture i d old mid new inside stays so_far drawn begun kept = record {
  shown = λ bytes knows.
      drawn bytes (stays bytes knows)
      ∙ ap (with_shown (shown_of bytes (get_or picture i d))) (so_far.shown bytes knows)
      ∙ shown_more (map (shown_of bytes) (take i picture)) (shown_of bytes (get_or picture i d)) old
      ∙ ap (λ (l : List Shown). showing l old) (sym (one_more bytes));
  begun = begun;
  kept = kept ∙ so_far.kept;
}
  where
    one_more : (bytes : ℕ → List ℕ) → map (shown_of bytes) (take (i + 1) picture) ≡ map (shown_of bytes) (take i picture) ++ shown_of bytes (get_or picture i d) ∷ []
    one_more bytes = rw (take_more picture i d inside, map-append) refl

-- ---- the pieces of one medium

-- so many bytes of a medium have come
pub record HasCome (known : Known) (media at : ℕ) (old new : PanelView) : Type 0 where
  pub part : List ℕ
  pub long : length part ≡ at
  pub seen : new ≡ extended part old
  pub bytes : (bytes : ℕ → List ℕ) → known bytes → part ≡ take at (bytes media)

pub come_none : (known : Known) (media : ℕ) (v : PanelView) → HasCome known media 0 v v
come_none known media v = record { part = []; long = refl; seen = sym (extended_none v); bytes = λ bytes knows. refl }

pub come_more : (known later : Known) (media at count n : ℕ) (piece : List ℕ) (old mid new : PanelView) → n ≡ count → StaysKnown known later → length piece ≡ count
    → new ≡ extended piece mid → ((bytes : ℕ → List ℕ) → later bytes → piece ≡ range (bytes media) at n)
    → HasCome known media at old mid → HasCome known media (at + count) old new
unfolding range
come_more known later media at count n piece old mid new is stays long given read come = record {
  part = come.part ++ piece;
  long = omega (arith, length-append come.part piece, come.long, long);
  seen = given ∙ ap (extended piece) come.seen ∙ extended_more come.part piece old;
  bytes = λ bytes knows.
      ap (λ (l : List ℕ). l ++ piece) (come.bytes bytes knows)
      ∙ ap (λ (l : List ℕ). take at (bytes media) ++ l) (read bytes (stays bytes knows) ∙ ap (λ (k : ℕ). take k (drop at (bytes media))) is)
      ∙ sym (take-add at count (bytes media));
}

-- where more is left after a piece, the next one begins where a piece does
pub next_piece : (at count size : ℕ) → at < size → at % PIECE_LEN ≡ 0 → count ≡ min PIECE_LEN (size - at) → at + count < size → (at + count) % PIECE_LEN ≡ 0
next_piece at count size less begins is more = omega (arith, less, begins, is, more)

-- all of it has come
pub come_all : (known : Known) (media size : ℕ) (old new : PanelView) → ((bytes : ℕ → List ℕ) → known bytes → Some size ≡ Some (length (bytes media)))
    → (come : HasCome known media size old new) → (bytes : ℕ → List ℕ) → known bytes → come.part ≡ bytes media
come_all known media size old new long come bytes knows =
    come.bytes bytes knows ∙ take_all size (bytes media) (omega (arith, size_of size (length (bytes media)) (long bytes knows)))
  where
    size_of : (n m : ℕ) → Some n ≡ Some m → n ≡ m
    size_of n m is = cc
