-- What an opening has read, as a store.
use Rattle.std.proofs.Common.{◌≡◌, ℕ, ◌%◌, ◌==◌, nat_le, ◌&&◌, true, List, [], Option, is_some, sym, ◌∙◌, ap}
use Rattle.std.proofs.lemmas.Bool.{and_parts, leb-true, eqb-true}
use Rattle.sg_base.specs.declared.limits.TheConstants.{ROOM_UNIT, MAX_ROOM}
use Rattle.sg_disk.specs.View.{View, range, Only}
use Rattle.sg_disk.specs.Contents.{Contents, IsRoom}
use Rattle.sg_disk.specs.declared.places.TheConstants.{HEADER_LEN}
use Rattle.sg_pages.specs.Shelves.{Shelved}
use Rattle.sg_slots.specs.Slots.{head_at, spare_at, in_slot, opposite, head_number, head_text}
use Rattle.sg_slots.specs.Damage.{is_room}
use Rattle.sg_slots.specs.declared.slots.Slot.{Slot}
use Rattle.sg_slots.specs.declared.slots.Slot.TheVariants.{Zero, One}
use Rattle.sg_slots.specs.declared.slots.Head.{Head}
use Rattle.sg_slots.specs.declared.formats.Format.{Format}
use Rattle.sg_slots.specs.declared.pair.SlotPair.{SlotPair}
use Rattle.sg_slots.proofs.StandLemmas.{in_opposite, in_spare}
use Rattle.sg_paged_slots.specs.Headers.{header_at}
use Rattle.sg_paged_slots.specs.PagedSlots.{shelf_at}
use Rattle.sg_paged_slots.specs.declared.headers.Header.{Header}
use Rattle.sg_contents.specs.StandsFor.{IsNew, StandsFor}
use Rattle.sg_soundness.proofs.SoundHeader.{header_says}
use Rattle.sg_staging.specs.Staged.{nothing_staged}
use Rattle.sg_store_state.specs.State.{State}
use Rattle.sg_store_state.specs.Ready.{IsReady}
use Rattle.sg_store_state.proofs.OpenLemmas.{opened}

-- the length of a data area that was looked at
pub room_from : (room : ℕ) → is_room room ≡ true → IsRoom room
room_from room is =
    let first = and_parts (nat_le ROOM_UNIT room) (nat_le room MAX_ROOM && (room % ROOM_UNIT == 0)) is in
    let second = and_parts (nat_le room MAX_ROOM) (room % ROOM_UNIT == 0) first.1 in
    record { low = leb-true ROOM_UNIT room first.0; high = leb-true room MAX_ROOM second.0; whole = eqb-true (room % ROOM_UNIT) 0 second.1 }

shelf_opposite : (room : ℕ) (spare : Slot) (c : List ℕ) (first second : Shelved) → first ≡ shelf_at room Zero c → second ≡ shelf_at room One c → in_slot spare second first ≡ shelf_at room (opposite spare) c
shelf_opposite room Zero c first second one two = two
shelf_opposite room One c first second one two = one

-- what an assembled store has
pub record Assembled (s : State) (format : Format) (slots : SlotPair) (zero one : Shelved) : Type 0 where
  pub display : s.display ≡ format.display
  pub epoch : s.epoch ≡ format.epoch
  pub room : s.room ≡ format.room
  pub spare : s.spare ≡ slots.spare
  pub gate : s.spare_open ≡ is_some (in_slot slots.spare slots.zero slots.one)
  pub number : s.number ≡ head_number (in_slot slots.spare slots.one slots.zero)
  pub text : s.text ≡ head_text (in_slot slots.spare slots.one slots.zero)
  pub files : s.current ≡ in_slot slots.spare one zero
  pub staged : s.staged ≡ nothing_staged

-- what was read of both slots of a disk
pub record Read (c : List ℕ) (room : ℕ) (slots : SlotPair) (zero one : Shelved) : Type 0 where
  pub zero_is : slots.zero ≡ head_at Zero c
  pub one_is : slots.one ≡ head_at One c
  pub spare_is : slots.spare ≡ spare_at slots.zero slots.one
  pub zero_files : zero ≡ shelf_at room Zero c
  pub one_files : one ≡ shelf_at room One c

-- The store that was read of a disk which stands for contents. The header was read before, of one that stood for the same
pub assembled_ready : (b : List ℕ) (w : View) (s : State) (h : Header) (slots : SlotPair) (zero one : Shelved) (p : Contents) → w.told → Only w.bytes w → h ≡ header_at b → StandsFor p b → StandsFor p w.bytes → IsNew (range w.bytes 0 HEADER_LEN) → Read w.bytes h.format.room slots zero one → Assembled s h.format slots zero one → IsReady w s p
assembled_ready b w s h slots zero one p told only is before standing new was made =
    let c : List ℕ = w.bytes in
    let then = header_says p b before in
    let now = header_says p c standing in
    let chosen : Slot = slots.spare in
    opened w s p told only (record {
      display = made.display ∙ ap (λ (x : Header). x.format.display) is ∙ then.display ∙ sym now.display;
      epoch = made.epoch ∙ ap (λ (x : Header). x.format.epoch) is ∙ then.epoch ∙ sym now.epoch;
      room = made.room ∙ ap (λ (x : Header). x.format.room) is ∙ then.room ∙ sym now.room;
      spare = made.spare ∙ was.spare_is ∙ ap (λ (x : Option Head). spare_at x slots.one) was.zero_is ∙ ap (λ (x : Option Head). spare_at (head_at Zero c) x) was.one_is;
      gate = made.gate ∙ ap is_some (in_spare chosen c slots.zero slots.one was.zero_is was.one_is) ∙ ap (λ (x : Slot). is_some (head_at x c)) (sym made.spare);
      number = made.number ∙ ap head_number (in_opposite chosen c slots.zero slots.one was.zero_is was.one_is) ∙ ap (λ (x : Slot). head_number (head_at (opposite x) c)) (sym made.spare);
      text = made.text ∙ ap head_text (in_opposite chosen c slots.zero slots.one was.zero_is was.one_is) ∙ ap (λ (x : Slot). head_text (head_at (opposite x) c)) (sym made.spare);
      files = made.files ∙ shelf_opposite h.format.room chosen c zero one was.zero_files was.one_files ∙ ap (λ (x : Slot). shelf_at h.format.room (opposite x) c) (sym made.spare) ∙ ap (λ (n : ℕ). shelf_at n (opposite s.spare) c) (sym made.room);
      staged = made.staged;
    }) new standing

-- what holds of both holds of one
pub in_either : {X : Type 0} (P : X → Type 0) (slot : Slot) (a b : X) → P a → P b → P (in_slot slot a b)
in_either P Zero a b one two = one
in_either P One a b one two = two
