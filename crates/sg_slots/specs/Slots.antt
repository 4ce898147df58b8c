-- The two slots, and what each says.
use Rattle.std.specs.Prelude.{◌⊎◌, ℕ, ◌+◌, ◌*◌, ◌≤◌, ◌==◌, List, [], Option, None, Some, if◌then◌else◌, slice_index, nat_lt}
use Rattle.sg_disk.specs.View.{range}
use Rattle.sg_disk.specs.declared.places.TheConstants.{COUNT, ENTRY_LEN, NUMBER, SLOT_LEN, SLOT_ONE, SLOT_ZERO, TABLE, TEXT_LEN}
use Rattle.sg_placing.specs.declared.placed.Placed.{Placed}
use Rattle.sg_slots.specs.Bytes.{u32_at, entries_of}
use Rattle.sg_slots.specs.declared.slots.Slot.{Slot}
use Rattle.sg_slots.specs.declared.slots.Slot.TheVariants.{Zero, One}
use Rattle.sg_slots.specs.declared.slots.Head.{Head}

abbrev pub slot_place : Slot → ℕ
slot_place Zero = SLOT_ZERO
slot_place One = SLOT_ONE

abbrev pub opposite : Slot → Slot
opposite Zero = One
opposite One = Zero

-- none of the n bytes at a place belongs to a slot
abbrev pub IsClearOfSlots : ℕ → ℕ → Type 0
IsClearOfSlots place n = (place + n ≤ SLOT_ZERO) ⊎ (SLOT_ZERO + 2 * SLOT_LEN ≤ place)

-- the bytes of a slot
abbrev pub slot_of : Slot → List ℕ → List ℕ
slot_of slot c = range c (slot_place slot) SLOT_LEN

-- the fields of a slot whose gate is open: switch number, length of the manifest, number of files
abbrev pub head_at : Slot → List ℕ → Option Head
head_at slot c =
    if slice_index c (slot_place slot) == 1
    then Some (record {
      number = u32_at c (slot_place slot + NUMBER);
      text = u32_at c (slot_place slot + TEXT_LEN);
      count = u32_at c (slot_place slot + COUNT);
    })
    else None

-- the files of a slot whose gate is open
abbrev pub files_of : Slot → Option Head → List ℕ → List Placed
files_of slot None c = []
files_of slot (Some head) c = entries_of
    (range c (slot_place slot + TABLE) (ENTRY_LEN * head.count)) head.count

abbrev pub files_at : Slot → List ℕ → List Placed
files_at slot c = files_of slot (head_at slot c) c

-- the slot that a switch writes: the one of the lower number, or one whose gate is closed
abbrev pub spare_at : Option Head → Option Head → Slot
spare_at None one = Zero
spare_at (Some zero) None = One
spare_at (Some zero) (Some one) = if nat_lt zero.number one.number then Zero else One

-- what stands in a slot, of what stands in both
abbrev pub in_slot : {X : Type 0} → Slot → X → X → X
in_slot Zero zero one = zero
in_slot One zero one = one

abbrev pub head_number : Option Head → ℕ
head_number None = 0
head_number (Some head) = head.number

abbrev pub head_text : Option Head → ℕ
head_text None = 0
head_text (Some head) = head.text
