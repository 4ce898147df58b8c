-- The three steps of a switch, one behind another.
use Rattle.std.proofs.Common.{◌≡◌, ◌⊎◌, inl, inr, ℕ, ◌+◌, ◌-◌, ◌*◌, ◌≤◌, Bool, false, List, [], ◌∷◌, if◌then◌else◌, sym, ◌∙◌, subst, arith}
use Rattle.sg_disk.specs.View.{View, put, Only}
use Rattle.sg_disk.specs.Runs.{LeavesOnly, Within, Keeps}
use Rattle.sg_disk.specs.Contents.{StoredFile, Contents, switched}
use Rattle.sg_disk.specs.declared.places.TheConstants.{DATA, FIELDS, SLOT_LEN, TABLE, TEXT}
use Rattle.sg_disk.proofs.Keeping.{keeps_within}
use Rattle.sg_disk.proofs.Moments.{weaker, joined}
use Rattle.sg_pages.specs.declared.maps.TheConstants.{MAP_LEN}
use Rattle.sg_slots.specs.Slots.{slot_place, IsClearOfSlots}
use Rattle.sg_slots.specs.declared.slots.Slot.{Slot}
use Rattle.sg_slots.proofs.SlotLemmas.{place_high}
use Rattle.sg_paged_slots.specs.PagedDamage.{map_place}
use Rattle.sg_paged_slots.specs.Both.{WithinBoth}
use Rattle.sg_paged_slots.proofs.BothLemmas.{keeps_both}
use Rattle.sg_contents.specs.StandsFor.{StandsFor, Either, disk_len}
use Rattle.sg_switching.specs.Switching.{HasSpare, IsNext, IsSwitched}
use Rattle.sg_switching.proofs.SwitchLemmas.{Closed, Filled, place_low, map_low, map_high, closing, closed_after, filling, opening}
use Rattle.sg_switching.proofs.FillLemmas.{Fits, filled_by, switched_by}

-- the gate is closed, or only read
pub record Touches (u v : View) (spare : Slot) (was_open : Bool) : Type 0 where
  pub within : Within (slot_place spare) 1 u v
  pub untouched : was_open ≡ false → LeavesOnly u.images u v

pub record Closes (u v : View) (spare : Slot) (was_open : Bool) : Type 0 where
  pub touches : Touches u v spare was_open
  pub size : v.size ≡ u.size
  pub tells : u.told → v.told
  pub stable : u.told → Only v.bytes v
  pub bytes : u.told → v.bytes ≡ (if was_open then put u.bytes (slot_place spare) (0 ∷ []) else u.bytes)

-- the slot and its map are filled
abbrev pub Writes : View → View → ℕ → Slot → Type 0
Writes v w room spare = WithinBoth (slot_place spare + FIELDS) (SLOT_LEN - FIELDS) (map_place room spare) MAP_LEN v w

pub record Fills (v w : View) (room : ℕ) (spare : Slot) (head table text map : List ℕ) : Type 0 where
  pub within : Writes v w room spare
  pub size : w.size ≡ v.size
  pub tells : v.told → w.told
  pub stable : v.told → Only w.bytes w
  pub written : v.told → w.bytes ≡ put (put (put (put v.bytes (slot_place spare + FIELDS) head) (slot_place spare + TABLE) table) (slot_place spare + TEXT) text) (map_place room spare) map

-- the gate is opened
pub record Opens (w x : View) (spare : Slot) : Type 0 where
  pub within : Within (slot_place spare) 1 w x
  pub tells : w.told → x.told
  pub written : w.told → x.bytes ≡ put w.bytes (slot_place spare) (1 ∷ [])
  pub durable : w.told → Only (put w.bytes (slot_place spare) (1 ∷ [])) x

-- at every moment of the first step
pub closing_leaves : (u v : View) (spare : Slot) (was_open : Bool) (p q : Contents) → Touches u v spare was_open → HasSpare u spare was_open p → LeavesOnly (Either p q) u v
closing_leaves u v spare was_open p q touches has = weaker u v (StandsFor p) (Either p q) (λ c is. inl is) (closing u v spare was_open p has touches.within touches.untouched)

closed_by : (u v : View) (spare : Slot) (was_open : Bool) (p : Contents) → Closes u v spare was_open → HasSpare u spare was_open p → Closed v p spare
closed_by u v spare was_open p closes has =
    let told = has.settled.told in
    closed_after u v spare was_open p has (closes.tells told) (closes.stable told) (closes.bytes told) closes.touches.within (closing u v spare was_open p has closes.touches.within closes.touches.untouched)

-- of the first two
pub filling_leaves : (u v w : View) (spare : Slot) (was_open : Bool) (p q : Contents) → Closes u v spare was_open → Writes v w p.room spare → HasSpare u spare was_open p → LeavesOnly (Either p q) u w
filling_leaves u v w spare was_open p q closes writes has =
    joined u v w (Either p q) (closing_leaves u v spare was_open p q closes.touches has) (weaker v w (StandsFor p) (Either p q) (λ c is. inl is) (filling v w p spare (closed_by u v spare was_open p closes has) writes))

filled_after : (u v w : View) (spare : Slot) (was_open : Bool) (p : Contents) (files : List StoredFile) (head table text map : List ℕ) → u.size ≡ disk_len p.room → Fits head table text map → Closes u v spare was_open → Fills v w p.room spare head table text map → HasSpare u spare was_open p → IsNext u p files head table text map → Filled w p spare text files
filled_after u v w spare was_open p files head table text map size fits closes fills has next =
    let closed = closed_by u v spare was_open p closes has in
    filled_by u v w spare was_open p files head table text map has next fits (closes.size ∙ size) closed closes.touches.within (fills.tells closed.told) (fills.stable closed.told) fills.within (filling v w p spare closed fills.within) (fills.written closed.told)

-- and of all three
pub opening_leaves : (u v w x : View) (spare : Slot) (was_open : Bool) (p : Contents) (files : List StoredFile) (head table text map : List ℕ) → u.size ≡ disk_len p.room → Fits head table text map → Closes u v spare was_open → Fills v w p.room spare head table text map → Within (slot_place spare) 1 w x → HasSpare u spare was_open p → IsNext u p files head table text map → LeavesOnly (Either p (switched p text files)) u x
opening_leaves u v w x spare was_open p files head table text map size fits closes fills within has next =
    joined u w x (Either p (switched p text files)) (filling_leaves u v w spare was_open p (switched p text files) closes fills.within has) (opening w x p spare text files (filled_after u v w spare was_open p files head table text map size fits closes fills has next) within)

pub switched_after : (u v w x : View) (spare : Slot) (was_open : Bool) (p : Contents) (files : List StoredFile) (head table text map : List ℕ) → u.size ≡ disk_len p.room → Fits head table text map → Closes u v spare was_open → Fills v w p.room spare head table text map → Opens w x spare → HasSpare u spare was_open p → IsNext u p files head table text map → IsSwitched x spare p text files
switched_after u v w x spare was_open p files head table text map size fits closes fills opens has next =
    let filled = filled_after u v w spare was_open p files head table text map size fits closes fills has next in
    let told = filled.closed.told in
    switched_by w x spare p text files filled (fills.size ∙ closes.size ∙ size) (opens.tells told) (subst (λ (b : List ℕ). Only b x) (sym (opens.written told)) (opens.durable told)) (opens.written told) opens.within

-- what is elsewhere stays
pub gate_keeps : (u v : View) (spare : Slot) (place n : ℕ) → IsClearOfSlots place n → Within (slot_place spare) 1 u v → Keeps place n u v
gate_keeps u v spare place n clear within = keeps_within (slot_place spare) 1 place n u v (apart clear) within
  where
    apart : IsClearOfSlots place n → (place + n ≤ slot_place spare) ⊎ (slot_place spare + 1 ≤ place)
    apart (inl low) = inl (omega (arith, low, place_low spare))
    apart (inr high) = inr (omega (arith, high, place_high spare))

pub fill_keeps : (v w : View) (room : ℕ) (spare : Slot) (place n : ℕ) → IsClearOfSlots place n → (place + n ≤ DATA + room) ⊎ (DATA + room + 2 * MAP_LEN ≤ place) → Writes v w room spare → Keeps place n v w
fill_keeps v w room spare place n clear beside writes = keeps_both (slot_place spare + FIELDS) (SLOT_LEN - FIELDS) (map_place room spare) MAP_LEN place n v w (slots clear) (maps beside) writes
  where
    slots : IsClearOfSlots place n → (place + n ≤ slot_place spare + FIELDS) ⊎ (slot_place spare + FIELDS + (SLOT_LEN - FIELDS) ≤ place)
    slots (inl low) = inl (omega (arith, low, place_low spare))
    slots (inr high) = inr (omega (arith, high, place_high spare))

    maps : (place + n ≤ DATA + room) ⊎ (DATA + room + 2 * MAP_LEN ≤ place) → (place + n ≤ map_place room spare) ⊎ (map_place room spare + MAP_LEN ≤ place)
    maps (inl low) = inl (omega (arith, low, map_low room spare))
    maps (inr high) = inr (omega (arith, high, map_high room spare))
