-- Layouts: what makes one valid, how long it lasts, and what a region shows.
use Rattle.std.specs.Prelude.{◌≡◌, ℕ, ◌+◌, ◌-◌, ◌%◌, ◌<◌, ◌≤◌, max, ◌==◌, nat_lt, if◌then◌else◌, List, [], ◌∷◌, length, take, Option, Some, None, slice_get}
use Rattle.std.specs.List.{AllByRecursion}
use Rattle.sg_base.specs.declared.ids.LayoutId.{LayoutId}
use Rattle.sg_base.specs.declared.ids.MediaId.{MediaId}
use Rattle.sg_base.specs.declared.layout.Item.{Item}
use Rattle.sg_base.specs.declared.layout.Region.{Region}
use Rattle.sg_base.specs.declared.layout.LayoutFault.{LayoutFault}
use Rattle.sg_base.specs.declared.layout.LayoutFault.TheVariants.{NoRegion, TooMany, DoubleRegion, EmptyRegion, ZeroSeconds, TooLong}
use Rattle.sg_base.specs.declared.limits.TheConstants.{HOUR, MAX_REGIONS, MAX_ITEMS}
use Rattle.sg_base.specs.Faults.{first_of, first_in, double_of}

pub record LayoutRow : Type 0 where
  pub id : LayoutId
  pub regions : List Region

-- a region's sum: the seconds of its items together
abbrev pub seconds_of : List Item → ℕ
seconds_of [] = 0
seconds_of (i ∷ is) = i.seconds + seconds_of is

-- a layout's duration: the largest sum of a region
abbrev pub longest : List Region → ℕ
longest [] = 0
longest (r ∷ rs) = max (seconds_of r.items) (longest rs)

-- an item without a second, by its place in the region
abbrev pub zero_fault : ℕ → ℕ → List Item → Option LayoutFault
zero_fault region k [] = None
zero_fault region k (i ∷ is) = if i.seconds == 0 then Some (ZeroSeconds region k) else zero_fault region (k + 1) is

-- more seconds than an hour has
abbrev pub long_fault : List Item → Option LayoutFault
long_fault items = if nat_lt HOUR (seconds_of items) then Some (TooLong (seconds_of items)) else None

abbrev pub region_fault : Region → Option LayoutFault
region_fault r = if length r.items == 0 then Some (EmptyRegion r.id) else
    (if nat_lt MAX_ITEMS (length r.items) then Some (TooMany (length r.items)) else
    first_of (zero_fault r.id 0 r.items) (long_fault r.items))

-- a region whose id stands earlier in the list
abbrev pub double_fault : List Region → Option LayoutFault
double_fault rs = double_of (λ r. r.id) (λ id. DoubleRegion id) [] rs

-- the first fault of regions, in the order in which a layout is refused
abbrev pub layout_fault : List Region → Option LayoutFault
layout_fault rs = if length rs == 0 then Some NoRegion else
    (if nat_lt MAX_REGIONS (length rs) then Some (TooMany (length rs)) else
    first_of (double_fault rs) (first_in region_fault rs))

-- a region has an id of at least 1
abbrev pub HasId : Region → Type 0
HasId r = 0 < r.id

pub record IsLayout (l : LayoutRow) : Type 0 where
  pub ids : AllByRecursion HasId l.regions
  pub sound : layout_fault l.regions ≡ None

-- the medium shown at a second of a list of items: that of the item which covers it
abbrev pub medium_in : List Item → ℕ → MediaId
medium_in [] p = record { 0 = 0 }
medium_in (i ∷ is) p = if nat_lt p i.seconds then i.media else medium_in is (p - i.seconds)

-- a region begins again at its end, so an offset counts by its remainder
abbrev pub medium_at : Region → ℕ → MediaId
medium_at r offset = medium_in r.items (offset % seconds_of r.items)

-- the same in words: the item with this index begins at or before the second and ends after it
pub record Covers (items : List Item) (p : ℕ) (medium : MediaId) : Type 0 where
  pub index : ℕ
  pub item : Item
  pub is : slice_get items index ≡ Some item
  pub begun : seconds_of (take index items) ≤ p
  pub lasts : p < seconds_of (take index items) + item.seconds
  pub shown : medium ≡ item.media
