-- The map of a slot: the pages of its files, those of the first file in their order, then those of the second, and so on.
use Rattle.std.specs.Prelude.{ℕ, zero, suc, ◌+◌, ◌*◌, nat_lt, ◌&&◌, not, List, [], ◌∷◌, ◌++◌, Option, None, Some, if◌then◌else◌, replicate}
use Rattle.std.specs.List.{flat_map}
use Rattle.std.specs.Int.{w16, to_le_bytes, from_le_bytes}
use Rattle.sg_disk.specs.View.{range}
use Rattle.sg_disk.specs.Contents.{Segment, page_at}
use Rattle.sg_pages.specs.Pages.{is_taken}
use Rattle.sg_pages.specs.declared.maps.TheConstants.{MAP_ENTRY_LEN}
use Rattle.sg_pages.specs.declared.maps.BadEntry.{BadEntry}

-- the number of a page in a map: 2 bytes, low byte first
unfoldable pub le16 : ℕ → List ℕ
le16 page = to_le_bytes w16 page

unfoldable pub u16_at : List ℕ → ℕ → ℕ
u16_at map place = from_le_bytes w16 (range map place 2)

-- what a switch writes as its map: the entries, or one of zeros where there is no page
abbrev pub map_bytes : List ℕ → List ℕ
map_bytes [] = replicate MAP_ENTRY_LEN 0
map_bytes (page ∷ pages) = flat_map le16 (page ∷ pages)

-- the first n entries of a map
abbrev pub pages_of : List ℕ → ℕ → List ℕ
pages_of map zero = []
pages_of map (suc n) = pages_of map n ++ u16_at map (MAP_ENTRY_LEN * n) ∷ []

-- The first entry, from one index on, that names no page of a data area of n pages, or one of which a segment takes a
-- byte. An entry takes its page
abbrev pub bad_entry : ℕ → List Segment → ℕ → List ℕ → Option BadEntry
bad_entry n taken index [] = None
bad_entry n taken index (page ∷ pages) =
    if nat_lt page n && not (is_taken taken page) then bad_entry n (taken ++ page_at page ∷ []) (index + 1) pages
    else Some (record { index = index; page = page })
