-- Which pages of a data area are free, where segments take the others.
use Rattle.std.specs.Prelude.{◌≡◌, ℕ, zero, suc, ◌+◌, ◌*◌, ◌<◌, nat_lt, ◌&&◌, Bool, false, List, [], ◌∷◌, ◌++◌, length, slice_index_or, if◌then◌else◌}
use Rattle.std.specs.List.{list_any}
use Rattle.std.specs.Int.{div_ceil}
use Rattle.sg_disk.specs.Contents.{Segment}
use Rattle.sg_disk.specs.declared.places.TheConstants.{DATA, PAGE}

-- how many pages a file of n bytes needs
abbrev pub needed : ℕ → ℕ
needed n = div_ceil n PAGE

-- a segment takes a byte of a page
abbrev pub touches : ℕ → Segment → Bool
touches page s = nat_lt s.place (DATA + PAGE * page + PAGE) && nat_lt (DATA + PAGE * page) (s.place + s.size)

-- one of these segments does
abbrev pub is_taken : List Segment → ℕ → Bool
is_taken taken page = list_any (touches page) taken

-- those of the first n pages of which no segment takes a byte, lowest first
abbrev pub free_pages : List Segment → ℕ → List ℕ
free_pages taken zero = []
free_pages taken (suc n) = if is_taken taken n then free_pages taken n else free_pages taken n ++ n ∷ []

-- each page has a mark, which says whether one of these segments takes a byte of it
abbrev pub Marks : List Segment → List Bool → Type 0
Marks taken marks = (page : ℕ) → page < length marks → slice_index_or marks page false ≡ is_taken taken page
