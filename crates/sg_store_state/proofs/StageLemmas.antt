-- Bytes that come of the half staged file: where they go, and what they make of the disk.
use Rattle.std.proofs.Common.{◌≡◌, ◌⊎◌, inl, inr, ℕ, zero, suc, ◌+◌, ◌-◌, ◌*◌, ◌/◌, ◌%◌, ◌<◌, ◌≤◌, min, List, [], ◌∷◌, ◌++◌, length, get_or, take, map, Option, None, Some, MatchOption, IfSome, IsSomeAnd, All, AllPairs, refl, sym, ◌∙◌, ap, subst, arith, length-append}
use Rattle.std.specs.List.{flat_map}
use Rattle.std.proofs.lemmas.List.{length-map, get_or-map, length-take-le}
use Rattle.md5.specs.Md5.{md5, Holds}
use Rattle.sg_base.specs.declared.file.Listed.{Listed}
use Rattle.sg_disk.specs.View.{View, range, put, Torn, Passed, Written, Elapses, Follows}
use Rattle.sg_disk.specs.Runs.{LeavesOnly, Within, After, HasOne}
use Rattle.sg_disk.specs.Contents.{Segment, Stand, StoredFile, Contents, IsClear, IsInside, AreClear, page_at, taken_at, parts_of, parts_at}
use Rattle.sg_disk.specs.Contents.{Pages}
use Rattle.sg_disk.specs.declared.places.TheConstants.{DATA, HEADER_LEN, JOURNAL, PAGE, SLOT_LEN, SLOT_ONE, SLOT_ZERO}
use Rattle.sg_disk.proofs.Ranges.{range_kept, range_put, length-range, range-range}
use Rattle.sg_disk.proofs.Moments.{weaker}
use Rattle.sg_disk.proofs.Extents.{clear_parts, inside_parts}
use Rattle.sg_disk.proofs.Writes.{one_kept, bytes_kept, within_wider}
use Rattle.sg_placing.proofs.GapLemmas.{All-front, All-back}
use Rattle.sg_pages.specs.Pages.{needed}
use Rattle.sg_pages.specs.Shelves.{FileAt, stands, byte_place}
use Rattle.sg_pages.specs.declared.maps.TheConstants.{MAP_LEN}
use Rattle.sg_pages.proofs.PartLemmas.{AreWithin, size_of, written_in_file}
use Rattle.sg_slots.specs.Slots.{slot_of, opposite, slot_place}
use Rattle.sg_slots.specs.declared.slots.Slot.{Slot}
use Rattle.sg_contents.specs.Lawful.{AreBeside}
use Rattle.sg_contents.specs.StandsFor.{IsNew, StandsFor, Settled}
use Rattle.sg_contents.proofs.Areas.{staged}
use Rattle.sg_contents.proofs.Pairs.{all_map, pairs_map, pairs_cross}
use Rattle.sg_contents.proofs.Standing.{settled_read, settled_leaves, stands_long}
use Rattle.sg_soundness.specs.Shelved.{file_at_of}
use Rattle.sg_staging.specs.Staged.{HalfStaged, Staged, half_at, half_stands, whole_files, taken_files, IsStanding, AreOthers, IsStagedIn, IsHalf}
use Rattle.sg_staging.proofs.ShelfLemmas.{beside_differ}
use Rattle.sg_store_state.specs.State.{State, whole_stands}
use Rattle.sg_store_state.specs.Ready.{bytes_in, bytes_here, bytes_so_far, IsWhole, IsBegun, Knows, HasStaged, IsReady}
use Rattle.sg_store_state.proofs.ReadLemmas.{parts_within}

-- the half staged file among the others
pub half_standing : (room : ℕ) (s : State) (half : HalfStaged) → IsStagedIn room s.current s.staged → s.staged.half ≡ Some half → IsStanding room (half_at half)
half_standing room s half is now =
    let all : All (IsStanding room) (whole_stands s ++ half_at half ∷ []) = subst (λ (h : Option HalfStaged). All (IsStanding room) (whole_stands s ++ half_stands h)) now is.standing in
    All-back (IsStanding room) (whole_stands s) (half_at half ∷ []) all zero (half_at half) (omega arith)

half_others : (room : ℕ) (s : State) (half : HalfStaged) → IsStagedIn room s.current s.staged → s.staged.half ≡ Some half → All (λ f. AreOthers f (half_at half)) (whole_stands s)
half_others room s half is now k d lt =
    pairs_cross AreOthers (whole_stands s) (half_at half ∷ []) (subst (λ (h : Option HalfStaged). AllPairs AreOthers (whole_stands s ++ half_stands h)) now is.others) k d lt zero (half_at half) (omega arith)

-- n bytes go to this place, which is in a page of the half staged file
pub record Goes (s : State) (half : HalfStaged) (place n : ℕ) : Type 0 where
  pub is : s.staged.half ≡ Some half
  pub kept : IsStagedIn s.room s.current s.staged
  pub at : place ≡ byte_place (Pages half.pages) half.count
  pub some : 1 ≤ n
  pub fits : half.count + n ≤ half.file.length
  pub row : half.count % PAGE + n ≤ PAGE

-- the page
abbrev pub page_of : HalfStaged → ℕ
page_of half = get_or half.pages (half.count / PAGE) 0

page_in : (s : State) (half : HalfStaged) (place n : ℕ) → Goes s half place n → half.count / PAGE < length half.pages
page_in s half place n goes =
    let long : length half.pages ≡ needed half.file.length = (half_standing s.room s half goes.kept goes.is).stored half.pages refl in
    grind (arith, long, goes.fits, goes.some)

page_inside : (s : State) (half : HalfStaged) (place n : ℕ) → Goes s half place n → IsInside s.room (page_at (page_of half))
page_inside s half place n goes = all_map (IsInside s.room) page_at half.pages (half_standing s.room s half goes.kept goes.is).inside (half.count / PAGE) 0 (page_in s half place n goes)

pub place_low : (s : State) (half : HalfStaged) (place n : ℕ) → Goes s half place n → DATA ≤ place
place_low s half place n goes = omega (arith, goes.at)

pub place_high : (s : State) (half : HalfStaged) (place n : ℕ) → Goes s half place n → place + n ≤ DATA + s.room
place_high s half place n goes =
    let inside = page_inside s half place n goes in
    omega (arith, goes.at, goes.row, inside.1)

-- it is clear of the files that are whole
clear_in_page : (place n page : ℕ) (t : Segment) → DATA + PAGE * page ≤ place → place + n ≤ DATA + PAGE * page + PAGE → AreBeside t (page_at page) → IsClear place n t
clear_in_page place n page t low high (inl below) = inl (omega (arith, below, low))
clear_in_page place n page t low high (inr above) = inr (omega (arith, above, high))

pub place_clear : (s : State) (half : HalfStaged) (place n : ℕ) → Goes s half place n → All (λ f. All (IsClear place n) (taken_at f.file.length f.stand)) (whole_stands s)
place_clear s half place n goes k d lt i e below =
    let f : FileAt = get_or (whole_stands s) k d in
    let apart = (half_others s.room s half goes.kept goes.is k d lt).apart i e below in
    let beside : AreBeside (get_or (taken_at f.file.length f.stand) i e) (page_at (page_of half)) = all_map (AreBeside (get_or (taken_at f.file.length f.stand) i e)) page_at half.pages apart (half.count / PAGE) 0 (page_in s half place n goes) in
    clear_in_page place n (page_of half) (get_or (taken_at f.file.length f.stand) i e) (omega (arith, goes.at)) (omega (arith, goes.at, goes.row)) beside

-- and so of the files of the contents
pub contents_clear : (s : State) (half : HalfStaged) (p : Contents) (place n : ℕ) → Goes s half place n → stands s.current ≡ map file_at_of p.files → AreClear place n p.files
contents_clear s half p place n goes files =
    let all = All-front (λ (f : FileAt). All (IsClear place n) (taken_at f.file.length f.stand)) (stands s.current) (stands s.staged.sealed) (place_clear s half place n goes) in
    all_map (λ (f : FileAt). All (IsClear place n) (taken_at f.file.length f.stand)) file_at_of p.files (subst (All (λ (f : FileAt). All (IsClear place n) (taken_at f.file.length f.stand))) files all)

-- at every moment of such a write each image stands for the contents
pub staged_leaves : (v w : View) (s : State) (half : HalfStaged) (p : Contents) (place n : ℕ) → Goes s half place n → Within place n v w → IsReady v s p → LeavesOnly (StandsFor p) v w
staged_leaves v w s half p place n goes within ready =
    let high : place + n ≤ DATA + p.room = omega (arith, place_high s half place n goes, ready.knows.room) in
    weaker v w (After (Torn place n) v) (StandsFor p) (λ c was. staged p was.0 c place n (place_low s half place n goes) high (contents_clear s half p place n goes ready.knows.files) was.2 (ready.settled.each was.0 was.1)) within.moments

-- what stands elsewhere stays
parts_same : (c d : List ℕ) (place n : ℕ) (segments : List Segment) → All (IsClear place n) segments → Torn place n c d → bytes_in d segments ≡ bytes_in c segments
parts_same c d place n [] clear torn = refl
parts_same c d place n (t ∷ segments) clear torn =
    ap (λ (l : List ℕ). l ++ bytes_in d segments) (range_kept place n t.place t.size c d torn (clear zero t (omega arith))) ∙ ap (λ (l : List ℕ). range c t.place t.size ++ l) (parts_same c d place n segments (λ k e lt. clear (suc k) e (omega (arith, lt))) torn)

pub here_same : (c d : List ℕ) (place n : ℕ) (f : FileAt) → All (IsClear place n) (taken_at f.file.length f.stand) → Torn place n c d → bytes_here d f ≡ bytes_here c f
here_same c d place n f clear torn = parts_same c d place n (parts_at f.file.length f.stand) (clear_parts place n (record { listed = f.file; stand = f.stand; bytes = [] }) clear) torn

whole_same : (s : State) (half : HalfStaged) (c d : List ℕ) (place n : ℕ) → Goes s half place n → Torn place n c d → All (IsWhole c) (whole_stands s) → All (IsWhole d) (whole_stands s)
whole_same s half c d place n goes torn whole k e lt =
    let f : FileAt = get_or (whole_stands s) k e in
    ap md5 (here_same c d place n f (place_clear s half place n goes k e lt) torn) ∙ whole k e lt

-- how long the bytes of a file in pages are
pub parts_long : (n : ℕ) (pages : List ℕ) → length pages ≡ needed n → size_of (parts_of n pages) ≡ n
parts_long n [] long = grind (arith, long)
parts_long n (page ∷ pages) long =
    let fewer : length pages ≡ needed (n - PAGE) = grind (arith, long) in
    omega (arith, parts_long (n - PAGE) pages fewer)

pub bytes_long : (c : List ℕ) (segments : List Segment) → AreWithin (length c) segments → length (bytes_in c segments) ≡ size_of segments
bytes_long c [] within = refl
bytes_long c (t ∷ segments) within = omega (arith, length-append (range c t.place t.size) (bytes_in c segments), length-range c t.place t.size within.0, bytes_long c segments within.1)

half_within : (room : ℕ) (c : List ℕ) (half : HalfStaged) → DATA + room ≤ length c → IsStanding room (half_at half) → AreWithin (length c) (parts_of half.file.length half.pages)
half_within room c half long standing = parts_within room (length c) (parts_of half.file.length half.pages) long (inside_parts room (record { listed = half.file; stand = Pages half.pages; bytes = [] }) standing.inside)

pub so_far_long : (room : ℕ) (c : List ℕ) (half : HalfStaged) → DATA + room ≤ length c → IsStanding room (half_at half) → half.count ≤ half.file.length → length (bytes_so_far c half) ≡ half.count
so_far_long room c half long standing fits =
    let whole : length (bytes_here c (half_at half)) ≡ half.file.length = bytes_long c (parts_of half.file.length half.pages) (half_within room c half long standing) ∙ parts_long half.file.length half.pages (standing.stored half.pages refl) in
    length-take-le half.count (bytes_here c (half_at half)) (omega (arith, whole, fits))

-- the bytes that came stand behind those before
pub more_so_far : (s : State) (half : HalfStaged) (c d : List ℕ) (place : ℕ) (bs : List ℕ) → Goes s half place (length bs) → DATA + s.room ≤ length c → d ≡ put c place bs → Torn place (length bs) c d → take (half.count + length bs) (bytes_here d (half_at half)) ≡ bytes_so_far c half ++ bs
more_so_far s half c d place bs goes long is torn =
    let standing = half_standing s.room s half goes.kept goes.is in
    let apart = pairs_map AreBeside page_at half.pages standing.apart in
    let here : range d place (length bs) ≡ bs = ap (λ (l : List ℕ). range l place (length bs)) is ∙ range_put c place bs (omega (arith, long, place_high s half place (length bs) goes)) in
    written_in_file c d half.file.length half.pages half.count bs (standing.stored half.pages refl) (λ k i below lt same. beside_differ (get_or half.pages k 0) (get_or half.pages i 0) (apart k i 0 below lt) same) (half_within s.room c half long standing) (omega (arith, goes.some)) goes.fits goes.row (subst (λ (k : ℕ). Torn k (length bs) c d) goes.at torn) (subst (λ (k : ℕ). range d k (length bs) ≡ bs) goes.at here)

-- what is staged stands on the disk behind such a write
pub staged_more : (s t : State) (half : HalfStaged) (c d : List ℕ) (place : ℕ) (bs : List ℕ) → Goes s half place (length bs) → DATA + s.room ≤ length c → d ≡ put c place bs → Torn place (length bs) c d → t.current ≡ s.current → t.staged.sealed ≡ s.staged.sealed → ((before : List ℕ) → IsHalf s.staged half.file half.pages before → IsHalf t.staged half.file half.pages (before ++ bs)) → HasStaged s c → HasStaged t d
staged_more s t half c d place bs goes long is torn current sealed more has =
    let standing = half_standing s.room s half goes.kept goes.is in
    let begun : Holds half.hasher (bytes_so_far c half) = subst (λ (h : Option HalfStaged). IfSome h (IsBegun c)) goes.is has.begun in
    let count = so_far_long s.room c half long standing (omega (arith, goes.fits)) in
    let next = more (bytes_so_far c half) (record { half = half; is = goes.is; file_is = refl; pages_are = refl; count = sym count; holds = begun }) in
    let files : whole_stands t ≡ whole_stands s = ap (λ (k : _). stands k ++ stands t.staged.sealed) current ∙ ap (λ (k : _). stands s.current ++ stands k) sealed in
    let now : bytes_so_far d next.half ≡ bytes_so_far c half ++ bs =
    ap (λ (f : Listed). take next.half.count (bytes_here d (record { file = f; stand = Pages next.half.pages }))) next.file_is ∙ ap (λ (l : List ℕ). take next.half.count (bytes_here d (record { file = half.file; stand = Pages l }))) next.pages_are ∙ ap (λ (k : ℕ). take k (bytes_here d (half_at half))) (next.count ∙ length-append (bytes_so_far c half) bs ∙ ap (λ (k : ℕ). k + length bs) count) ∙ more_so_far s half c d place bs goes long is torn in
    record {
      whole = subst (All (IsWhole d)) (sym files) (whole_same s half c d place (length bs) goes torn has.whole);
      begun = subst (λ (h : Option HalfStaged). IfSome h (IsBegun d)) (sym next.is) (subst (Holds next.half.hasher) (sym now) next.holds);
    }
