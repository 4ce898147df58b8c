-- A file of the snapshot that is found by its id.
use Rattle.std.proofs.Common.{◌≡◌, inl, inr, ℕ, zero, suc, ◌+◌, ◌*◌, ◌/◌, ◌%◌, ◌<◌, ◌≤◌, ◌^◌, ◌==◌, eqb, ◌&&◌, Bool, true, false, cond, if◌then◌else◌, List, [], ◌∷◌, ◌++◌, length, get_or, take, drop, map, find, Option, None, Some, MatchOption, IsSomeAnd, option_map, All, AllPairs, Contains, refl, sym, ◌∙◌, ap, subst, arith}
use Rattle.std.proofs.lemmas.List.{length-map, get_or-map}
use Rattle.std.specs.Cmp.Lexicographic.{pointwise}
use Rattle.std.proofs.lemmas.Bool.{cases_Bool, cases_eq, cases_lt, eq-eqb, ne_eqb, eqb-true, true≢false, and_from}
use Rattle.std.proofs.lemmas.Slice.Eq.{bytes_eq-Decides}
use Rattle.sg_base.specs.declared.file.Listed.{Listed}
use Rattle.sg_base.specs.declared.limits.TheConstants.{MAX_ROOM}
use Rattle.sg_disk.specs.View.{range}
use Rattle.sg_disk.specs.Contents.{Stand, StoredFile, Contents, IsInside, page_at, taken, taken_at}
use Rattle.sg_disk.specs.Contents.{Extent, Pages}
use Rattle.sg_disk.specs.StandsFor.{IsHeld}
use Rattle.sg_disk.specs.declared.places.TheConstants.{DATA, PAGE}
use Rattle.sg_disk.proofs.Parts.{range_none}
use Rattle.sg_placing.specs.Placing.{same_file}
use Rattle.sg_placing.specs.declared.placed.Placed.{Placed}
use Rattle.sg_placing.proofs.GapLemmas.{All-front}
use Rattle.sg_pages.specs.Pages.{needed}
use Rattle.sg_pages.specs.Shelves.{FileAt, Shelved, stand_in, stands_in, stands, pages_for, byte_place, found_at}
use Rattle.sg_pages.specs.declared.shelf.Found.{Found}
use Rattle.sg_contents.specs.Lawful.{IsSnapshot, IsStored}
use Rattle.sg_contents.specs.StandsFor.{StandsFor}
use Rattle.sg_contents.proofs.Pairs.{all_map}
use Rattle.sg_contents.proofs.Standing.{lawful_inside, stands_long}
use Rattle.sg_soundness.specs.Shelved.{file_at_of}
use Rattle.sg_staging.specs.Staged.{Staged, half_stands, whole_files, IsStanding, IsStagedIn}
use Rattle.sg_store_state.specs.State.{State}
use Rattle.sg_store_state.specs.Ready.{Knows}
use Rattle.sg_store_state.proofs.ReadLemmas.{file_bytes}

same_self : (a : Listed) → same_file a a ≡ true
same_self a = and_from (eqb a.media.0 a.media.0) (eqb a.length a.length && pointwise eqb a.md5 a.md5) (eq-eqb a.media.0 a.media.0 refl) (and_from (eqb a.length a.length) (pointwise eqb a.md5 a.md5) (eq-eqb a.length a.length refl) ((bytes_eq-Decides a.md5 a.md5).1 refl))

-- what was found has the id
found_media : (m : ℕ) (files : List Placed) (q : Placed) → find (λ p. p.file.media.0 == m) files ≡ Some q → q.file.media.0 ≡ m
found_media m [] q is = cc
found_media m (p ∷ files) q is = elim (cases_Bool (p.file.media.0 == m)) [
  | inl here ↦
      let one : Some p ≡ Some q = sym (ap (λ (b : Bool). cond b (Some p) (find (λ (x : Placed). x.file.media.0 == m) files)) here) ∙ is in
      let same : p ≡ q = cc in
      sym (ap (λ (x : Placed). x.file.media.0) same) ∙ eqb-true p.file.media.0 m here
  | inr other ↦ found_media m files q (sym (ap (λ (b : Bool). cond b (Some p) (find (λ (x : Placed). x.file.media.0 == m) files)) other) ∙ is)
]

other_self : (a b : Listed) → (a.media.0 == b.media.0) ≡ false → same_file a b ≡ false
other_self a b other = ap (λ (x : Bool). x && (eqb a.length b.length && pointwise eqb a.md5 b.md5)) other

-- the file of an id, as it is found by its row
pub by_media : (m : ℕ) (pages : List ℕ) (files : List Placed) (q : Placed) → find (λ p. p.file.media.0 == m) files ≡ Some q → find (λ f. same_file f.file q.file) (stands_in pages files) ≡ find (λ f. f.file.media.0 == m) (stands_in pages files)
by_media m pages [] q is = refl
by_media m pages (p ∷ files) q is =
    let f : FileAt = record { file = p.file; stand = stand_in pages p } in
    let rest : List FileAt = stands_in (drop (pages_for p) pages) files in
    elim (cases_Bool (p.file.media.0 == m)) [
      | inl here ↦
          let one : Some p ≡ Some q = sym (ap (λ (b : Bool). cond b (Some p) (find (λ (x : Placed). x.file.media.0 == m) files)) here) ∙ is in
          let same : p ≡ q = cc in
          let row : same_file p.file q.file ≡ true = ap (λ (x : Placed). same_file p.file x.file) (sym same) ∙ same_self p.file in
          ap (λ (b : Bool). cond b (Some f) (find (λ (x : FileAt). same_file x.file q.file) rest)) row ∙ sym (ap (λ (b : Bool). cond b (Some f) (find (λ (x : FileAt). x.file.media.0 == m) rest)) here)
      | inr other ↦
          let later : find (λ (x : Placed). x.file.media.0 == m) files ≡ Some q = sym (ap (λ (b : Bool). cond b (Some p) (find (λ (x : Placed). x.file.media.0 == m) files)) other) ∙ is in
          let differ : (p.file.media.0 == q.file.media.0) ≡ false = ap (λ (n : ℕ). p.file.media.0 == n) (found_media m files q later) ∙ other in
          ap (λ (b : Bool). cond b (Some f) (find (λ (x : FileAt). same_file x.file q.file) rest)) (other_self p.file q.file differ) ∙ by_media m (drop (pages_for p) pages) files q later ∙ sym (ap (λ (b : Bool). cond b (Some f) (find (λ (x : FileAt). x.file.media.0 == m) rest)) other)
    ]

-- a file that was found is one of the list
pub member_of : (test : FileAt → Bool) (files : List FileAt) (f : FileAt) → find test files ≡ Some f → (k : ℕ) × (k < length files) × ((d : FileAt) → get_or files k d ≡ f) × (test f ≡ true)
member_of test [] f is = cc
member_of test (p ∷ files) f is = elim (cases_Bool (test p)) [
  | inl here ↦
      let one : Some p ≡ Some f = sym (ap (λ (b : Bool). cond b (Some p) (find test files)) here) ∙ is in
      let same : p ≡ f = cc in
      (0, omega arith, λ d. same, sym (ap test same) ∙ here)
  | inr other ↦
      let m = member_of test files f (sym (ap (λ (b : Bool). cond b (Some p) (find test files)) other) ∙ is) in
      (suc m.0, omega (arith, m.1), m.2, m.3)
]

-- a file that stands where one was found by its id
abbrev pub HasId : ℕ → FileAt → Bool
HasId m f = f.file.media.0 == m

by_files : (m : ℕ) (pages : List ℕ) (files : List Placed) (q : Placed) → find (λ p. p.file.media.0 == m) files ≡ Some q → (f : FileAt) × (find (HasId m) (stands_in pages files) ≡ Some f) × (f.file ≡ q.file)
by_files m pages [] q is = cc
by_files m pages (p ∷ files) q is =
    let f : FileAt = record { file = p.file; stand = stand_in pages p } in
    let rest : List FileAt = stands_in (drop (pages_for p) pages) files in
    elim (cases_Bool (p.file.media.0 == m)) [
      | inl here ↦
          let one : Some p ≡ Some q = sym (ap (λ (b : Bool). cond b (Some p) (find (λ (x : Placed). x.file.media.0 == m) files)) here) ∙ is in
          let same : p ≡ q = cc in
          (f, ap (λ (b : Bool). cond b (Some f) (find (HasId m) rest)) here, ap (λ (x : Placed). x.file) same)
      | inr other ↦
          let later = by_files m (drop (pages_for p) pages) files q (sym (ap (λ (b : Bool). cond b (Some p) (find (λ (x : Placed). x.file.media.0 == m) files)) other) ∙ is) in
          (later.0, ap (λ (b : Bool). cond b (Some f) (find (HasId m) rest)) other ∙ later.1, later.2)
    ]

-- a file of a snapshot that has an id
pub record OnShelf (room m : ℕ) (current : Shelved) (q : Placed) : Type 0 where
  pub here : FileAt
  pub found : find (HasId m) (stands current) ≡ Some here
  pub file : here.file ≡ q.file
  pub standing : IsStanding room here

pub on_shelf : (room m : ℕ) (current : Shelved) (s : Staged) (q : Placed) → IsStagedIn room current s → find (λ p. p.file.media.0 == m) current.files ≡ Some q → OnShelf room m current q
on_shelf room m current s q kept is =
    let f = by_files m current.pages current.files q is in
    let at = member_of (HasId m) (stands current) f.0 f.1 in
    let whole = All-front (IsStanding room) (stands current) (stands s.sealed) (All-front (IsStanding room) (whole_files current s) (half_stands s.half) kept.standing) in
    record { here = f.0; found = f.1; file = f.2; standing = subst (IsStanding room) (at.2 f.0) (whole at.0 f.0 at.1) }

-- a file that a condition names
pub some_placed : (o : Option Placed) (P : Placed → Type 0) → IsSomeAnd o P → (q : Placed) × (o ≡ Some q) × P q
some_placed None P none = absurd none
some_placed (Some q) P holds = (q, refl, holds)

-- what is found by the row of that file is that file
pub found_here : (room m : ℕ) (current : Shelved) (q : Placed) (answer : Option Found) → find (λ p. p.file.media.0 == m) current.files ≡ Some q → (on : OnShelf room m current q) → option_map (found_at current.pages) answer ≡ find (λ f. same_file f.file q.file) (stands current) → option_map (found_at current.pages) answer ≡ Some on.here
found_here room m current q answer is on found = found ∙ by_media m current.pages current.files q is ∙ on.found

pub one_found : (current : Shelved) (found : Found) (f : FileAt) → option_map (found_at current.pages) (Some found) ≡ Some f → found_at current.pages found ≡ f
one_found current found f is = cc

-- its place and its length fit
pub place_fits : (room : ℕ) (pages : List ℕ) (found : Found) → room ≤ MAX_ROOM → IsStanding room (found_at pages found) → found.placed.place + found.placed.file.length < 2 ^ 64
place_fits room pages found small standing = elim (cases_eq found.placed.place 0) [
  | inl none ↦ omega (arith, none, standing.long.1)
  | inr some ↦
      let here : IsInside room (record { place = found.placed.place; size = found.placed.file.length }) = in_range (found.placed.place == 0) (ne_eqb found.placed.place 0 some) standing.inside in
      omega (arith, here.1, small)
]
  where
    in_range : (b : Bool) → b ≡ false → All (IsInside room) (taken_at found.placed.file.length (if b then Pages (take (needed found.placed.file.length) (drop found.first pages)) else Extent found.placed.place)) → IsInside room (record { place = found.placed.place; size = found.placed.file.length })
    in_range true is inside = absurd (true≢false is)
    in_range false is inside = inside 0 (record { place = found.placed.place; size = found.placed.file.length }) (omega arith)

-- bytes inside one page of a file lie in the data area
pub stand_inside : (room : ℕ) (f : FileAt) (offset n : ℕ) → IsStanding room f → 1 ≤ n → offset + n ≤ f.file.length → offset % PAGE + n ≤ PAGE → byte_place f.stand offset + n ≤ DATA + room
stand_inside room f offset n standing some fits row = by_stand f.stand standing.stored standing.inside
  where
    by_stand : (stand : Stand) → ((pages : List ℕ) → stand ≡ Pages pages → length pages ≡ needed f.file.length) → All (IsInside room) (taken_at f.file.length stand) → byte_place stand offset + n ≤ DATA + room
    by_stand (Extent place) stored inside =
        let one : IsInside room (record { place = place; size = f.file.length }) = inside 0 (record { place = place; size = f.file.length }) (omega arith) in
        omega (arith, one.1, fits)
    by_stand (Pages pages) stored inside =
        let long : length pages ≡ needed f.file.length = stored pages refl in
        let at : offset / PAGE < length pages = grind (arith, long, fits, some) in
        let one : IsInside room (page_at (get_or pages (offset / PAGE) 0)) = all_map (IsInside room) page_at pages inside (offset / PAGE) 0 at in
        omega (arith, one.1, row)

-- the files of contents are by ascending id, and each has the pages that it needs
ascending_in : (room number : ℕ) (text : Option (List ℕ)) (files : List StoredFile) → MatchOption text ((number ≡ 0) × (files ≡ [])) (λ t. IsSnapshot room number t files) → AllPairs (λ f g. f.listed.media.0 < g.listed.media.0) files × All IsStored files
ascending_in room number None files none = subst (λ (l : List StoredFile). AllPairs (λ f g. f.listed.media.0 < g.listed.media.0) l × All IsStored l) (sym none.1) (λ i j d lt below. absurd (omega (arith, below)), λ k d lt. absurd (omega (arith, lt)))
ascending_in room number (Some t) files snapshot = (snapshot.listed.ascending, snapshot.stored)

same_place : (files : List StoredFile) (i j : ℕ) (d : StoredFile) → AllPairs (λ f g. f.listed.media.0 < g.listed.media.0) files → i < length files → j < length files → (get_or files i d).listed.media.0 ≡ (get_or files j d).listed.media.0 → i ≡ j
same_place files i j d up near far same = elim (cases_lt i j) [
  | inl before ↦ absurd (omega (arith, up i j d before far, same))
  | inr later ↦ elim (cases_lt j i) [
    | inl behind ↦ absurd (omega (arith, up j i d behind near, same))
    | inr within ↦ omega (arith, later, within)
  ]
]

-- the bytes that are read are those of the contents
pub contents_bytes : (m offset n : ℕ) (c : List ℕ) (s : State) (p : Contents) (f : StoredFile) (g : FileAt) → StandsFor p c → Knows s p c → find (HasId m) (stands s.current) ≡ Some g → Contains p.files f → f.listed.media.0 ≡ m → 1 ≤ n → offset + n ≤ g.file.length → offset % PAGE + n ≤ PAGE → range c (byte_place g.stand offset) n ≡ range f.bytes offset n
contents_bytes m offset n c s p f g standing knows found has id some fits row =
    let at = member_of (HasId m) (stands s.current) g found in
    let j : ℕ = has.0 in
    let here : get_or p.files j f ≡ f = has.2 in
    let k : ℕ = at.0 in
    let near : k < length p.files = omega (arith, at.1, ap length knows.files, length-map p.files file_at_of) in
    let g_is : g ≡ file_at_of (get_or p.files k f) = sym (at.2 g) ∙ ap (λ (l : List FileAt). get_or l k g) knows.files ∙ get_or-map file_at_of p.files k f g near in
    let g_id : g.file.media.0 ≡ m = eqb-true g.file.media.0 m at.3 in
    let ids : (get_or p.files k f).listed.media.0 ≡ (get_or p.files j f).listed.media.0 = ap (λ (x : FileAt). x.file.media.0) (sym g_is) ∙ g_id ∙ sym id ∙ ap (λ (x : StoredFile). x.listed.media.0) (sym here) in
    let both = ascending_in p.room p.number p.text p.files standing.lawful.snapshot in
    let same : k ≡ j = same_place p.files k j f both.0 near has.1 ids in
    let is : g ≡ file_at_of f = g_is ∙ ap (λ (i : ℕ). file_at_of (get_or p.files i f)) same ∙ ap file_at_of here in
    let held : IsHeld (range c DATA p.room) f = subst (IsHeld (range c DATA p.room)) here (standing.files j f has.1) in
    let inside : All (IsInside p.room) (taken f) = subst (λ (x : StoredFile). All (IsInside p.room) (taken x)) here (lawful_inside p standing.lawful j f has.1) in
    let stored : IsStored f = subst IsStored here (both.1 j f has.1) in
    let long : offset + n ≤ f.listed.length = omega (arith, fits, ap (λ (x : FileAt). x.file.length) is) in
    ap (λ (x : FileAt). range c (byte_place x.stand offset) n) is ∙ file_bytes p.room c f offset n (stands_long p c standing) stored inside held (omega (arith, some)) long (λ pages paged. row)

-- no bytes
pub none_read : (into bytes : List ℕ) (offset : ℕ) → length into ≡ 0 → into ≡ range bytes offset (length into)
none_read [] bytes offset none = sym (range_none bytes offset)
none_read (x ∷ into) bytes offset none = absurd (omega (arith, none))
