-- The files of a new snapshot, chosen among those that are whole.
use Rattle.std.proofs.Common.{◌≡◌, ◌⊎◌, inl, inr, ℕ, zero, suc, ◌+◌, ◌-◌, ◌*◌, ◌/◌, ◌^◌, ◌<◌, ◌≤◌, ◌↔◌, ◌==◌, not, Bool, true, false, List, [], ◌∷◌, ◌++◌, length, get_or, take, drop, map, sum_by, Option, None, Some, MatchOption, IfSome, is_some, All, AllPairs, if◌then◌else◌, refl, sym, ◌∙◌, ap, subst, arith, length-append}
use Rattle.std.specs.List.{flat_map}
use Rattle.std.proofs.lemmas.Bool.{cases_eq, eq-eqb, ne_eqb}
use Rattle.std.proofs.lemmas.List.{append-nil, length-map}
use Rattle.std.proofs.lemmas.List.Elements.{All-append, All-cons}
use Rattle.std.proofs.lemmas.List.Kept.{AllPairs-cons}
use Rattle.md5.specs.Md5.{md5}
use Rattle.md5.proofs.StandardFacts.{length-md5}
use Rattle.sg_base.specs.declared.file.Listed.{Listed}
use Rattle.sg_base.specs.declared.limits.TheConstants.{MANIFEST_FILES, MANIFEST_TEXT, MAX_FILE_LEN}
use Rattle.sg_disk.specs.View.{View, range, Only}
use Rattle.sg_disk.specs.Runs.{HasOne}
use Rattle.sg_disk.specs.Contents.{Segment, Stand, StoredFile, Contents, IsInside, AreListed, page_at, taken_at, taken, parts_of, parts_at, parts, all_taken, switched}
use Rattle.sg_disk.specs.Contents.{Extent, Pages}
use Rattle.sg_disk.specs.StandsFor.{IsOpen, IsHeld, AreFiles, bytes_at, place_of}
use Rattle.sg_disk.specs.declared.places.TheConstants.{DATA, JOURNAL, PAGE}
use Rattle.sg_disk.proofs.Ranges.{length-range}
use Rattle.sg_disk.proofs.Extents.{inside_parts}
use Rattle.sg_disk.proofs.Writes.{one_stable}
use Rattle.sg_placing.specs.Placing.{placed_of}
use Rattle.sg_placing.specs.declared.placed.Placed.{Placed}
use Rattle.sg_placing.proofs.GapLemmas.{All-front}
use Rattle.sg_pages.specs.Pages.{needed}
use Rattle.sg_pages.specs.Maps.{map_bytes}
use Rattle.sg_pages.specs.Shelves.{FileAt, Shelved, IsFilled, pages_for, stand_in, stands_in, stands}
use Rattle.sg_pages.specs.declared.maps.TheConstants.{MAP_LEN}
use Rattle.sg_pages.proofs.PartLemmas.{AreWithin, size_of}
use Rattle.sg_slots.specs.Bytes.{head_fields, table_bytes}
use Rattle.sg_slots.specs.Slots.{opposite, slot_of}
use Rattle.sg_contents.specs.Lawful.{IsStored, IsSnapshot, IsLawful, AreBeside, pages_at, all_pages}
use Rattle.sg_contents.specs.StandsFor.{StandsFor, Settled}
use Rattle.sg_contents.proofs.Pairs.{pairs_front, pairs_head, pairs_tail, pairs_append}
use Rattle.sg_contents.proofs.Standing.{settled_read, settled_by, stands_long}
use Rattle.sg_soundness.specs.Shelved.{file_at_of}
use Rattle.sg_staging.specs.Staged.{HalfStaged, Staged, nothing_staged, half_stands, whole_files, stands_as, chosen, is_among, pages_of_files, IsStanding, AreApart, AreOthers, IsStagedIn}
use Rattle.sg_staging.proofs.ShelfLemmas.{stands_pages, pages_fit}
use Rattle.sg_staging.proofs.ChoiceLemmas.{Member, member, chosen_is, chosen_each, chosen_others}
use Rattle.sg_slots.specs.declared.slots.Slot.{Slot}
use Rattle.sg_switching.specs.Switching.{IsBesideSlot, HasSpare, IsNext, IsSwitched, placed_files}
use Rattle.sg_store_state.specs.State.{State, whole_stands, is_held}
use Rattle.sg_store_state.specs.Ready.{bytes_in, bytes_here, IsWhole, stored_file, stored_files, Knows, HasStaged, IsReady}
use Rattle.sg_store_state.proofs.OpenLemmas.{parts_here, staged_none}
use Rattle.sg_store_state.proofs.ReadLemmas.{parts_within}
use Rattle.sg_store_state.proofs.StageLemmas.{bytes_long, parts_long}

-- what a switch asks for
pub record Asks (s : State) (text : List ℕ) (listed : List Listed) : Type 0 where
  pub few : length listed ≤ MANIFEST_FILES
  pub ascending : AllPairs (λ f g. f.media.0 < g.media.0) listed
  pub held : All (λ f. is_held s f ≡ true) listed
  pub small : All (λ f. f.media.0 < 2 ^ 32) listed
  pub some : 1 ≤ length text
  pub long : length text ≤ MANIFEST_TEXT
  pub left : s.number ≡ 4294967295 → ⊥

-- a file as a table has it
abbrev pub placed_at_stand : FileAt → Placed
placed_at_stand f = record { file = f.file; place = place_of f.stand }

stands_files : (pages : List ℕ) (files : List Placed) → map placed_at_stand (stands_in pages files) ≡ files
stands_files pages [] = refl
stands_files pages (p ∷ files) =
    let one : place_of (stand_in pages p) ≡ p.place = by_place (p.place == 0) (cases_eq p.place 0) in
    ap (λ (n : ℕ). record { file = p.file; place = n } ∷ map placed_at_stand (stands_in (drop (pages_for p) pages) files)) one ∙ ap (λ (l : List Placed). p ∷ l) (stands_files (drop (pages_for p) pages) files)
  where
    by_place : (b : Bool) → (p.place ≡ 0) ⊎ (p.place ≡ 0 → ⊥) → place_of (if p.place == 0 then Pages (take (needed p.file.length) pages) else Extent p.place) ≡ p.place
    by_place b (inl none) = ap (λ (c : Bool). place_of (if c then Pages (take (needed p.file.length) pages) else Extent p.place)) (eq-eqb p.place 0 none) ∙ sym none
    by_place b (inr some) = ap (λ (c : Bool). place_of (if c then Pages (take (needed p.file.length) pages) else Extent p.place)) (ne_eqb p.place 0 some)

-- a chosen file is the listed one, where it stands
file_same : (files : List FileAt) (c : List ℕ) (f : Listed) (m : Member files f) → file_at_of (stored_file files c f) ≡ m.q
file_same files c f m = ap (λ (q : FileAt). with_file f q) (chosen_is files f m) ∙ ap (λ (g : Listed). with_file g m.q) (sym m.same)
  where
    with_file : Listed → FileAt → FileAt
    with_file g q = record { file = g; stand = q.stand }

pub chosen_same : (files : List FileAt) (c : List ℕ) (listed : List Listed) → All (λ f. is_some (stands_as files f) ≡ true) listed → map file_at_of (map (stored_file files c) listed) ≡ map (chosen files) listed
chosen_same files c [] held = refl
chosen_same files c (f ∷ listed) held =
    let m : Member files f = member files f (held zero f (omega arith)) in
    ap (λ (q : FileAt). q ∷ map file_at_of (map (stored_file files c) listed)) (file_same files c f m ∙ sym (chosen_is files f m)) ∙ ap (λ (l : List FileAt). chosen files f ∷ l) (chosen_same files c listed (λ k d lt. held (suc k) d (omega (arith, lt))))

-- a table and a map of the files on a shelf
placed_same : (files : List StoredFile) → map placed_at_stand (map file_at_of files) ≡ placed_files files
placed_same [] = refl
placed_same (f ∷ files) = ap (λ (l : List Placed). placed_of f ∷ l) (placed_same files)

pages_same : (files : List StoredFile) → pages_of_files (map file_at_of files) ≡ all_pages files
pages_same [] = refl
pages_same (f ∷ files) = ap (λ (l : List ℕ). pages_at f.stand ++ l) (pages_same files)

pub shelf_table : (next : Shelved) (files : List StoredFile) → stands next ≡ map file_at_of files → next.files ≡ placed_files files
shelf_table next files is = sym (stands_files next.pages next.files) ∙ ap (map placed_at_stand) is ∙ placed_same files

pub shelf_map : (next : Shelved) (files : List StoredFile) → IsFilled next → stands next ≡ map file_at_of files → next.pages ≡ all_pages files
shelf_map next files filled is = sym (stands_pages next.pages next.files filled) ∙ ap pages_of_files is ∙ pages_same files

-- what holds of each chosen file holds of the files of the snapshot
each_of : (P : FileAt → Type 0) (files : List StoredFile) → All P (map file_at_of files) → All (λ f. P (file_at_of f)) files
each_of P [] all = λ k d lt. absurd (omega (arith, lt))
each_of P (f ∷ files) all = All-cons (λ g. P (file_at_of g)) f files (all zero (file_at_of f) (omega arith)) (each_of P files (λ k d lt. all (suc k) d (omega (arith, lt))))

pairs_of : (R : FileAt → FileAt → Type 0) (files : List StoredFile) → AllPairs R (map file_at_of files) → AllPairs (λ f g. R (file_at_of f) (file_at_of g)) files
pairs_of R [] all = λ i j d lt below. absurd (omega (arith, below))
pairs_of R (f ∷ files) all = AllPairs-cons (λ g h. R (file_at_of g) (file_at_of h)) f files (each_of (R (file_at_of f)) files (pairs_head R (file_at_of f) (map file_at_of files) all)) (pairs_of R files (pairs_tail R (file_at_of f) (map file_at_of files) all))

-- no byte is taken twice
taken_cross : (f : StoredFile) (files : List StoredFile) → All (λ g. AreApart (file_at_of f) (file_at_of g)) files → All (λ x. All (AreBeside x) (all_taken files)) (taken f)
taken_cross f [] apart k d lt = λ i e below. absurd (omega (arith, below))
taken_cross f (g ∷ files) apart k d lt = All-append (AreBeside (get_or (taken f) k d)) (taken g) (all_taken files) (apart zero g (omega arith) k d lt) (taken_cross f files (λ i e below. apart (suc i) e (omega (arith, below))) k d lt)

taken_apart : (files : List StoredFile) → All (λ f. AllPairs AreBeside (taken f)) files → AllPairs (λ f g. AreApart (file_at_of f) (file_at_of g)) files → AllPairs AreBeside (all_taken files)
taken_apart [] own apart = λ i j d lt below. absurd (omega (arith, below))
taken_apart (f ∷ files) own apart = pairs_append AreBeside (taken f) (all_taken files) (own zero f (omega arith)) (taken_apart files (λ k d lt. own (suc k) d (omega (arith, lt))) (pairs_tail (λ (g h : StoredFile). AreApart (file_at_of g) (file_at_of h)) f files apart)) (taken_cross f files (pairs_head (λ (g h : StoredFile). AreApart (file_at_of g) (file_at_of h)) f files apart))

-- the listed rows of the files
listed_rows : (files : List FileAt) (c : List ℕ) (listed : List Listed) → map (λ f. f.listed) (map (stored_file files c) listed) ≡ listed
listed_rows files c [] = refl
listed_rows files c (f ∷ listed) = ap (λ (l : List Listed). f ∷ l) (listed_rows files c listed)

row_each : (P : Listed → Type 0) (files : List StoredFile) → All P (map (λ f. f.listed) files) → All (λ f. P f.listed) files
row_each P [] all = λ k d lt. absurd (omega (arith, lt))
row_each P (f ∷ files) all = All-cons (λ g. P g.listed) f files (all zero f.listed (omega arith)) (row_each P files (λ k d lt. all (suc k) d (omega (arith, lt))))

row_pairs : (R : Listed → Listed → Type 0) (files : List StoredFile) → AllPairs R (map (λ f. f.listed) files) → AllPairs (λ f g. R f.listed g.listed) files
row_pairs R [] all = λ i j d lt below. absurd (omega (arith, below))
row_pairs R (f ∷ files) all = AllPairs-cons (λ g h. R g.listed h.listed) f files (row_each (R f.listed) files (pairs_head R f.listed (map (λ g. g.listed) files) all)) (row_pairs R files (pairs_tail R f.listed (map (λ g. g.listed) files) all))

-- the files of a new snapshot, as the store and the disk have them
pub record Chosen (s : State) (c : List ℕ) (listed : List Listed) (files : List StoredFile) : Type 0 where
  pub same : map file_at_of files ≡ map (chosen (whole_stands s)) listed
  pub rows : map (λ f. f.listed) files ≡ listed
  pub standing : All (IsStanding s.room) (map file_at_of files)
  pub others : AllPairs AreOthers (map file_at_of files)
  pub whole : All (IsWhole c) (map file_at_of files)

pub chosen_now : (s : State) (c : List ℕ) (listed : List Listed) → IsStagedIn s.room s.current s.staged → HasStaged s c → AllPairs (λ f g. f.media.0 < g.media.0) listed → All (λ f. is_held s f ≡ true) listed → Chosen s c listed (stored_files s c listed)
chosen_now s c listed kept has up held =
    let whole : List FileAt = whole_stands s in
    let same = chosen_same whole c listed held in
    record {
      same = same;
      rows = listed_rows whole c listed;
      standing = subst (All (IsStanding s.room)) (sym same) (chosen_each (IsStanding s.room) whole listed (All-front (IsStanding s.room) whole (half_stands s.staged.half) kept.standing) held);
      others = subst (AllPairs AreOthers) (sym same) (chosen_others whole listed (pairs_front AreOthers whole (half_stands s.staged.half) kept.others) up held);
      whole = subst (All (IsWhole c)) (sym same) (chosen_each (IsWhole c) whole listed has.whole held);
    }

-- it is sound
pub snapshot_of : (room number : ℕ) (s : State) (c text : List ℕ) (listed : List Listed) (files : List StoredFile) → s.room ≡ room → (1 ≤ number) × (number < 2 ^ 32) → Asks s text listed → Chosen s c listed files → IsSnapshot room number text files
snapshot_of room number s c text listed files at numbered asks are =
    let all : All (IsStanding room) (map file_at_of files) = subst (λ (n : ℕ). All (IsStanding n) (map file_at_of files)) at are.standing in
    let each : All (λ f. IsStanding room (file_at_of f)) files = each_of (IsStanding room) files all in
    let whole : All (λ f. IsWhole c (file_at_of f)) files = each_of (IsWhole c) files are.whole in
    let small : All (λ f. f.listed.media.0 < 2 ^ 32) files = row_each (λ f. f.media.0 < 2 ^ 32) files (subst (All (λ f. f.media.0 < 2 ^ 32)) (sym are.rows) asks.small) in
    record {
      numbered = numbered;
      long = (asks.some, asks.long);
      listed = record {
        few = omega (arith, asks.few, ap (λ (l : List Listed). length l) are.rows, length-map files (λ (f : StoredFile). f.listed));
        ids = λ k d lt. ((each k d lt).media, small k d lt);
        ascending = row_pairs (λ f g. f.media.0 < g.media.0) files (subst (AllPairs (λ f g. f.media.0 < g.media.0)) (sym are.rows) asks.ascending);
        lengths = λ k d lt. (each k d lt).long;
        digests = λ k d lt. ap (λ (l : List ℕ). length l) (sym (whole k d lt)) ∙ length-md5 (bytes_here c (file_at_of (get_or files k d)));
      };
      stored = λ k d lt. (each k d lt).stored;
      inside = λ k d lt. (each k d lt).inside;
      apart = taken_apart files (λ k d lt. (each k d lt).apart) (λ i j d lt below. (pairs_of AreOthers files are.others i j d lt below).apart);
      few_pages = subst (λ (l : List ℕ). length l ≤ room / PAGE) (pages_same files) (pages_fit room (map file_at_of files) all are.others);
    }

-- the disk holds its files
part_long : (room : ℕ) (c : List ℕ) (f : FileAt) → DATA + room ≤ length c → IsStanding room f → length (bytes_here c f) ≡ f.file.length
part_long room c f long standing = by_stand f.stand standing.stored standing.inside
  where
    n : ℕ
    n = f.file.length

    by_stand : (stand : Stand) → ((pages : List ℕ) → stand ≡ Pages pages → length pages ≡ needed f.file.length) → All (IsInside room) (taken_at f.file.length stand) → length (bytes_in c (parts_at f.file.length stand)) ≡ f.file.length
    by_stand (Extent place) stored inside =
        let here : IsInside room (record { place = place; size = f.file.length }) = inside 0 (record { place = place; size = f.file.length }) (omega arith) in
        ap (λ (l : List ℕ). length l) (append-nil (range c place f.file.length)) ∙ length-range c place f.file.length (omega (arith, here.1, long))
    by_stand (Pages pages) stored inside =
        bytes_long c (parts_of f.file.length pages) (parts_within room (length c) (parts_of f.file.length pages) long (inside_parts room (record { listed = f.file; stand = Pages pages; bytes = [] }) inside)) ∙ parts_long f.file.length pages (stored pages refl)

pub held_of : (room : ℕ) (s : State) (c : List ℕ) (listed : List Listed) → DATA + room ≤ length c → s.room ≡ room → Chosen s c listed (stored_files s c listed) → All (λ f. is_held s f ≡ true) listed → AreFiles (stored_files s c listed) (range c DATA room)
held_of room s c listed long at are held =
    let files : List StoredFile = stored_files s c listed in
    let all = subst (λ (n : ℕ). All (IsStanding n) (map file_at_of files)) at are.standing in
    let each : All (λ f. IsStanding room (file_at_of f)) files = each_of (IsStanding room) files all in
    let whole : All (λ f. IsWhole c (file_at_of f)) files = each_of (IsWhole c) files are.whole in
    let bytes : All (λ f. f.bytes ≡ bytes_here c (file_at_of f)) files = bytes_of (whole_stands s) c listed held in
    λ k d lt.
    let f : StoredFile = get_or files k d in
    let here : bytes_here c (file_at_of f) ≡ bytes_at (range c DATA room) (parts f) = parts_here room c (parts f) (inside_parts room f (each k d lt).inside) in
    record {
      there = sym here ∙ sym (bytes k d lt);
      long = ap (λ (l : List ℕ). length l) (bytes k d lt) ∙ part_long room c (file_at_of f) long (each k d lt);
      digest = ap md5 (bytes k d lt) ∙ whole k d lt;
    }
  where
    one_bytes : (files : List FileAt) (c : List ℕ) (f : Listed) (m : Member files f) → (stored_file files c f).bytes ≡ bytes_here c (file_at_of (stored_file files c f))
    one_bytes files c f m = ap (bytes_here c) (chosen_is files f m) ∙ sym (ap (bytes_here c) (file_same files c f m))

    bytes_of : (files : List FileAt) (c : List ℕ) (listed : List Listed) → All (λ f. is_some (stands_as files f) ≡ true) listed → All (λ f. f.bytes ≡ bytes_here c (file_at_of f)) (map (stored_file files c) listed)
    bytes_of files c [] held = λ k d lt. absurd (omega (arith, lt))
    bytes_of files c (f ∷ listed) held = All-cons (λ g. g.bytes ≡ bytes_here c (file_at_of g)) (stored_file files c f) (map (stored_file files c) listed) (one_bytes files c f (member files f (held zero f (omega arith)))) (bytes_of files c listed (λ k d lt. held (suc k) d (omega (arith, lt))))

-- the number of lawful contents fits its field
number_in : (room number : ℕ) (text : Option (List ℕ)) (files : List StoredFile) → MatchOption text ((number ≡ 0) × (files ≡ [])) (λ t. IsSnapshot room number t files) → number < 2 ^ 32
number_in room number None files none = omega (arith, none.0)
number_in room number (Some t) files snapshot = snapshot.numbered.1

lawful_switched : (p : Contents) (text : List ℕ) (files : List StoredFile) → IsSnapshot p.room (p.number + 1) text files → IsLawful p → IsLawful (switched p text files)
lawful_switched p text files snapshot lawful = record {
  display = lawful.display;
  epoch = lawful.epoch;
  room = lawful.room;
  snapshot = snapshot;
  plays = lawful.plays;
  few = lawful.few;
  floor = lawful.floor;
}

-- what a switch writes is that of a snapshot that may follow
pub next_of : (v : View) (s : State) (p : Contents) (text : List ℕ) (listed : List Listed) (next : Shelved) (head table map_is : List ℕ) → IsReady v s p → IsStagedIn s.room s.current s.staged → Asks s text listed → IsFilled next → stands next ≡ map (chosen (whole_stands s)) listed → head ≡ head_fields (s.number + 1) (length text) (length listed) → table ≡ table_bytes next.files → map_is ≡ map_bytes next.pages → IsNext v p (stored_files s v.bytes listed) head table text map_is
next_of v s p text listed next head table map_is ready kept asks filled stand head_is table_is map_as =
    let c : List ℕ = v.bytes in
    let F : List StoredFile = stored_files s c listed in
    let standing = settled_read v p ready.settled in
    let are = chosen_now s c listed kept ready.staged asks.ascending asks.held in
    let shelf : stands next ≡ map file_at_of F = stand ∙ sym are.same in
    let fits = number_in p.room p.number p.text p.files standing.lawful.snapshot in
    let small : p.number + 1 < 2 ^ 32 = omega (arith, fits, asks.left, ready.knows.number) in
    let snapshot = snapshot_of p.room (p.number + 1) s c text listed F ready.knows.room (omega arith, small) asks are in
    record {
      head_is = head_is ∙ ap (λ (n : ℕ). head_fields (n + 1) (length text) (length listed)) ready.knows.number ∙ ap (λ (n : ℕ). head_fields (p.number + 1) (length text) n) (sym (length-map listed (stored_file (whole_stands s) c)));
      table_is = table_is ∙ ap table_bytes (shelf_table next F shelf);
      map_is = map_as ∙ ap map_bytes (shelf_map next F filled shelf);
      held = held_of p.room s c listed (stands_long p c standing) ready.knows.room are asks.held;
      lawful = lawful_switched p text F snapshot standing.lawful;
    }

pub spare_of : (v : View) (s : State) (p : Contents) → IsReady v s p → HasSpare v s.spare s.spare_open p
spare_of v s p ready = record {
  settled = ready.settled;
  front = ready.front;
  maps = ready.maps;
  format = ready.format;
  slot = ready.knows.slot;
  gate = ready.knows.gate;
}

-- the store after a switch
pub record TakesOver (s t : State) (text : List ℕ) (next : Shelved) : Type 0 where
  pub display : t.display ≡ s.display
  pub epoch : t.epoch ≡ s.epoch
  pub room : t.room ≡ s.room
  pub number : t.number ≡ s.number + 1
  pub text_is : t.text ≡ length text
  pub current : t.current ≡ next
  pub staged : t.staged ≡ nothing_staged
  pub spare : t.spare ≡ opposite s.spare
  pub gate : t.spare_open ≡ not (s.number == 0)

pub ready_switched : (v x : View) (s t : State) (p : Contents) (text : List ℕ) (listed : List Listed) (next : Shelved) → IsReady v s p → IsStagedIn s.room s.current s.staged → Asks s text listed → stands next ≡ map (chosen (whole_stands s)) listed → IsSwitched x s.spare p text (stored_files s v.bytes listed) → TakesOver s t text next → IsReady x t (switched p text (stored_files s v.bytes listed))
ready_switched v x s t p text listed next ready kept asks stand switched_is takes =
    let F : List StoredFile = stored_files s v.bytes listed in
    let q : Contents = switched p text F in
    let are = chosen_now s v.bytes listed kept ready.staged asks.ascending asks.held in
    let files : stands t.current ≡ map file_at_of F = ap stands takes.current ∙ stand ∙ sym are.same in
    let gate = subst (λ (y : Slot). (not (p.number == 0) ≡ true) ↔ IsOpen (slot_of y x.bytes)) (sym takes.spare) switched_is.gate in
    record {
      settled = settled_by x x.bytes q switched_is.told switched_is.only switched_is.standing;
      front = one_stable 0 JOURNAL x switched_is.only;
      maps = one_stable (DATA + p.room) (2 * MAP_LEN) x switched_is.only;
      format = switched_is.format;
      knows = record {
        display = takes.display ∙ ready.knows.display;
        epoch = takes.epoch ∙ ready.knows.epoch;
        room = takes.room ∙ ready.knows.room;
        number = takes.number ∙ ap (λ (n : ℕ). n + 1) ready.knows.number;
        text = takes.text_is;
        files = files;
        slot = subst (λ (y : Slot). IsBesideSlot y q x.bytes) (sym takes.spare) switched_is.slot;
        gate = subst (λ (b : Bool). (b ≡ true) ↔ IsOpen (slot_of t.spare x.bytes)) (sym (takes.gate ∙ ap (λ (n : ℕ). not (n == 0)) ready.knows.number)) gate;
      };
      staged = staged_none t q x.bytes files takes.staged switched_is.standing.lawful switched_is.standing.files;
    }
