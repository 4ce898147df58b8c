-- The entries of a table, one by one.
use Rattle.std.proofs.Common.{◌≡◌, ℕ, ◌+◌, ◌*◌, ◌/◌, ◌<◌, ◌≤◌, nat_lt, nat_le, ◌&&◌, Bool, true, false, List, [], ◌∷◌, ◌++◌, drop, sum_by, None, Some, if◌then◌else◌, All, refl, sym, ◌∙◌, ap, subst, arith, add-one}
use Rattle.std.proofs.lemmas.Bool.{ltb-true, and_parts}
use Rattle.std.proofs.lemmas.List.{drop_more, at_drop_all}
use Rattle.std.proofs.lemmas.List.Elements.{All-nil, All-push}
use Rattle.std.proofs.lemmas.List.Quantifiers.{all_pairs_push}
use Rattle.std.proofs.lemmas.List.Sums.{sum_by-append, sum_by-cons}
use Rattle.sg_base.specs.declared.limits.TheConstants.{MAX_FILE_LEN}
use Rattle.sg_disk.specs.declared.places.TheConstants.{ENTRY_LEN, PAGE}
use Rattle.sg_placing.specs.Placing.{AreAscending}
use Rattle.sg_placing.specs.declared.placed.Placed.{Placed}
use Rattle.sg_pages.specs.Shelves.{Shelved, pages_for, IsPlacedIn}
use Rattle.sg_slots.specs.Bytes.{placed_at, entries_of}
use Rattle.sg_slots.proofs.SlotLemmas.{length-entries, get_or-entries, damage_at}
use Rattle.sg_paged_slots.specs.PagedDamage.{has_room, is_file_entry, files_damage}

-- how far the reading of a table has come
pub record ReadsFiles (room place count : ℕ) (table : List ℕ) (i before pages : ℕ) (files : Shelved) : Type 0 where
  pub files_are : files.files ≡ entries_of table i
  pub none : files.pages ≡ []
  pub damage : files_damage room place 0 [] (entries_of table count) ≡ files_damage room (place + ENTRY_LEN * i) before (entries_of table i) (drop i (entries_of table count))
  pub pages_are : pages ≡ sum_by pages_for files.files
  pub fit : pages ≤ room / PAGE
  pub placed : All (IsPlacedIn room) files.files
  pub low : All (λ p. p.file.media.0 ≤ before) files.files
  pub ascending : AreAscending files.files

pub reads_files_none : (room place count : ℕ) (table : List ℕ) (files : Shelved) → files ≡ record { files = []; pages = [] } → ReadsFiles room place count table 0 0 0 files
reads_files_none room place count table files is =
    let Start : Shelved → Type 0 = λ s. ReadsFiles room place count table 0 0 0 s in
    let at : place ≡ place + ENTRY_LEN * 0 = omega arith in
    subst Start (sym is) (record {
      files_are = refl;
      none = refl;
      damage = ap (λ (p : ℕ). files_damage room p 0 [] (entries_of table count)) at;
      pages_are = refl;
      fit = omega arith;
      placed = All-nil (IsPlacedIn room);
      low = All-nil (λ (p : Placed). p.file.media.0 ≤ 0);
      ascending = λ i j d lt below. absurd (omega (arith, below));
    })

-- what the check of entry i says of the whole
files_step : (room place count : ℕ) (table : List ℕ) (i before pages : ℕ) (files : Shelved) (p : Placed) → i < count → p ≡ placed_at table (ENTRY_LEN * i) → ReadsFiles room place count table i before pages files
    → files_damage room place 0 [] (entries_of table count) ≡ (if is_file_entry room before files.files p then files_damage room (place + ENTRY_LEN * i + ENTRY_LEN) p.file.media.0 (files.files ++ p ∷ []) (drop (i + 1) (entries_of table count)) else Some (damage_at (place + ENTRY_LEN * i) p.file.media.0))
files_step room place count table i before pages files p lt is so_far =
    let all : List Placed = entries_of table count in
    let here : drop i all ≡ p ∷ drop (i + 1) all = drop_more all i p (omega (arith, lt, length-entries table count)) ∙ ap (λ (q : Placed). q ∷ drop (i + 1) all) (get_or-entries table count i p lt ∙ sym is) in
    so_far.damage ∙ ap (λ (l : List Placed). files_damage room (place + ENTRY_LEN * i) before (entries_of table i) l) here ∙ ap (λ (e : List Placed). files_damage room (place + ENTRY_LEN * i) before e (p ∷ drop (i + 1) all)) (sym so_far.files_are)

-- a sound entry has a medium above the one before
above : (room before : ℕ) (earlier : List Placed) (p : Placed) → is_file_entry room before earlier p ≡ true → before < p.file.media.0
above room before earlier p sound = ltb-true before p.file.media.0 (and_parts (nat_lt before p.file.media.0) (nat_le 1 p.file.length && (nat_le p.file.length MAX_FILE_LEN && has_room room earlier p)) sound).0

pub reads_files_more : (room place count : ℕ) (table : List ℕ) (i before pages next : ℕ) (files new : Shelved) (p : Placed) → i < count → p ≡ placed_at table (ENTRY_LEN * i) → is_file_entry room before files.files p ≡ true → next ≡ pages + pages_for p → next ≤ room / PAGE → IsPlacedIn room p → new ≡ record { files = files.files ++ p ∷ []; pages = files.pages ++ [] } → ReadsFiles room place count table i before pages files → ReadsFiles room place count table (i + 1) p.file.media.0 next new
reads_files_more room place count table i before pages next files new p lt is sound more fit placed pushed so_far =
    let at : place + ENTRY_LEN * i + ENTRY_LEN ≡ place + ENTRY_LEN * (i + 1) = omega arith in
    let entries : files.files ++ p ∷ [] ≡ entries_of table (i + 1) = ap (λ (l : List Placed). l ++ p ∷ []) so_far.files_are ∙ ap (λ (q : Placed). entries_of table i ++ q ∷ []) is ∙ ap (entries_of table) (sym (add-one i)) in
    let higher : before < p.file.media.0 = above room before files.files p sound in
    let New : Shelved → Type 0 = λ s. ReadsFiles room place count table (i + 1) p.file.media.0 next s in
    subst New (sym pushed) (record {
      files_are = entries;
      none = ap (λ (l : List ℕ). l ++ []) so_far.none;
      damage = files_step room place count table i before pages files p lt is so_far ∙ ap (λ (b : Bool). if b then files_damage room (place + ENTRY_LEN * i + ENTRY_LEN) p.file.media.0 (files.files ++ p ∷ []) (drop (i + 1) (entries_of table count)) else Some (damage_at (place + ENTRY_LEN * i) p.file.media.0)) sound ∙ ap (λ (k : ℕ). files_damage room k p.file.media.0 (files.files ++ p ∷ []) (drop (i + 1) (entries_of table count))) at ∙ ap (λ (l : List Placed). files_damage room (place + ENTRY_LEN * (i + 1)) p.file.media.0 l (drop (i + 1) (entries_of table count))) entries;
      pages_are = more ∙ omega (arith, so_far.pages_are, sum_by-append pages_for files.files (p ∷ []), sum_by-cons pages_for p []);
      fit = fit;
      placed = All-push (IsPlacedIn room) files.files p so_far.placed placed;
      low = All-push (λ q. q.file.media.0 ≤ p.file.media.0) files.files p (λ k d below. omega (arith, so_far.low k d below, higher)) (omega arith);
      ascending = all_pairs_push (λ q r. q.file.media.0 < r.file.media.0) files.files p so_far.ascending (λ k d below. omega (arith, so_far.low k d below, higher));
    })

pub reads_files_refused : (room place count : ℕ) (table : List ℕ) (i before pages : ℕ) (files : Shelved) (p : Placed) → i < count → p ≡ placed_at table (ENTRY_LEN * i) → is_file_entry room before files.files p ≡ false → ReadsFiles room place count table i before pages files → files_damage room place 0 [] (entries_of table count) ≡ Some (damage_at (place + ENTRY_LEN * i) p.file.media.0)
reads_files_refused room place count table i before pages files p lt is sound so_far =
    files_step room place count table i before pages files p lt is so_far ∙ ap (λ (b : Bool). if b then files_damage room (place + ENTRY_LEN * i + ENTRY_LEN) p.file.media.0 (files.files ++ p ∷ []) (drop (i + 1) (entries_of table count)) else Some (damage_at (place + ENTRY_LEN * i) p.file.media.0)) sound

pub reads_files_all : (room place count : ℕ) (table : List ℕ) (i before pages : ℕ) (files : Shelved) → count ≤ i → ReadsFiles room place count table i before pages files → files_damage room place 0 [] (entries_of table count) ≡ None
reads_files_all room place count table i before pages files le so_far =
    so_far.damage ∙ at_drop_all (λ (l : List Placed). files_damage room (place + ENTRY_LEN * i) before (entries_of table i) l) (entries_of table count) i (omega (arith, le, length-entries table count))
