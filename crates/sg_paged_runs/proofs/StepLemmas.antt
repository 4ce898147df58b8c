-- What each call of the store makes of a stage.
use Rattle.std.proofs.Common.{◌≡◌, ◌⊎◌, ◌↔◌, inl, inr, ℕ, zero, suc, ◌+◌, ◌*◌, ◌/◌, ◌≤◌, Bool, true, false, cond, List, [], ◌∷◌, ◌++◌, length, take, map, filter, find, Option, None, Some, is_some, option_map, Result, Ok, Err, OnOk, All, IfSome, IsSomeAnd, refl, sym, ◌∙◌, ap, subst, arith}
use Rattle.std.specs.List.{list_any}
use Rattle.std.proofs.lemmas.Bool.{cases_Bool}
use Rattle.std.proofs.lemmas.List.{map-append}
use Rattle.md5.specs.Md5.{md5}
use Rattle.sg_base.specs.declared.file.Listed.{Listed}
use Rattle.sg_disk.specs.View.{View, range}
use Rattle.sg_disk.specs.Runs.{LeavesOnly, HasOne}
use Rattle.sg_disk.specs.Contents.{Segment, StoredFile, Contents, IsInside, taken, all_taken, switched}
use Rattle.sg_disk.specs.StandsFor.{AreFiles, IsOpen, Two}
use Rattle.sg_disk.specs.declared.places.TheConstants.{DATA, PAGE}
use Rattle.sg_disk.proofs.Moments.{started, weaker}
use Rattle.sg_placing.specs.Placing.{same_file}
use Rattle.sg_pages.specs.Pages.{needed, free_pages}
use Rattle.sg_pages.specs.declared.maps.TheConstants.{MAP_LEN}
use Rattle.sg_pages.specs.Shelves.{FileAt, Shelved, all_taken_at, stands}
use Rattle.sg_slots.specs.Slots.{slot_of}
use Rattle.sg_slots.specs.declared.slots.Slot.{Slot}
use Rattle.sg_contents.specs.StandsFor.{StandsFor, StandsForOne, Either}
use Rattle.sg_contents.proofs.Standing.{settled_read, lawful_inside}
use Rattle.sg_soundness.specs.Shelved.{file_at_of}
use Rattle.sg_switching.specs.Switching.{IsBesideSlot}
use Rattle.sg_staging.specs.Staged.{HalfStaged, Staged, nothing_staged, half_at, free_beside, stands_as, IsHalf}
use Rattle.sg_staging.proofs.ChoiceLemmas.{Member, member, chosen_is}
use Rattle.sg_store_state.specs.State.{State, whole_stands, is_held}
use Rattle.sg_store_state.specs.Ready.{bytes_here, bytes_so_far, file_here, sealed_files, half_file, stored_file, stored_files, Knows, HasStaged, KeepsSnapshot, IsReady}
use Rattle.sg_store_state.proofs.OpenLemmas.{held_here}
use Rattle.sg_paged_store.proofs.ByteLemmas.{stored_with}
use Rattle.sg_paged_runs.specs.Stage.{Stage, Shows, IsAt}
use Rattle.sg_paged_runs.specs.Steps.{whole_of, begun_in, free_of, is_among, kept, found_in, Step, StandsForSome}
use Rattle.sg_paged_runs.specs.declared.call.Call.{Call}
use Rattle.sg_paged_runs.specs.declared.call.Call.TheVariants.{Begin, Bytes, Seal, Keep, Switch, Open}

-- the store knows its snapshot still
knows_kept : (s t : State) (p : Contents) (c : List ℕ) → KeepsSnapshot s t → Knows s p c → Knows t p c
knows_kept s t p c keeps knows = record {
  display = keeps.display ∙ knows.display;
  epoch = keeps.epoch ∙ knows.epoch;
  room = keeps.room ∙ knows.room;
  number = keeps.number ∙ knows.number;
  text = keeps.text ∙ knows.text;
  files = ap stands keeps.current ∙ knows.files;
  slot = subst (λ (x : Slot). IsBesideSlot x p c) (sym keeps.spare) knows.slot;
  gate = subst (λ (x : Slot). (t.spare_open ≡ true) ↔ IsOpen (slot_of x c)) (sym keeps.spare) (subst (λ (b : Bool). (b ≡ true) ↔ IsOpen (slot_of s.spare c)) (sym keeps.spare_open) knows.gate);
}

-- a store and its disk show their stage
pub shown : (v : View) (s : State) (stage : Stage) → IsAt v s stage → Shows s v.bytes stage
shown v s stage at = record {
  stands = settled_read v stage.contents at.ready.settled;
  knows = at.ready.knows;
  staged = at.ready.staged;
  sealed = at.sealed;
  half = at.half;
}

-- and where the contents stay, the disk is settled with those of the next stage
pub at_same : (v : View) (s t : State) (old new : Stage) → new.contents ≡ old.contents → IsAt v s old → Shows t v.bytes new → IsAt v t new
at_same v s t old new same at shows = record {
  ready = record {
    settled = record { told = at.ready.settled.told; each = λ c now. subst (λ (p : Contents). StandsFor p c) (sym same) (at.ready.settled.each c now) };
    front = at.ready.front;
    maps = subst (λ (r : ℕ). HasOne (DATA + r) (2 * MAP_LEN) v) (ap (λ (p : Contents). p.room) (sym same)) at.ready.maps;
    format = at.ready.format;
    knows = shows.knows;
    staged = shows.staged;
  };
  sealed = shows.sealed;
  half = shows.half;
}

-- no call was made
pub none_made : (old : Stage) (call : Call) (c : List ℕ) → StandsFor old.contents c → StandsForSome old (call ∷ []) c
none_made old call c stands = record { n = 0; stage = old; within = omega arith; runs = refl; stands = stands }

-- one was
pub one_made : (old new : Stage) (call : Call) (c : List ℕ) → Step old call new → StandsFor new.contents c → StandsForSome old (call ∷ []) c
one_made old new call c step stands = record { n = 1; stage = new; within = omega arith; runs = (new, step, refl); stands = stands }

-- at every moment of a run that leaves the contents
pub same_moments : (v w : View) (s : State) (old : Stage) (call : Call) → LeavesOnly (StandsFor old.contents) v w → LeavesOnly (StandsForSome old (call ∷ [])) v w
same_moments v w s old call run = weaker v w (StandsFor old.contents) (StandsForSome old (call ∷ [])) (none_made old call) run

pub still : (v : View) (s : State) (old : Stage) (call : Call) → IsAt v s old → LeavesOnly (StandsForSome old (call ∷ [])) v v
still v s old call at = same_moments v v s old call (started v (StandsFor old.contents) at.ready.settled.each)

-- one of two contents that are the same
pub one_contents : (p : Contents) (c : List ℕ) → StandsForOne (Two p p) c → StandsFor p c
one_contents p c one = elim one.1 [
  | inl same ↦ subst (λ (r : Contents). StandsFor r c) same one.2
  | inr same ↦ subst (λ (r : Contents). StandsFor r c) same one.2
]

-- files without their bytes again
files_again : (c : List ℕ) (files : List FileAt) → map file_at_of (map (file_here c) files) ≡ files
files_again c [] = refl
files_again c (f ∷ files) = ap (λ (l : List FileAt). f ∷ l) (files_again c files)

whole_again : (s : State) (c : List ℕ) (old : Stage) → Shows s c old → map file_at_of (whole_of old) ≡ whole_stands s
whole_again s c old shows =
    map-append file_at_of old.contents.files old.sealed ∙ ap (λ (l : List FileAt). l ++ map file_at_of old.sealed) (sym shows.knows.files) ∙ ap (λ (l : List FileAt). stands s.current ++ l) (ap (λ (l : List StoredFile). map file_at_of l) (sym shows.sealed) ∙ files_again c (stands s.staged.sealed))

taken_again : (files : List StoredFile) → all_taken_at (map file_at_of files) ≡ all_taken files
taken_again [] = refl
taken_again (f ∷ files) = ap (λ (l : List Segment). taken f ++ l) (taken_again files)

-- the free pages of a store are those of its stage
free_same : (s : State) (c : List ℕ) (old : Stage) → Shows s c old → free_beside s.room s.current s.staged ≡ free_of old
free_same s c old shows =
    ap (λ (l : List FileAt). free_pages (all_taken_at l) (s.room / PAGE)) (sym (whole_again s c old shows)) ∙ ap (λ (l : List Segment). free_pages l (s.room / PAGE)) (taken_again (whole_of old)) ∙ ap (λ (r : ℕ). free_pages (all_taken (whole_of old)) (r / PAGE)) shows.knows.room

half_none : (s : State) (c : List ℕ) → s.staged.half ≡ None → half_file s c ≡ None
half_none s c is = ap (λ (o : Option HalfStaged). option_map (λ h. stored_with h.file h.pages (bytes_so_far c h)) o) is

pub half_there : (s : State) (c : List ℕ) (h : HalfStaged) → s.staged.half ≡ Some h → half_file s c ≡ Some (stored_with h.file h.pages (bytes_so_far c h))
half_there s c h is = ap (λ (o : Option HalfStaged). option_map (λ x. stored_with x.file x.pages (bytes_so_far c x)) o) is

half_empty : (t : State) (c : List ℕ) (file : Listed) (pages : List ℕ) → IsHalf t.staged file pages [] → half_file t c ≡ Some (begun_in pages file)
half_empty t c file pages half =
    ap (λ (o : Option HalfStaged). option_map (λ h. stored_with h.file h.pages (bytes_so_far c h)) o) half.is
    ∙ ap (λ (l : Listed). Some (stored_with l half.half.pages (bytes_so_far c half.half))) half.file_is
    ∙ ap (λ (l : List ℕ). Some (stored_with file l (bytes_so_far c half.half))) half.pages_are
    ∙ ap (λ (n : ℕ). Some (stored_with file pages (take n (bytes_here c (half_at half.half))))) half.count

-- a file is begun
pub begins : (s t : State) (c : List ℕ) (old : Stage) (file : Listed) → s.staged.half ≡ None → needed file.length ≤ length (free_beside s.room s.current s.staged) → IsHalf t.staged file (take (needed file.length) (free_beside s.room s.current s.staged)) [] → t.staged.sealed ≡ s.staged.sealed → KeepsSnapshot s t → (HasStaged s c → HasStaged t c) → Shows s c old → (new : Stage) × Step old (Begin file) new × Shows t c new
begins s t c old file idle enough half sealed keeps has shows =
    let none : old.half ≡ None = sym shows.half ∙ half_none s c idle in
    let free = free_same s c old shows in
    let pages : List ℕ = take (needed file.length) (free_of old) in
    let here : IsHalf t.staged file pages [] = subst (λ (l : List ℕ). IsHalf t.staged file (take (needed file.length) l) []) free half in
    let new : Stage = record old { half = Some (begun_in pages file) } in (
      new,
      (subst (λ (l : List ℕ). needed file.length ≤ length l) free enough, none, refl),
      record {
        stands = shows.stands;
        knows = knows_kept s t old.contents c keeps shows.knows;
        staged = has shows.staged;
        sealed = ap (λ (k : Shelved). map (file_here c) (stands k)) sealed ∙ shows.sealed;
        half = half_empty t c file pages here;
      },
    )

-- a file is sealed
pub seals : (s t : State) (c : List ℕ) (old : Stage) (f : StoredFile) → half_file s c ≡ Some f → length f.bytes ≡ f.listed.length → md5 f.bytes ≡ f.listed.md5 → sealed_files t c ≡ sealed_files s c ++ f ∷ [] → t.staged.half ≡ None → KeepsSnapshot s t → (HasStaged s c → HasStaged t c) → Shows s c old → (new : Stage) × Step old Seal new × Shows t c new
seals s t c old f is long digest sealed idle keeps has shows =
    let half : old.half ≡ Some f = sym shows.half ∙ is in
    let new : Stage = record old { sealed = old.sealed ++ f ∷ []; half = None } in (
      new,
      subst (λ (o : Option StoredFile). IsSomeAnd o (λ g. (length g.bytes ≡ g.listed.length) × (md5 g.bytes ≡ g.listed.md5) × (new ≡ record old { sealed = old.sealed ++ g ∷ []; half = None }))) (sym half) (long, digest, refl),
      record {
        stands = shows.stands;
        knows = knows_kept s t old.contents c keeps shows.knows;
        staged = has shows.staged;
        sealed = sealed ∙ ap (λ (l : List StoredFile). l ++ f ∷ []) shows.sealed;
        half = half_none t c idle;
      },
    )

-- files are given up
kept_files : (c : List ℕ) (listed : List Listed) (files : List FileAt) → map (file_here c) (filter (λ f. list_any (λ l. same_file l f.file) listed) files) ≡ filter (is_among listed) (map (file_here c) files)
kept_files c listed [] = refl
kept_files c listed (f ∷ files) = elim (cases_Bool (is_among listed (file_here c f))) [
  | inl here ↦ ap (λ (b : Bool). map (file_here c) (cond b (f ∷ rest) rest)) here ∙ ap (λ (l : List StoredFile). file_here c f ∷ l) (kept_files c listed files) ∙ sym (ap (λ (b : Bool). cond b (file_here c f ∷ later) later) here)
  | inr other ↦ ap (λ (b : Bool). map (file_here c) (cond b (f ∷ rest) rest)) other ∙ kept_files c listed files ∙ sym (ap (λ (b : Bool). cond b (file_here c f ∷ later) later) other)
]
  where
    rest : List FileAt
    rest = filter (λ f. list_any (λ l. same_file l f.file) listed) files

    later : List StoredFile
    later = filter (is_among listed) (map (file_here c) files)

abbrev half_of : List ℕ → Option HalfStaged → Option StoredFile
half_of c o = option_map (λ h. stored_with h.file h.pages (bytes_so_far c h)) o

kept_half : (c : List ℕ) (listed : List Listed) (before now : Option HalfStaged) → IfSome before (λ h. list_any (λ l. same_file l h.file) listed ≡ true → now ≡ before) → IfSome before (λ h. list_any (λ l. same_file l h.file) listed ≡ false → now ≡ None) → (now ≡ before) ⊎ (now ≡ None) → half_of c now ≡ kept listed (half_of c before)
kept_half c listed None now stays goes either = elim either [
  | inl same ↦ ap (half_of c) same
  | inr none ↦ ap (half_of c) none
]
kept_half c listed (Some h) now stays goes either =
    let f : StoredFile = stored_with h.file h.pages (bytes_so_far c h) in
    elim (cases_Bool (is_among listed f)) [
      | inl here ↦ ap (half_of c) (stays here) ∙ sym (ap (λ (b : Bool). cond b (Some f) None) here)
      | inr other ↦ ap (half_of c) (goes other) ∙ sym (ap (λ (b : Bool). cond b (Some f) None) other)
    ]

pub keeps : (s t : State) (c : List ℕ) (old : Stage) (listed : List Listed) → stands t.staged.sealed ≡ filter (λ f. list_any (λ l. same_file l f.file) listed) (stands s.staged.sealed) → IfSome s.staged.half (λ h. list_any (λ l. same_file l h.file) listed ≡ true → t.staged.half ≡ s.staged.half) → IfSome s.staged.half (λ h. list_any (λ l. same_file l h.file) listed ≡ false → t.staged.half ≡ None) → (t.staged.half ≡ s.staged.half) ⊎ (t.staged.half ≡ None) → KeepsSnapshot s t → (HasStaged s c → HasStaged t c) → Shows s c old → (new : Stage) × Step old (Keep listed) new × Shows t c new
keeps s t c old listed staged stays goes either snapshot has shows =
    let new : Stage = record old { sealed = filter (is_among listed) old.sealed; half = kept listed old.half } in (
      new,
      refl,
      record {
        stands = shows.stands;
        knows = knows_kept s t old.contents c snapshot shows.knows;
        staged = has shows.staged;
        sealed = ap (λ (l : List FileAt). map (file_here c) l) staged ∙ kept_files c listed (stands s.staged.sealed) ∙ ap (λ (l : List StoredFile). filter (is_among listed) l) shows.sealed;
        half = kept_half c listed s.staged.half t.staged.half stays goes either ∙ ap (kept listed) shows.half;
      },
    )

-- bytes are brought
pub brings : (v w : View) (s t : State) (old : Stage) (f : StoredFile) (bytes : List ℕ) → half_file s v.bytes ≡ Some f → length f.bytes + length bytes ≤ f.listed.length → ((p : Contents) → IsReady v s p → IsReady w t p) → ((p : Contents) → IsReady v s p → sealed_files t w.bytes ≡ sealed_files s v.bytes) → ((p : Contents) (g : StoredFile) → IsReady v s p → half_file s v.bytes ≡ Some g → half_file t w.bytes ≡ Some (record g { bytes = g.bytes ++ bytes })) → IsAt v s old → (new : Stage) × Step old (Bytes bytes) new × IsAt w t new
brings v w s t old f bytes is fits ready sealed more at =
    let half : old.half ≡ Some f = sym at.half ∙ is in
    let new : Stage = record old { half = Some (record f { bytes = f.bytes ++ bytes }) } in (
      new,
      subst (λ (o : Option StoredFile). IsSomeAnd o (λ g. (length g.bytes + length bytes ≤ g.listed.length) × (new ≡ record old { half = Some (record g { bytes = g.bytes ++ bytes }) }))) (sym half) (fits, refl),
      record {
        ready = ready old.contents at.ready;
        sealed = sealed old.contents at.ready ∙ at.sealed;
        half = more old.contents f at.ready is;
      },
    )

-- a file of the contents stands where it stands
file_stands : (room : ℕ) (c : List ℕ) (files : List StoredFile) → All (λ f. All (IsInside room) (taken f)) files → AreFiles files (range c DATA room) → map (file_here c) (map file_at_of files) ≡ files
file_stands room c [] inside held = refl
file_stands room c (f ∷ files) inside held =
    ap (λ (b : List ℕ). record f { bytes = b } ∷ map (file_here c) (map file_at_of files)) (held_here room c f (inside zero f (omega arith)) (held zero f (omega arith))) ∙ ap (λ (l : List StoredFile). f ∷ l) (file_stands room c files (λ k d lt. inside (suc k) d (omega (arith, lt))) (λ k d lt. held (suc k) d (omega (arith, lt))))

whole_stand : (s : State) (c : List ℕ) (old : Stage) → Shows s c old → map (file_here c) (whole_stands s) ≡ whole_of old
whole_stand s c old shows =
    let p : Contents = old.contents in
    map-append (file_here c) (stands s.current) (stands s.staged.sealed) ∙ ap (λ (l : List StoredFile). l ++ sealed_files s c) (ap (λ (l : List FileAt). map (file_here c) l) shows.knows.files ∙ file_stands p.room c p.files (lawful_inside p shows.stands.lawful) shows.stands.files) ∙ ap (λ (l : List StoredFile). p.files ++ l) shows.sealed

-- what is found among files
find_here : (c : List ℕ) (files : List FileAt) (listed : Listed) → find (λ f. same_file f.listed listed) (map (file_here c) files) ≡ option_map (file_here c) (stands_as files listed)
find_here c [] listed = refl
find_here c (f ∷ files) listed = elim (cases_Bool (same_file f.file listed)) [
  | inl here ↦ ap (λ (b : Bool). cond b (Some (file_here c f)) (find (λ g. same_file g.listed listed) (map (file_here c) files))) here ∙ sym (ap (λ (b : Bool). option_map (file_here c) (cond b (Some f) (stands_as files listed))) here)
  | inr other ↦ ap (λ (b : Bool). cond b (Some (file_here c f)) (find (λ g. same_file g.listed listed) (map (file_here c) files))) other ∙ find_here c files listed ∙ sym (ap (λ (b : Bool). option_map (file_here c) (cond b (Some f) (stands_as files listed))) other)
]

-- the stored file of a member is the member with its bytes
stored_at : (files : List FileAt) (c : List ℕ) (listed : Listed) (m : Member files listed) → stored_file files c listed ≡ file_here c m.q
stored_at files c listed m = ap (λ (q : FileAt). record (file_here c q) { listed = listed }) (chosen_is files listed m) ∙ ap (λ (l : Listed). record (file_here c m.q) { listed = l }) (sym m.same)

-- the files of a new snapshot are found among the whole ones
stored_found : (files : List FileAt) (c : List ℕ) (listed : List Listed) → All (λ f. is_some (stands_as files f) ≡ true) listed → map (λ l. find (λ f. same_file f.listed l) (map (file_here c) files)) listed ≡ map (λ f. Some f) (map (stored_file files c) listed)
stored_found files c [] held = refl
stored_found files c (l ∷ listed) held =
    let m : Member files l = member files l (held zero l (omega arith)) in
    let found : find (λ f. same_file f.listed l) (map (file_here c) files) ≡ Some (stored_file files c l) = find_here c files l ∙ ap (option_map (file_here c)) m.found ∙ ap (λ (f : StoredFile). Some f) (sym (stored_at files c l m)) in
    ap (λ (o : Option StoredFile). o ∷ map (λ x. find (λ f. same_file f.listed x) (map (file_here c) files)) listed) found ∙ ap (λ (os : List (Option StoredFile)). Some (stored_file files c l) ∷ os) (stored_found files c listed (λ k d lt. held (suc k) d (omega (arith, lt))))

-- a snapshot becomes current
pub switch_step : (v : View) (s : State) (old : Stage) (manifest : List ℕ) (listed : List Listed) → All (λ f. is_held s f ≡ true) listed → IsAt v s old → Step old (Switch manifest listed) (record { contents = switched old.contents manifest (stored_files s v.bytes listed); sealed = []; half = None })
switch_step v s old manifest listed held at =
    let whole : map (file_here v.bytes) (whole_stands s) ≡ whole_of old = whole_stand s v.bytes old (shown v s old at) in
    let found : map (found_in (whole_of old)) listed ≡ map (λ f. Some f) (stored_files s v.bytes listed) = subst (λ (l : List StoredFile). map (found_in l) listed ≡ map (λ f. Some f) (stored_files s v.bytes listed)) whole (stored_found (whole_stands s) v.bytes listed held) in
    (stored_files s v.bytes listed, found, refl)

pub switches : (v w : View) (s t : State) (old : Stage) (manifest : List ℕ) (listed : List Listed) → All (λ f. is_held s f ≡ true) listed → ((p : Contents) → IsReady v s p → IsReady w t (switched p manifest (stored_files s v.bytes listed))) → t.staged ≡ nothing_staged → IsAt v s old → (new : Stage) × Step old (Switch manifest listed) new × IsAt w t new
switches v w s t old manifest listed held ready idle at = (
  record { contents = switched old.contents manifest (stored_files s v.bytes listed); sealed = []; half = None },
  switch_step v s old manifest listed held at,
  record {
    ready = ready old.contents at.ready;
    sealed = ap (λ (k : Staged). map (file_here w.bytes) (stands k.sealed)) idle;
    half = half_none t w.bytes (ap (λ (k : Staged). k.half) idle);
  },
)

pub switch_moments : (v w : View) (s : State) (old : Stage) (manifest : List ℕ) (listed : List Listed) → All (λ f. is_held s f ≡ true) listed → ((p : Contents) → IsReady v s p → LeavesOnly (Either p (switched p manifest (stored_files s v.bytes listed))) v w) → IsAt v s old → LeavesOnly (StandsForSome old (Switch manifest listed ∷ [])) v w
switch_moments v w s old manifest listed held moments at =
    let new : Stage = record { contents = switched old.contents manifest (stored_files s v.bytes listed); sealed = []; half = None } in
    weaker v w (Either old.contents new.contents) (StandsForSome old (Switch manifest listed ∷ [])) (λ c either. elim either [
      | inl before ↦ none_made old (Switch manifest listed) c before
      | inr after ↦ one_made old new (Switch manifest listed) c (switch_step v s old manifest listed held at) after
    ]) (moments old.contents at.ready)

-- the store is opened again
pub opens : (v w : View) (s t : State) (old : Stage) → (v.told → StandsFor old.contents v.bytes → IsReady w t old.contents) → t.staged ≡ nothing_staged → IsAt v s old → (new : Stage) × Step old Open new × IsAt w t new
opens v w s t old ready idle at = (
  record old { sealed = []; half = None },
  refl,
  record {
    ready = ready at.ready.settled.told (settled_read v old.contents at.ready.settled);
    sealed = ap (λ (k : Staged). map (file_here w.bytes) (stands k.sealed)) idle;
    half = half_none t w.bytes (ap (λ (k : Staged). k.half) idle);
  },
)

-- what follows where a call has passed
pub on_ok : {A E : Type 0} (r : Result A E) (P Q : Type 0) → (P → Q) → OnOk r P → OnOk r Q
on_ok (Ok x) P Q follows holds = follows holds
on_ok (Err e) P Q follows holds = holds

-- a call that touches no disk leaves the contents
pub begin_at : (v : View) (s t : State) (file : Listed) → ((c : List ℕ) (old : Stage) → Shows s c old → (new : Stage) × Step old (Begin file) new × Shows t c new) → (old : Stage) → IsAt v s old → (new : Stage) × Step old (Begin file) new × IsAt v t new
begin_at v s t file stepped old at =
    let next = stepped v.bytes old (shown v s old at) in
    (next.0, next.1, at_same v s t old next.0 (ap (λ (stage : Stage). stage.contents) next.1.2) at next.2)
