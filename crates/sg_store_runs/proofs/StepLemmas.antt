-- What each call of the store makes of a stage.
use Rattle.std.proofs.Common.{◌≡◌, ◌⊎◌, inl, inr, ℕ, ◌+◌, ◌≤◌, Bool, true, false, cond, List, [], ◌∷◌, ◌++◌, length, map, filter, Option, None, Some, option_map, Result, Ok, Err, OnOk, All, IfSome, IsSomeAnd, refl, sym, ◌∙◌, ap, subst, arith}
use Rattle.std.specs.List.{list_any}
use Rattle.std.proofs.lemmas.Bool.{cases_Bool}
use Rattle.std.proofs.lemmas.List.{append-nil, map-append}
use Rattle.md5.specs.Md5.{md5}
use Rattle.sg_base.specs.declared.file.Listed.{Listed}
use Rattle.sg_disk.specs.View.{View}
use Rattle.sg_disk.specs.Runs.{LeavesOnly}
use Rattle.sg_disk.specs.Contents.{StoredFile, Contents, switched}
use Rattle.sg_disk.specs.StandsFor.{StandsFor, Either}
use Rattle.sg_disk.proofs.Moments.{started, weaker}
use Rattle.sg_disk.proofs.Standing.{settled_read}
use Rattle.sg_placing.specs.Placing.{placed_of, same_file, IsLowest}
use Rattle.sg_placing.specs.declared.placed.Placed.{Placed}
use Rattle.sg_store.specs.Halves.{half_files}
use Rattle.sg_store.specs.Ready.{whole_files, taken_files, is_held, file_at, sealed_files, half_file, bytes_so_far, stored_files, HasStaged, KeepsSnapshot, IsHalf, IsReady}
use Rattle.sg_store.specs.declared.store.Store.{Store}
use Rattle.sg_store.specs.declared.store.Half.{Half}
use Rattle.sg_store.proofs.StageLemmas.{knows_kept, half_begun}
use Rattle.sg_store.proofs.WholeLemmas.{whole_stand, stored_found}
use Rattle.sg_store_runs.specs.Stage.{Stage, Shows, IsAt}
use Rattle.sg_store_runs.specs.Steps.{whole_of, begun_at, is_among, kept, found_in, Step, StandsForSome}
use Rattle.sg_store_runs.specs.declared.call.Call.{Call}
use Rattle.sg_store_runs.specs.declared.call.Call.TheVariants.{Begin, Bytes, Seal, Keep, Switch, Open}

-- a store and its disk show their stage
pub shown : (v : View) (s : Store) (stage : Stage) → IsAt v s stage → Shows s v.bytes stage
shown v s stage at = record {
  stands = settled_read v stage.contents at.ready.settled;
  knows = at.ready.knows;
  staged = at.ready.staged;
  sealed = at.sealed;
  half = at.half;
}

-- and where the contents stay, the disk is settled with those of the next stage
pub at_same : (v : View) (s t : Store) (old new : Stage) → new.contents ≡ old.contents → IsAt v s old → Shows t v.bytes new → IsAt v t new
at_same v s t old new same at shows = record {
  ready = record {
    settled = record { told = at.ready.settled.told; each = λ c now. subst (λ (p : Contents). StandsFor p c) (sym same) (at.ready.settled.each c now) };
    front = at.ready.front;
    knows = shows.knows;
    staged = shows.staged;
  };
  sealed = shows.sealed;
  half = shows.half;
}

-- no call was made
pub none_made : (old : Stage) (call : Call) (c : List ℕ) → StandsFor old.contents c → StandsForSome old (call ∷ []) c
none_made old call c stands = record { n = 0; stage = old; within = omega arith; runs = refl; stands = stands }

-- one was
pub one_made : (old new : Stage) (call : Call) (c : List ℕ) → Step old call new → StandsFor new.contents c → StandsForSome old (call ∷ []) c
one_made old new call c step stands = record { n = 1; stage = new; within = omega arith; runs = (new, step, refl); stands = stands }

-- at every moment of a run that leaves the contents
pub same_moments : (v w : View) (s : Store) (old : Stage) (call : Call) → LeavesOnly (StandsFor old.contents) v w → LeavesOnly (StandsForSome old (call ∷ [])) v w
same_moments v w s old call run = weaker v w (StandsFor old.contents) (StandsForSome old (call ∷ [])) (none_made old call) run

pub still : (v : View) (s : Store) (old : Stage) (call : Call) → IsAt v s old → LeavesOnly (StandsForSome old (call ∷ [])) v v
still v s old call at = same_moments v v s old call (started v (StandsFor old.contents) at.ready.settled.each)

-- a run that leaves the images of its start
pub unchanged_moments : (v w : View) (s : Store) (old : Stage) (call : Call) → IsAt v s old → LeavesOnly v.images v w → LeavesOnly (StandsForSome old (call ∷ [])) v w
unchanged_moments v w s old call at run = same_moments v w s old call (weaker v w v.images (StandsFor old.contents) at.ready.settled.each run)

-- placed files, without their bytes again
placed-file_at : (c : List ℕ) (files : List Placed) → map placed_of (map (file_at c) files) ≡ files
placed-file_at c [] = refl
placed-file_at c (p ∷ files) = ap (λ (l : List Placed). p ∷ l) (placed-file_at c files)

placed_whole : (s : Store) (c : List ℕ) (old : Stage) → Shows s c old → map placed_of (whole_of old) ≡ whole_files s
placed_whole s c old shows =
    map-append placed_of old.contents.files old.sealed ∙ ap (λ (l : List Placed). l ++ map placed_of old.sealed) (sym shows.knows.files) ∙ ap (λ (l : List Placed). s.current ++ l) (ap (λ (l : List StoredFile). map placed_of l) (sym shows.sealed) ∙ placed-file_at c s.staged)

half_none : (s : Store) (c : List ℕ) → s.half ≡ None → half_file s c ≡ None
half_none s c is = ap (λ (o : Option Half). option_map (λ h. record (file_at c h.placed) { bytes = bytes_so_far c h }) o) is

-- a file is begun
pub begins : (s t : Store) (c : List ℕ) (old : Stage) (file : Listed) (place : ℕ) → s.half ≡ None → IsLowest s.room (taken_files s) file.length place → IsHalf t (record { file = file; place = place }) [] → t.staged ≡ s.staged → KeepsSnapshot s t → (HasStaged s c → HasStaged t c) → Shows s c old → (new : Stage) × Step old (Begin file) new × Shows t c new
begins s t c old file place idle lowest half staged keeps has shows =
    let none : old.half ≡ None = sym shows.half ∙ half_none s c idle in
    let taken : taken_files s ≡ map placed_of (whole_of old) = ap (λ (h : Option Half). whole_files s ++ half_files h) idle ∙ append-nil (whole_files s) ∙ sym (placed_whole s c old shows) in
    let low : IsLowest old.contents.room (map placed_of (whole_of old)) file.length place = subst (λ (r : ℕ). IsLowest r (map placed_of (whole_of old)) file.length place) shows.knows.room (subst (λ (l : List Placed). IsLowest s.room l file.length place) taken lowest) in
    let new : Stage = record old { half = Some (begun_at place file) } in (
      new,
      (place, low, none, refl),
      record {
        stands = shows.stands;
        knows = knows_kept s t old.contents c c keeps refl refl shows.knows;
        staged = has shows.staged;
        sealed = ap (λ (l : List Placed). map (file_at c) l) staged ∙ shows.sealed;
        half = half_begun t c (record { file = file; place = place }) half;
      },
    )

-- a file is sealed
pub seals : (s t : Store) (c : List ℕ) (old : Stage) (f : StoredFile) → half_file s c ≡ Some f → length f.bytes ≡ f.listed.length → md5 f.bytes ≡ f.listed.md5 → sealed_files t c ≡ sealed_files s c ++ f ∷ [] → t.half ≡ None → KeepsSnapshot s t → (HasStaged s c → HasStaged t c) → Shows s c old → (new : Stage) × Step old Seal new × Shows t c new
seals s t c old f is long digest sealed idle keeps has shows =
    let half : old.half ≡ Some f = sym shows.half ∙ is in
    let new : Stage = record old { sealed = old.sealed ++ f ∷ []; half = None } in (
      new,
      subst (λ (o : Option StoredFile). IsSomeAnd o (λ g. (length g.bytes ≡ g.listed.length) × (md5 g.bytes ≡ g.listed.md5) × (new ≡ record old { sealed = old.sealed ++ g ∷ []; half = None }))) (sym half) (long, digest, refl),
      record {
        stands = shows.stands;
        knows = knows_kept s t old.contents c c keeps refl refl shows.knows;
        staged = has shows.staged;
        sealed = sealed ∙ ap (λ (l : List StoredFile). l ++ f ∷ []) shows.sealed;
        half = half_none t c idle;
      },
    )

-- files are given up
kept_files : (c : List ℕ) (listed : List Listed) (files : List Placed) → map (file_at c) (filter (λ p. list_any (λ l. same_file l p.file) listed) files) ≡ filter (is_among listed) (map (file_at c) files)
kept_files c listed [] = refl
kept_files c listed (p ∷ files) = elim (cases_Bool (is_among listed (file_at c p))) [
  | inl here ↦ ap (λ (b : Bool). map (file_at c) (cond b (p ∷ rest) rest)) here ∙ ap (λ (l : List StoredFile). file_at c p ∷ l) (kept_files c listed files) ∙ sym (ap (λ (b : Bool). cond b (file_at c p ∷ later) later) here)
  | inr other ↦ ap (λ (b : Bool). map (file_at c) (cond b (p ∷ rest) rest)) other ∙ kept_files c listed files ∙ sym (ap (λ (b : Bool). cond b (file_at c p ∷ later) later) other)
]
  where
    rest : List Placed
    rest = filter (λ p. list_any (λ l. same_file l p.file) listed) files

    later : List StoredFile
    later = filter (is_among listed) (map (file_at c) files)

kept_half : (c : List ℕ) (listed : List Listed) (before now : Option Half) → IfSome before (λ h. list_any (λ l. same_file l h.placed.file) listed ≡ true → now ≡ before) → IfSome before (λ h. list_any (λ l. same_file l h.placed.file) listed ≡ false → now ≡ None) → (now ≡ before) ⊎ (now ≡ None) → option_map (λ h. record (file_at c h.placed) { bytes = bytes_so_far c h }) now ≡ kept listed (option_map (λ h. record (file_at c h.placed) { bytes = bytes_so_far c h }) before)
kept_half c listed None now stays goes either = elim either [
  | inl same ↦ ap (λ (o : Option Half). option_map (λ h. record (file_at c h.placed) { bytes = bytes_so_far c h }) o) same
  | inr none ↦ ap (λ (o : Option Half). option_map (λ h. record (file_at c h.placed) { bytes = bytes_so_far c h }) o) none
]
kept_half c listed (Some h) now stays goes either =
    let f : StoredFile = record (file_at c h.placed) { bytes = bytes_so_far c h } in
    elim (cases_Bool (is_among listed f)) [
      | inl here ↦ ap (λ (o : Option Half). option_map (λ h. record (file_at c h.placed) { bytes = bytes_so_far c h }) o) (stays here) ∙ sym (ap (λ (b : Bool). cond b (Some f) None) here)
      | inr other ↦ ap (λ (o : Option Half). option_map (λ h. record (file_at c h.placed) { bytes = bytes_so_far c h }) o) (goes other) ∙ sym (ap (λ (b : Bool). cond b (Some f) None) other)
    ]

pub keeps : (s t : Store) (c : List ℕ) (old : Stage) (listed : List Listed) → t.staged ≡ filter (λ p. list_any (λ l. same_file l p.file) listed) s.staged → IfSome s.half (λ h. list_any (λ l. same_file l h.placed.file) listed ≡ true → t.half ≡ s.half) → IfSome s.half (λ h. list_any (λ l. same_file l h.placed.file) listed ≡ false → t.half ≡ None) → (t.half ≡ s.half) ⊎ (t.half ≡ None) → KeepsSnapshot s t → (HasStaged s c → HasStaged t c) → Shows s c old → (new : Stage) × Step old (Keep listed) new × Shows t c new
keeps s t c old listed staged stays goes either snapshot has shows =
    let new : Stage = record old { sealed = filter (is_among listed) old.sealed; half = kept listed old.half } in (
      new,
      refl,
      record {
        stands = shows.stands;
        knows = knows_kept s t old.contents c c snapshot refl refl shows.knows;
        staged = has shows.staged;
        sealed = ap (λ (l : List Placed). map (file_at c) l) staged ∙ kept_files c listed s.staged ∙ ap (λ (l : List StoredFile). filter (is_among listed) l) shows.sealed;
        half = kept_half c listed s.half t.half stays goes either ∙ ap (kept listed) shows.half;
      },
    )

-- bytes are brought
pub brings : (v w : View) (s t : Store) (old : Stage) (f : StoredFile) (bytes : List ℕ) → half_file s v.bytes ≡ Some f → length f.bytes + length bytes ≤ f.listed.length → ((p : Contents) → IsReady v s p → IsReady w t p) → ((p : Contents) → IsReady v s p → sealed_files t w.bytes ≡ sealed_files s v.bytes) → ((p : Contents) (g : StoredFile) → IsReady v s p → half_file s v.bytes ≡ Some g → half_file t w.bytes ≡ Some (record g { bytes = g.bytes ++ bytes })) → IsAt v s old → (new : Stage) × Step old (Bytes bytes) new × IsAt w t new
brings v w s t old f bytes is fits ready sealed more at =
    let half : old.half ≡ Some f = sym at.half ∙ is in
    let new : Stage = record old { half = Some (record f { bytes = f.bytes ++ bytes }) } in (
      new,
      subst (λ (o : Option StoredFile). IsSomeAnd o (λ g. (length g.bytes + length bytes ≤ g.listed.length) × (new ≡ record old { half = Some (record g { bytes = g.bytes ++ bytes }) }))) (sym half) (fits, refl),
      record {
        ready = ready old.contents at.ready;
        sealed = sealed old.contents at.ready ∙ at.sealed;
        half = more old.contents f at.ready is;
      },
    )

-- a snapshot becomes current
pub switch_step : (v : View) (s : Store) (old : Stage) (manifest : List ℕ) (listed : List Listed) → All (λ f. is_held s f ≡ true) listed → IsAt v s old → Step old (Switch manifest listed) (record { contents = switched old.contents manifest (stored_files s v.bytes listed); sealed = []; half = None })
switch_step v s old manifest listed held at =
    let shows = shown v s old at in
    let whole : map (file_at v.bytes) (whole_files s) ≡ whole_of old = whole_stand s old.contents v.bytes shows.stands shows.knows ∙ ap (λ (l : List StoredFile). old.contents.files ++ l) at.sealed in
    let found : map (found_in (whole_of old)) listed ≡ map (λ f. Some f) (stored_files s v.bytes listed) = subst (λ (l : List StoredFile). map (found_in l) listed ≡ map (λ f. Some f) (stored_files s v.bytes listed)) whole (stored_found (whole_files s) v.bytes listed held) in
    (stored_files s v.bytes listed, found, refl)

pub switches : (v w : View) (s t : Store) (old : Stage) (manifest : List ℕ) (listed : List Listed) → All (λ f. is_held s f ≡ true) listed → ((p : Contents) → IsReady v s p → IsReady w t (switched p manifest (stored_files s v.bytes listed))) → t.staged ≡ [] → t.half ≡ None → IsAt v s old → (new : Stage) × Step old (Switch manifest listed) new × IsAt w t new
switches v w s t old manifest listed held ready sealed idle at = (
  record { contents = switched old.contents manifest (stored_files s v.bytes listed); sealed = []; half = None },
  switch_step v s old manifest listed held at,
  record {
    ready = ready old.contents at.ready;
    sealed = ap (λ (l : List Placed). map (file_at w.bytes) l) sealed;
    half = half_none t w.bytes idle;
  },
)

pub switch_moments : (v w : View) (s : Store) (old : Stage) (manifest : List ℕ) (listed : List Listed) → All (λ f. is_held s f ≡ true) listed → ((p : Contents) → IsReady v s p → LeavesOnly (Either p (switched p manifest (stored_files s v.bytes listed))) v w) → IsAt v s old → LeavesOnly (StandsForSome old (Switch manifest listed ∷ [])) v w
switch_moments v w s old manifest listed held moments at =
    let new : Stage = record { contents = switched old.contents manifest (stored_files s v.bytes listed); sealed = []; half = None } in
    weaker v w (Either old.contents new.contents) (StandsForSome old (Switch manifest listed ∷ [])) (λ c either. elim either [
      | inl before ↦ none_made old (Switch manifest listed) c before
      | inr after ↦ one_made old new (Switch manifest listed) c (switch_step v s old manifest listed held at) after
    ]) (moments old.contents at.ready)

-- the store is opened again
pub opens : (v w : View) (s t : Store) (old : Stage) → (v.told → StandsFor old.contents v.bytes → IsReady w t old.contents) → t.staged ≡ [] → t.half ≡ None → IsAt v s old → (new : Stage) × Step old Open new × IsAt w t new
opens v w s t old ready sealed idle at = (
  record old { sealed = []; half = None },
  refl,
  record {
    ready = ready at.ready.settled.told (settled_read v old.contents at.ready.settled);
    sealed = ap (λ (l : List Placed). map (file_at w.bytes) l) sealed;
    half = half_none t w.bytes idle;
  },
)

-- what follows where a call has passed
pub on_ok : {A E : Type 0} (r : Result A E) (P Q : Type 0) → (P → Q) → OnOk r P → OnOk r Q
on_ok (Ok x) P Q follows holds = follows holds
on_ok (Err e) P Q follows holds = holds

-- a call that touches no disk leaves the contents
pub begin_at : (v : View) (s t : Store) (file : Listed) → ((c : List ℕ) (old : Stage) → Shows s c old → (new : Stage) × Step old (Begin file) new × Shows t c new) → (old : Stage) → IsAt v s old → (new : Stage) × Step old (Begin file) new × IsAt v t new
begin_at v s t file stepped old at =
    let next = stepped v.bytes old (shown v s old at) in
    (next.0, next.1, at_same v s t old next.0 (ap (λ (stage : Stage). stage.contents) next.1.3) at next.2)
