use Rattle.std.proofs.Common.{◌≡◌, ◌⊎◌, inl, inr, ◌++◌, ◌+◌, ◌*◌, ◌<◌, ◌≤◌, ◌^◌, ◌==◌, not, ℕ, Bool, true, List, Option, All, AllPairs, length, map, refl, sym, ◌∙◌, ap, subst, arith}
use Rattle.sg_base.specs.declared.file.Listed.{Listed}
use Rattle.sg_base.specs.declared.limits.TheConstants.{MANIFEST_TEXT}
use Rattle.sg_disk.specs.View.{View}
use Rattle.sg_disk.specs.Contents.{Contents, StoredFile, switched}
use Rattle.sg_disk.specs.StandsFor.{Two}
use Rattle.sg_disk.specs.declared.places.TheConstants.{DATA}
use Rattle.sg_disk.proofs.Moments.{weaker}
use Rattle.sg_pages.specs.Shelves.{Shelved, stands}
use Rattle.sg_pages.specs.declared.maps.TheConstants.{MAP_LEN}
use Rattle.sg_slots.specs.Bytes.{head_fields}
use Rattle.sg_slots.specs.Slots.{opposite}
use Rattle.sg_contents.specs.StandsFor.{StandsForOne, Either, disk_len}
use Rattle.sg_contents.proofs.Standing.{between_after, either_one}
use Rattle.sg_staging.specs.Staged.{Staged, nothing_staged, whole_files, is_among, chosen, IsStagedIn}
use Rattle.sg_staging.proofs.StageLemmas.{chosen_fit}
use Rattle.sg_switching.specs.Switching.{HasSpare, IsNext, IsSwitched}
use Rattle.sg_store_state.specs.State.{State, IsKept, whole_stands, is_held}
use Rattle.sg_store_state.specs.Ready.{stored_files, IsReady}
use Rattle.sg_store_state.proofs.NextLemmas.{Asks, TakesOver, next_of, spare_of, ready_switched}
use Rattle.sg_paged_store.proofs.SwitchLemmas.{rows_next, kept_switched}
use Rattle.sg_paged_store.proofs.store.Store.switch.Goals as goal

pub gather-requires-clause-current : goal.gather-requires-clause-current
gather-requires-clause-current g c = c.self.invariant.0.placed.filled

pub gather-requires-clause-sealed : goal.gather-requires-clause-sealed
gather-requires-clause-sealed g c = c.self.invariant.0.placed.sealed

pub gather-requires-clause-held : goal.gather-requires-clause-held
gather-requires-clause-held g c = subst (λ (x : State). All (λ f. is_held x f ≡ true) c.args.files.now) (sym c.self.view_is) c.requires.held

pub gather-requires-clause-pages : goal.gather-requires-clause-pages
gather-requires-clause-pages g c = chosen_fit c.self.inside.room c.self.inside.current c.self.inside.staging c.args.files.now c.self.invariant.0.whole.high c.self.invariant.0.placed c.requires.ascending (subst (λ (x : State). All (λ f. is_held x f ≡ true) c.args.files.now) (sym c.self.view_is) c.requires.held)

pub write_snapshot-requires-clause-room : goal.write_snapshot-requires-clause-room
write_snapshot-requires-clause-room g c = c.self.invariant.0.whole.high

pub write_snapshot-requires-clause-disk : goal.write_snapshot-requires-clause-disk
write_snapshot-requires-clause-disk g c = c.requires.disk ∙ ap (λ (x : State). disk_len x.room) (sym c.self.view_is)

pub returns-in_err-write_snapshot-clause-any_moment : goal.returns-in_err-write_snapshot-clause-any_moment
returns-in_err-write_snapshot-clause-any_moment g c p ready =
    let s : State = c.args.self.now in
    let v : View = g.D.Disk.view c.args.disk.now in
    let text : List ℕ = c.args.manifest.now in
    let files : List Listed = c.args.files.now in
    let kept = subst (λ (x : State). IsStagedIn x.room x.current x.staged) c.self.view_is c.self.invariant.0.placed in
    let left = subst (λ (x : State). x.number ≡ 4294967295 → ⊥) c.self.view_is c.if-self.false in
    let asks : Asks s text files = record { few = c.requires.few; ascending = c.requires.ascending; held = c.requires.held; small = c.gather.ensures.ids; some = c.requires.some; long = c.requires.long; left = left } in
    let stand = c.gather.ensures.stands ∙ ap (λ (x : State). map (chosen (whole_stands x)) files) c.self.view_is in
    let head_is = c.head_fields_of-head.ensures ∙ ap (λ (x : State). head_fields (x.number + 1) (length text) (length files)) c.self.view_is in
    let next = next_of v s p text files c.gather.new.next c.head_fields_of-head.result c.as_slice.result.now c.as_slice-2.result.now ready kept asks c.gather.ensures.filled stand head_is (c.as_slice.ensures.value ∙ c.gather.ensures.table) (c.as_slice-2.ensures.value ∙ c.gather.ensures.entries) in
    let spare = subst (λ (x : State). HasSpare v x.spare x.spare_open p) (sym c.self.view_is) (spare_of v s p ready) in
    let at = sym (ap (λ (x : State). x.room) c.self.view_is ∙ ready.knows.room) in
    c.write_snapshot.ensures.any_moment p (stored_files s v.bytes files) at spare next

pub returns-clause-any_moment : goal.returns-clause-any_moment
returns-clause-any_moment g c p ready =
    let s : State = c.args.self.now in
    let v : View = g.D.Disk.view c.args.disk.now in
    let text : List ℕ = c.args.manifest.now in
    let files : List Listed = c.args.files.now in
    let kept = subst (λ (x : State). IsStagedIn x.room x.current x.staged) c.self.view_is c.self.invariant.0.placed in
    let left = subst (λ (x : State). x.number ≡ 4294967295 → ⊥) c.self.view_is c.if-self.false in
    let asks : Asks s text files = record { few = c.requires.few; ascending = c.requires.ascending; held = c.requires.held; small = c.gather.ensures.ids; some = c.requires.some; long = c.requires.long; left = left } in
    let stand = c.gather.ensures.stands ∙ ap (λ (x : State). map (chosen (whole_stands x)) files) c.self.view_is in
    let head_is = c.head_fields_of-head.ensures ∙ ap (λ (x : State). head_fields (x.number + 1) (length text) (length files)) c.self.view_is in
    let next = next_of v s p text files c.gather.new.next c.head_fields_of-head.result c.as_slice.result.now c.as_slice-2.result.now ready kept asks c.gather.ensures.filled stand head_is (c.as_slice.ensures.value ∙ c.gather.ensures.table) (c.as_slice-2.ensures.value ∙ c.gather.ensures.entries) in
    let spare = subst (λ (x : State). HasSpare v x.spare x.spare_open p) (sym c.self.view_is) (spare_of v s p ready) in
    let at = sym (ap (λ (x : State). x.room) c.self.view_is ∙ ready.knows.room) in
    c.write_snapshot.ensures.any_moment p (stored_files s v.bytes files) at spare next

pub returns-in_err-write_snapshot-clause-between : goal.returns-in_err-write_snapshot-clause-between
returns-in_err-write_snapshot-clause-between g c is p ready =
    let s : State = c.args.self.now in
    let v : View = g.D.Disk.view c.args.disk.now in
    let w : View = g.D.Disk.view c.write_snapshot.new.disk in
    let q : Contents = switched p c.args.manifest.now (stored_files s v.bytes c.args.files.now) in
    between_after v w (Two p q) ready.settled.told (weaker v w (Either p q) (StandsForOne (Two p q)) (either_one p q) (returns-in_err-write_snapshot-clause-any_moment g c p ready)) c.in_err-write_snapshot.ensures.broke.told

pub returns-clause-ready : goal.returns-clause-ready
returns-clause-ready g c p ready =
    let s : State = c.args.self.now in
    let v : View = g.D.Disk.view c.args.disk.now in
    let x : View = g.D.Disk.view c.write_snapshot.new.disk in
    let text : List ℕ = c.args.manifest.now in
    let files : List Listed = c.args.files.now in
    let kept = subst (λ (y : State). IsStagedIn y.room y.current y.staged) c.self.view_is c.self.invariant.0.placed in
    let left = subst (λ (y : State). y.number ≡ 4294967295 → ⊥) c.self.view_is c.if-self.false in
    let asks : Asks s text files = record { few = c.requires.few; ascending = c.requires.ascending; held = c.requires.held; small = c.gather.ensures.ids; some = c.requires.some; long = c.requires.long; left = left } in
    let stand = c.gather.ensures.stands ∙ ap (λ (y : State). map (chosen (whole_stands y)) files) c.self.view_is in
    let head_is = c.head_fields_of-head.ensures ∙ ap (λ (y : State). head_fields (y.number + 1) (length text) (length files)) c.self.view_is in
    let next = next_of v s p text files c.gather.new.next c.head_fields_of-head.result c.as_slice.result.now c.as_slice-2.result.now ready kept asks c.gather.ensures.filled stand head_is (c.as_slice.ensures.value ∙ c.gather.ensures.table) (c.as_slice-2.ensures.value ∙ c.gather.ensures.entries) in
    let spare = subst (λ (y : State). HasSpare v y.spare y.spare_open p) (sym c.self.view_is) (spare_of v s p ready) in
    let at = sym (ap (λ (y : State). y.room) c.self.view_is ∙ ready.knows.room) in
    let t : State = record { display = c.self.inside.display; epoch = c.self.inside.epoch; room = c.self.inside.room; number = c.self.inside.number + 1; text = length text; spare = c.opposite-self-inside.result; spare_open = not (c.self.inside.number == 0); current = c.swap.new.x; staged = c.clear.new.self } in
    let takes : TakesOver s t text c.gather.new.next = record {
      display = ap (λ (y : State). y.display) c.self.view_is;
      epoch = ap (λ (y : State). y.epoch) c.self.view_is;
      room = ap (λ (y : State). y.room) c.self.view_is;
      number = ap (λ (y : State). y.number + 1) c.self.view_is;
      text_is = refl;
      current = c.swap.ensures.x_after;
      staged = c.clear.ensures;
      spare = c.opposite-self-inside.ensures ∙ ap (λ (y : State). opposite y.spare) c.self.view_is;
      gate = ap (λ (y : State). not (y.number == 0)) c.self.view_is;
    } in
    let files_are : List StoredFile = stored_files s v.bytes files in
    let done = subst (λ (y : State). IsSwitched x y.spare p text files_are) c.self.view_is (c.in_ok-write_snapshot.ensures.next p files_are at spare next) in
    ready_switched v x s t p text files c.gather.new.next ready kept asks stand done takes

pub returns-clause-files : goal.returns-clause-files
returns-clause-files g c =
    let held = subst (λ (x : State). All (λ f. is_held x f ≡ true) c.args.files.now) (sym c.self.view_is) c.requires.held in
    ap (λ (k : Shelved). map (λ p. p.file) k.files) c.swap.ensures.x_after ∙ rows_next c.gather.new.next (whole_files c.self.inside.current c.self.inside.staging) c.args.files.now c.gather.ensures.stands held

pub invariant_of-self-2 : goal.invariant_of-self-2
invariant_of-self-2 g c =
    let room : ℕ = c.self.inside.room in
    let n : ℕ = length c.args.manifest.now in
    let held = subst (λ (x : State). All (λ f. is_held x f ≡ true) c.args.files.now) (sym c.self.view_is) c.requires.held in
    let kept = kept_switched room c.self.inside.text c.self.inside.current c.gather.new.next c.self.inside.staging c.args.files.now c.self.invariant.0 c.requires.ascending held c.gather.ensures.filled c.gather.ensures.stands n c.requires.long in
    (subst (λ (k : Shelved). IsKept room n k c.clear.new.self) (sym c.swap.ensures.x_after) (subst (λ (k : Staged). IsKept room n c.gather.new.next k) (sym c.clear.ensures) kept), c.gather.ensures.table_room, c.gather.ensures.entries_room)

pub returns-in_err-write_snapshot-clause-keeps : goal.returns-in_err-write_snapshot-clause-keeps
returns-in_err-write_snapshot-clause-keeps g c place n clear beside = c.write_snapshot.ensures.keeps place n clear (subst (λ (y : State). (place + n ≤ DATA + y.room) ⊎ (DATA + y.room + 2 * MAP_LEN ≤ place)) (sym c.self.view_is) beside)

pub returns-clause-keeps : goal.returns-clause-keeps
returns-clause-keeps g c place n clear beside = c.write_snapshot.ensures.keeps place n clear (subst (λ (y : State). (place + n ≤ DATA + y.room) ⊎ (DATA + y.room + 2 * MAP_LEN ≤ place)) (sym c.self.view_is) beside)
