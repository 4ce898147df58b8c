use Rattle.std.proofs.Common.{◌≡◌, inl, inr, ℕ, ◌+◌, ◌≤◌, ◌==◌, not, All, Bool, false, List, [], ◌∷◌, length, map, ◌∙◌, ◌-◌, ◌*◌, ap, subst, sym, arith, if◌then◌else◌}
use Rattle.sg_disk.specs.View.{put, Only}
use Rattle.sg_disk.specs.Runs.{LeavesOnly, Within}
use Rattle.sg_disk.specs.Contents.{switched}
use Rattle.sg_disk.specs.StandsFor.{StandsFor, Either, StandsForOne, Two}
use Rattle.sg_disk.specs.declared.places.TheConstants.{FIELDS, JOURNAL, JOURNAL_LEN, SLOT_LEN, SLOT_ZERO, TABLE, TABLE_LEN, TEXT}
use Rattle.sg_disk.proofs.Moments.{weaker, joined}
use Rattle.sg_disk.proofs.Writes.{within_wider, within_joined, one_kept}
use Rattle.sg_disk.proofs.Keeping.{keeps_within}
use Rattle.sg_disk.proofs.Standing.{between_after, either_one}
use Rattle.sg_placing.specs.Placing.{IsPlaced, AreAscending}
use Rattle.sg_placing.specs.declared.placed.Placed.{Placed}
use Rattle.sg_slots.specs.Bytes.{head_fields}
use Rattle.sg_slots.specs.Slots.{slot_place, opposite}
use Rattle.sg_store.specs.Ready.{whole_files, chosen, stored_files}
use Rattle.sg_slots.specs.declared.slots.Slot.{Slot}
use Rattle.sg_slots.proofs.SlotLemmas.{place_high}
use Rattle.sg_store.proofs.ChoiceLemmas.{chosen_placed, chosen_files}
use Rattle.sg_store.proofs.DistinctLemmas.{ascending_files}
use Rattle.sg_store.proofs.SwitchLemmas.{place_low, closing, closed_after, filling, opening}
use Rattle.sg_store.proofs.FillLemmas.{Asks, TakesOver, whole_placed, filled_by, ready_switched}
use Rattle.sg_store.proofs.store.Store.switch.Goals as goal

pub returns-in_err-close_gate-clause-any_moment : goal.returns-in_err-close_gate-clause-any_moment
returns-in_err-close_gate-clause-any_moment g c p ready =
    let u = g.D.Disk.view c.args.disk.now in
    let v = g.D.Disk.view c.close_gate.new.disk in
    let s = c.args.self.now in
    let at : c.place.result ≡ slot_place s.spare = c.place.ensures ∙ ap slot_place c.gather.ensures.snapshot.spare in
    let close : Within (slot_place s.spare) 1 u v = subst (λ (k : ℕ). Within k 1 u v) at c.close_gate.ensures.within in
    let placed = whole_placed s s.current_placed s.staged_placed in
    let asks : Asks s c.args.manifest.now c.args.files.now = record { few = c.requires.few; ascending = c.requires.ascending; held = c.requires.held; some = c.requires.some; long = c.requires.long; left = c.if-self.false } in
    let F = stored_files s u.bytes c.args.files.now in
    let q = switched p c.args.manifest.now F in
    let untouched : s.spare_open ≡ false → LeavesOnly u.images u v = λ shut. c.close_gate.ensures.untouched (c.gather.ensures.snapshot.spare_open ∙ shut) in
    let one = closing u v s p ready close untouched in
    weaker u v (StandsFor p) (Either p q) (λ (d : List ℕ) is. inl is) one

pub returns-in_err-fill_slot-clause-any_moment : goal.returns-in_err-fill_slot-clause-any_moment
returns-in_err-fill_slot-clause-any_moment g c p ready =
    let u = g.D.Disk.view c.args.disk.now in
    let v = g.D.Disk.view c.close_gate.new.disk in
    let s = c.args.self.now in
    let at : c.place.result ≡ slot_place s.spare = c.place.ensures ∙ ap slot_place c.gather.ensures.snapshot.spare in
    let close : Within (slot_place s.spare) 1 u v = subst (λ (k : ℕ). Within k 1 u v) at c.close_gate.ensures.within in
    let placed = whole_placed s s.current_placed s.staged_placed in
    let asks : Asks s c.args.manifest.now c.args.files.now = record { few = c.requires.few; ascending = c.requires.ascending; held = c.requires.held; some = c.requires.some; long = c.requires.long; left = c.if-self.false } in
    let F = stored_files s u.bytes c.args.files.now in
    let q = switched p c.args.manifest.now F in
    let untouched : s.spare_open ≡ false → LeavesOnly u.images u v = λ shut. c.close_gate.ensures.untouched (c.gather.ensures.snapshot.spare_open ∙ shut) in
    let one = closing u v s p ready close untouched in
    let w = g.D.Disk.view c.fill_slot.new.disk in
    let told_v = c.in_ok-close_gate.ensures.ran.told ready.settled.told in
    let closed = closed_after u v s p ready told_v (c.in_ok-close_gate.ensures.durable ready.settled.told) (c.in_ok-close_gate.ensures.written ready.settled.told ∙ ap (λ (k : ℕ). if c.gather.new.self.spare_open then put u.bytes k (0 ∷ []) else u.bytes) at ∙ ap (λ (b : Bool). if b then put u.bytes (slot_place s.spare) (0 ∷ []) else u.bytes) c.gather.ensures.snapshot.spare_open) close one in
    let filling_in : Within (slot_place s.spare + FIELDS) (SLOT_LEN - FIELDS) v w = subst (λ (x : Slot). Within (slot_place x + FIELDS) (SLOT_LEN - FIELDS) v w) c.gather.ensures.snapshot.spare c.fill_slot.ensures.within in
    let two = filling v w p s.spare closed filling_in in
    joined u v w (Either p q) (weaker u v (StandsFor p) (Either p q) (λ (d : List ℕ) is. inl is) one) (weaker v w (StandsFor p) (Either p q) (λ (d : List ℕ) is. inl is) two)

pub returns-in_err-write_synced-clause-any_moment : goal.returns-in_err-write_synced-clause-any_moment
returns-in_err-write_synced-clause-any_moment g c p ready =
    let u = g.D.Disk.view c.args.disk.now in
    let v = g.D.Disk.view c.close_gate.new.disk in
    let s = c.args.self.now in
    let at : c.place.result ≡ slot_place s.spare = c.place.ensures ∙ ap slot_place c.gather.ensures.snapshot.spare in
    let close : Within (slot_place s.spare) 1 u v = subst (λ (k : ℕ). Within k 1 u v) at c.close_gate.ensures.within in
    let placed = whole_placed s s.current_placed s.staged_placed in
    let asks : Asks s c.args.manifest.now c.args.files.now = record { few = c.requires.few; ascending = c.requires.ascending; held = c.requires.held; some = c.requires.some; long = c.requires.long; left = c.if-self.false } in
    let F = stored_files s u.bytes c.args.files.now in
    let q = switched p c.args.manifest.now F in
    let untouched : s.spare_open ≡ false → LeavesOnly u.images u v = λ shut. c.close_gate.ensures.untouched (c.gather.ensures.snapshot.spare_open ∙ shut) in
    let one = closing u v s p ready close untouched in
    let w = g.D.Disk.view c.fill_slot.new.disk in
    let told_v = c.in_ok-close_gate.ensures.ran.told ready.settled.told in
    let closed = closed_after u v s p ready told_v (c.in_ok-close_gate.ensures.durable ready.settled.told) (c.in_ok-close_gate.ensures.written ready.settled.told ∙ ap (λ (k : ℕ). if c.gather.new.self.spare_open then put u.bytes k (0 ∷ []) else u.bytes) at ∙ ap (λ (b : Bool). if b then put u.bytes (slot_place s.spare) (0 ∷ []) else u.bytes) c.gather.ensures.snapshot.spare_open) close one in
    let filling_in : Within (slot_place s.spare + FIELDS) (SLOT_LEN - FIELDS) v w = subst (λ (x : Slot). Within (slot_place x + FIELDS) (SLOT_LEN - FIELDS) v w) c.gather.ensures.snapshot.spare c.fill_slot.ensures.within in
    let two = filling v w p s.spare closed filling_in in
    let x = g.D.Disk.view c.write_synced.new.disk in
    let told_w = c.in_ok-fill_slot.ensures.ran.told told_v in
    let head_is = c.head_fields_of-head.ensures ∙ ap (λ (n : ℕ). head_fields (n + 1) (length c.args.manifest.now) (length c.args.files.now)) c.gather.ensures.snapshot.number in
    let written = c.in_ok-fill_slot.ensures.written told_v ∙ ap (λ (y : Slot). put (put (put v.bytes (slot_place y + FIELDS) c.head_fields_of-head.result) (slot_place y + TABLE) c.as_slice.result.now) (slot_place y + TEXT) c.args.manifest.now) c.gather.ensures.snapshot.spare in
    let table_is = c.as_slice.ensures.value ∙ c.gather.ensures.table in
    let fits : length c.as_slice.result.now ≤ TABLE_LEN = omega (arith, ap length c.as_slice.ensures.value, c.gather.ensures.len) in
    let filled = filled_by u v w s p c.args.manifest.now c.args.files.now c.head_fields_of-head.result c.as_slice.result.now ready placed asks closed close told_w (c.in_ok-fill_slot.ensures.stable told_v) filling_in two written head_is table_is fits in
    let at_2 : c.place-2.result ≡ slot_place s.spare = c.place-2.ensures ∙ ap slot_place c.gather.ensures.snapshot.spare in
    let open_in : Within (slot_place s.spare) 1 w x = subst (λ (k : ℕ). Within k 1 w x) at_2 c.write_synced.ensures.within in
    let three = opening w x p s.spare c.args.manifest.now F filled open_in in
    joined u w x (Either p q) (joined u v w (Either p q) (weaker u v (StandsFor p) (Either p q) (λ (d : List ℕ) is. inl is) one) (weaker v w (StandsFor p) (Either p q) (λ (d : List ℕ) is. inl is) two)) three

pub returns-clause-any_moment : goal.returns-clause-any_moment
returns-clause-any_moment g c p ready =
    let u = g.D.Disk.view c.args.disk.now in
    let v = g.D.Disk.view c.close_gate.new.disk in
    let s = c.args.self.now in
    let at : c.place.result ≡ slot_place s.spare = c.place.ensures ∙ ap slot_place c.gather.ensures.snapshot.spare in
    let close : Within (slot_place s.spare) 1 u v = subst (λ (k : ℕ). Within k 1 u v) at c.close_gate.ensures.within in
    let placed = whole_placed s s.current_placed s.staged_placed in
    let asks : Asks s c.args.manifest.now c.args.files.now = record { few = c.requires.few; ascending = c.requires.ascending; held = c.requires.held; some = c.requires.some; long = c.requires.long; left = c.if-self.false } in
    let F = stored_files s u.bytes c.args.files.now in
    let q = switched p c.args.manifest.now F in
    let untouched : s.spare_open ≡ false → LeavesOnly u.images u v = λ shut. c.close_gate.ensures.untouched (c.gather.ensures.snapshot.spare_open ∙ shut) in
    let one = closing u v s p ready close untouched in
    let w = g.D.Disk.view c.fill_slot.new.disk in
    let told_v = c.in_ok-close_gate.ensures.ran.told ready.settled.told in
    let closed = closed_after u v s p ready told_v (c.in_ok-close_gate.ensures.durable ready.settled.told) (c.in_ok-close_gate.ensures.written ready.settled.told ∙ ap (λ (k : ℕ). if c.gather.new.self.spare_open then put u.bytes k (0 ∷ []) else u.bytes) at ∙ ap (λ (b : Bool). if b then put u.bytes (slot_place s.spare) (0 ∷ []) else u.bytes) c.gather.ensures.snapshot.spare_open) close one in
    let filling_in : Within (slot_place s.spare + FIELDS) (SLOT_LEN - FIELDS) v w = subst (λ (x : Slot). Within (slot_place x + FIELDS) (SLOT_LEN - FIELDS) v w) c.gather.ensures.snapshot.spare c.fill_slot.ensures.within in
    let two = filling v w p s.spare closed filling_in in
    let x = g.D.Disk.view c.write_synced.new.disk in
    let told_w = c.in_ok-fill_slot.ensures.ran.told told_v in
    let head_is = c.head_fields_of-head.ensures ∙ ap (λ (n : ℕ). head_fields (n + 1) (length c.args.manifest.now) (length c.args.files.now)) c.gather.ensures.snapshot.number in
    let written = c.in_ok-fill_slot.ensures.written told_v ∙ ap (λ (y : Slot). put (put (put v.bytes (slot_place y + FIELDS) c.head_fields_of-head.result) (slot_place y + TABLE) c.as_slice.result.now) (slot_place y + TEXT) c.args.manifest.now) c.gather.ensures.snapshot.spare in
    let table_is = c.as_slice.ensures.value ∙ c.gather.ensures.table in
    let fits : length c.as_slice.result.now ≤ TABLE_LEN = omega (arith, ap length c.as_slice.ensures.value, c.gather.ensures.len) in
    let filled = filled_by u v w s p c.args.manifest.now c.args.files.now c.head_fields_of-head.result c.as_slice.result.now ready placed asks closed close told_w (c.in_ok-fill_slot.ensures.stable told_v) filling_in two written head_is table_is fits in
    let at_2 : c.place-2.result ≡ slot_place s.spare = c.place-2.ensures ∙ ap slot_place c.gather.ensures.snapshot.spare in
    let open_in : Within (slot_place s.spare) 1 w x = subst (λ (k : ℕ). Within k 1 w x) at_2 c.write_synced.ensures.within in
    let three = opening w x p s.spare c.args.manifest.now F filled open_in in
    joined u w x (Either p q) (joined u v w (Either p q) (weaker u v (StandsFor p) (Either p q) (λ (d : List ℕ) is. inl is) one) (weaker v w (StandsFor p) (Either p q) (λ (d : List ℕ) is. inl is) two)) three

pub returns-in_err-close_gate-clause-within : goal.returns-in_err-close_gate-clause-within
returns-in_err-close_gate-clause-within g c =
    let u = g.D.Disk.view c.args.disk.now in
    let v = g.D.Disk.view c.close_gate.new.disk in
    let s = c.args.self.now in
    let at : c.place.result ≡ slot_place s.spare = c.place.ensures ∙ ap slot_place c.gather.ensures.snapshot.spare in
    let close : Within (slot_place s.spare) 1 u v = subst (λ (k : ℕ). Within k 1 u v) at c.close_gate.ensures.within in
    let high = place_high s.spare in
    let low = place_low s.spare in
    within_wider (slot_place s.spare) 1 SLOT_ZERO (2 * SLOT_LEN) u v (omega (arith, low)) (omega (arith, high)) close

pub returns-in_err-fill_slot-clause-within : goal.returns-in_err-fill_slot-clause-within
returns-in_err-fill_slot-clause-within g c =
    let u = g.D.Disk.view c.args.disk.now in
    let v = g.D.Disk.view c.close_gate.new.disk in
    let s = c.args.self.now in
    let at : c.place.result ≡ slot_place s.spare = c.place.ensures ∙ ap slot_place c.gather.ensures.snapshot.spare in
    let close : Within (slot_place s.spare) 1 u v = subst (λ (k : ℕ). Within k 1 u v) at c.close_gate.ensures.within in
    let high = place_high s.spare in
    let low = place_low s.spare in
    let first = within_wider (slot_place s.spare) 1 SLOT_ZERO (2 * SLOT_LEN) u v (omega (arith, low)) (omega (arith, high)) close in
    let w = g.D.Disk.view c.fill_slot.new.disk in
    let filling_in : Within (slot_place s.spare + FIELDS) (SLOT_LEN - FIELDS) v w = subst (λ (x : Slot). Within (slot_place x + FIELDS) (SLOT_LEN - FIELDS) v w) c.gather.ensures.snapshot.spare c.fill_slot.ensures.within in
    let second = within_joined SLOT_ZERO (2 * SLOT_LEN) u v w c.in_ok-close_gate.ensures.ran.told first (within_wider (slot_place s.spare + FIELDS) (SLOT_LEN - FIELDS) SLOT_ZERO (2 * SLOT_LEN) v w (omega (arith, low)) (omega (arith, high)) filling_in) in
    second

pub returns-in_err-write_synced-clause-within : goal.returns-in_err-write_synced-clause-within
returns-in_err-write_synced-clause-within g c =
    let u = g.D.Disk.view c.args.disk.now in
    let v = g.D.Disk.view c.close_gate.new.disk in
    let s = c.args.self.now in
    let at : c.place.result ≡ slot_place s.spare = c.place.ensures ∙ ap slot_place c.gather.ensures.snapshot.spare in
    let close : Within (slot_place s.spare) 1 u v = subst (λ (k : ℕ). Within k 1 u v) at c.close_gate.ensures.within in
    let high = place_high s.spare in
    let low = place_low s.spare in
    let first = within_wider (slot_place s.spare) 1 SLOT_ZERO (2 * SLOT_LEN) u v (omega (arith, low)) (omega (arith, high)) close in
    let w = g.D.Disk.view c.fill_slot.new.disk in
    let filling_in : Within (slot_place s.spare + FIELDS) (SLOT_LEN - FIELDS) v w = subst (λ (x : Slot). Within (slot_place x + FIELDS) (SLOT_LEN - FIELDS) v w) c.gather.ensures.snapshot.spare c.fill_slot.ensures.within in
    let second = within_joined SLOT_ZERO (2 * SLOT_LEN) u v w c.in_ok-close_gate.ensures.ran.told first (within_wider (slot_place s.spare + FIELDS) (SLOT_LEN - FIELDS) SLOT_ZERO (2 * SLOT_LEN) v w (omega (arith, low)) (omega (arith, high)) filling_in) in
    let x = g.D.Disk.view c.write_synced.new.disk in
    let at_2 : c.place-2.result ≡ slot_place s.spare = c.place-2.ensures ∙ ap slot_place c.gather.ensures.snapshot.spare in
    let open_in : Within (slot_place s.spare) 1 w x = subst (λ (k : ℕ). Within k 1 w x) at_2 c.write_synced.ensures.within in
    within_joined SLOT_ZERO (2 * SLOT_LEN) u w x (λ told. c.in_ok-fill_slot.ensures.ran.told (c.in_ok-close_gate.ensures.ran.told told)) second (within_wider (slot_place s.spare) 1 SLOT_ZERO (2 * SLOT_LEN) w x (omega (arith, low)) (omega (arith, high)) open_in)

pub returns-clause-within : goal.returns-clause-within
returns-clause-within g c =
    let u = g.D.Disk.view c.args.disk.now in
    let v = g.D.Disk.view c.close_gate.new.disk in
    let s = c.args.self.now in
    let at : c.place.result ≡ slot_place s.spare = c.place.ensures ∙ ap slot_place c.gather.ensures.snapshot.spare in
    let close : Within (slot_place s.spare) 1 u v = subst (λ (k : ℕ). Within k 1 u v) at c.close_gate.ensures.within in
    let high = place_high s.spare in
    let low = place_low s.spare in
    let first = within_wider (slot_place s.spare) 1 SLOT_ZERO (2 * SLOT_LEN) u v (omega (arith, low)) (omega (arith, high)) close in
    let w = g.D.Disk.view c.fill_slot.new.disk in
    let filling_in : Within (slot_place s.spare + FIELDS) (SLOT_LEN - FIELDS) v w = subst (λ (x : Slot). Within (slot_place x + FIELDS) (SLOT_LEN - FIELDS) v w) c.gather.ensures.snapshot.spare c.fill_slot.ensures.within in
    let second = within_joined SLOT_ZERO (2 * SLOT_LEN) u v w c.in_ok-close_gate.ensures.ran.told first (within_wider (slot_place s.spare + FIELDS) (SLOT_LEN - FIELDS) SLOT_ZERO (2 * SLOT_LEN) v w (omega (arith, low)) (omega (arith, high)) filling_in) in
    let x = g.D.Disk.view c.write_synced.new.disk in
    let at_2 : c.place-2.result ≡ slot_place s.spare = c.place-2.ensures ∙ ap slot_place c.gather.ensures.snapshot.spare in
    let open_in : Within (slot_place s.spare) 1 w x = subst (λ (k : ℕ). Within k 1 w x) at_2 c.write_synced.ensures.within in
    within_joined SLOT_ZERO (2 * SLOT_LEN) u w x (λ told. c.in_ok-fill_slot.ensures.ran.told (c.in_ok-close_gate.ensures.ran.told told)) second (within_wider (slot_place s.spare) 1 SLOT_ZERO (2 * SLOT_LEN) w x (omega (arith, low)) (omega (arith, high)) open_in)

pub take_over-requires-clause-placed : goal.take_over-requires-clause-placed
take_over-requires-clause-placed g c =
    let s = c.args.self.now in
    let placed = whole_placed s s.current_placed s.staged_placed in
    let all = chosen_placed s.room (whole_files s) c.args.files.now c.requires.held placed in
    subst (λ (n : ℕ). All (IsPlaced n) c.gather.new.self.next) (sym c.gather.ensures.snapshot.room) (subst (All (IsPlaced s.room)) (sym c.gather.ensures.next) all)

pub returns-clause-ready : goal.returns-clause-ready
returns-clause-ready g c p ready =
    let u = g.D.Disk.view c.args.disk.now in
    let v = g.D.Disk.view c.close_gate.new.disk in
    let s = c.args.self.now in
    let at : c.place.result ≡ slot_place s.spare = c.place.ensures ∙ ap slot_place c.gather.ensures.snapshot.spare in
    let close : Within (slot_place s.spare) 1 u v = subst (λ (k : ℕ). Within k 1 u v) at c.close_gate.ensures.within in
    let placed = whole_placed s s.current_placed s.staged_placed in
    let asks : Asks s c.args.manifest.now c.args.files.now = record { few = c.requires.few; ascending = c.requires.ascending; held = c.requires.held; some = c.requires.some; long = c.requires.long; left = c.if-self.false } in
    let F = stored_files s u.bytes c.args.files.now in
    let q = switched p c.args.manifest.now F in
    let untouched : s.spare_open ≡ false → LeavesOnly u.images u v = λ shut. c.close_gate.ensures.untouched (c.gather.ensures.snapshot.spare_open ∙ shut) in
    let one = closing u v s p ready close untouched in
    let w = g.D.Disk.view c.fill_slot.new.disk in
    let told_v = c.in_ok-close_gate.ensures.ran.told ready.settled.told in
    let closed = closed_after u v s p ready told_v (c.in_ok-close_gate.ensures.durable ready.settled.told) (c.in_ok-close_gate.ensures.written ready.settled.told ∙ ap (λ (k : ℕ). if c.gather.new.self.spare_open then put u.bytes k (0 ∷ []) else u.bytes) at ∙ ap (λ (b : Bool). if b then put u.bytes (slot_place s.spare) (0 ∷ []) else u.bytes) c.gather.ensures.snapshot.spare_open) close one in
    let filling_in : Within (slot_place s.spare + FIELDS) (SLOT_LEN - FIELDS) v w = subst (λ (x : Slot). Within (slot_place x + FIELDS) (SLOT_LEN - FIELDS) v w) c.gather.ensures.snapshot.spare c.fill_slot.ensures.within in
    let two = filling v w p s.spare closed filling_in in
    let x = g.D.Disk.view c.write_synced.new.disk in
    let told_w = c.in_ok-fill_slot.ensures.ran.told told_v in
    let head_is = c.head_fields_of-head.ensures ∙ ap (λ (n : ℕ). head_fields (n + 1) (length c.args.manifest.now) (length c.args.files.now)) c.gather.ensures.snapshot.number in
    let written = c.in_ok-fill_slot.ensures.written told_v ∙ ap (λ (y : Slot). put (put (put v.bytes (slot_place y + FIELDS) c.head_fields_of-head.result) (slot_place y + TABLE) c.as_slice.result.now) (slot_place y + TEXT) c.args.manifest.now) c.gather.ensures.snapshot.spare in
    let table_is = c.as_slice.ensures.value ∙ c.gather.ensures.table in
    let fits : length c.as_slice.result.now ≤ TABLE_LEN = omega (arith, ap length c.as_slice.ensures.value, c.gather.ensures.len) in
    let filled = filled_by u v w s p c.args.manifest.now c.args.files.now c.head_fields_of-head.result c.as_slice.result.now ready placed asks closed close told_w (c.in_ok-fill_slot.ensures.stable told_v) filling_in two written head_is table_is fits in
    let at_2 : c.place-2.result ≡ slot_place s.spare = c.place-2.ensures ∙ ap slot_place c.gather.ensures.snapshot.spare in
    let open_in : Within (slot_place s.spare) 1 w x = subst (λ (k : ℕ). Within k 1 w x) at_2 c.write_synced.ensures.within in
    let three = opening w x p s.spare c.args.manifest.now F filled open_in in
    let told_x = c.in_ok-write_synced.ensures.ran.told told_w in
    let bytes : x.bytes ≡ put w.bytes (slot_place s.spare) (1 ∷ []) = c.in_ok-write_synced.ensures.written told_w ∙ ap (λ (k : ℕ). put w.bytes k (1 ∷ [])) at_2 in
    let stable : Only x.bytes x = subst (λ (b : List ℕ). Only b x) (sym (c.in_ok-write_synced.ensures.written told_w)) (c.in_ok-write_synced.ensures.durable told_w) in
    let t = c.gather.new.self in
    let r = c.take_over.ensures in
    let keeps = c.gather.ensures.snapshot in
    let takes : TakesOver s c.take_over.new.self c.args.manifest.now c.args.files.now = record {
      display = r.display ∙ keeps.display;
      epoch = r.epoch ∙ keeps.epoch;
      room = r.room ∙ keeps.room;
      number = r.number ∙ ap (λ (n : ℕ). n + 1) keeps.number;
      text_is = r.text;
      current = r.current ∙ c.gather.ensures.next;
      staged = r.staged;
      half = r.half;
      spare = r.spare ∙ ap opposite keeps.spare;
      gate = r.gate ∙ ap (λ (n : ℕ). not (n == 0)) keeps.number;
    } in
    ready_switched u w x s c.take_over.new.self p c.args.manifest.now c.args.files.now ready asks filled told_x stable bytes open_in takes

pub returns-in_err-close_gate-clause-between : goal.returns-in_err-close_gate-clause-between
returns-in_err-close_gate-clause-between g c is p ready =
    let u = g.D.Disk.view c.args.disk.now in
    let v = g.D.Disk.view c.close_gate.new.disk in
    let s = c.args.self.now in
    let at : c.place.result ≡ slot_place s.spare = c.place.ensures ∙ ap slot_place c.gather.ensures.snapshot.spare in
    let close : Within (slot_place s.spare) 1 u v = subst (λ (k : ℕ). Within k 1 u v) at c.close_gate.ensures.within in
    let placed = whole_placed s s.current_placed s.staged_placed in
    let asks : Asks s c.args.manifest.now c.args.files.now = record { few = c.requires.few; ascending = c.requires.ascending; held = c.requires.held; some = c.requires.some; long = c.requires.long; left = c.if-self.false } in
    let F = stored_files s u.bytes c.args.files.now in
    let q = switched p c.args.manifest.now F in
    let untouched : s.spare_open ≡ false → LeavesOnly u.images u v = λ shut. c.close_gate.ensures.untouched (c.gather.ensures.snapshot.spare_open ∙ shut) in
    let one = closing u v s p ready close untouched in
    between_after u v (Two p q) ready.settled.told (weaker u v (Either p q) (StandsForOne (Two p q)) (either_one p q) (weaker u v (StandsFor p) (Either p q) (λ (d : List ℕ) is. inl is) one)) (λ told. c.in_err-close_gate.ensures.broke.told ready.settled.told)

pub returns-in_err-fill_slot-clause-between : goal.returns-in_err-fill_slot-clause-between
returns-in_err-fill_slot-clause-between g c is p ready =
    let u = g.D.Disk.view c.args.disk.now in
    let v = g.D.Disk.view c.close_gate.new.disk in
    let s = c.args.self.now in
    let at : c.place.result ≡ slot_place s.spare = c.place.ensures ∙ ap slot_place c.gather.ensures.snapshot.spare in
    let close : Within (slot_place s.spare) 1 u v = subst (λ (k : ℕ). Within k 1 u v) at c.close_gate.ensures.within in
    let placed = whole_placed s s.current_placed s.staged_placed in
    let asks : Asks s c.args.manifest.now c.args.files.now = record { few = c.requires.few; ascending = c.requires.ascending; held = c.requires.held; some = c.requires.some; long = c.requires.long; left = c.if-self.false } in
    let F = stored_files s u.bytes c.args.files.now in
    let q = switched p c.args.manifest.now F in
    let untouched : s.spare_open ≡ false → LeavesOnly u.images u v = λ shut. c.close_gate.ensures.untouched (c.gather.ensures.snapshot.spare_open ∙ shut) in
    let one = closing u v s p ready close untouched in
    let w = g.D.Disk.view c.fill_slot.new.disk in
    let told_v = c.in_ok-close_gate.ensures.ran.told ready.settled.told in
    let closed = closed_after u v s p ready told_v (c.in_ok-close_gate.ensures.durable ready.settled.told) (c.in_ok-close_gate.ensures.written ready.settled.told ∙ ap (λ (k : ℕ). if c.gather.new.self.spare_open then put u.bytes k (0 ∷ []) else u.bytes) at ∙ ap (λ (b : Bool). if b then put u.bytes (slot_place s.spare) (0 ∷ []) else u.bytes) c.gather.ensures.snapshot.spare_open) close one in
    let filling_in : Within (slot_place s.spare + FIELDS) (SLOT_LEN - FIELDS) v w = subst (λ (x : Slot). Within (slot_place x + FIELDS) (SLOT_LEN - FIELDS) v w) c.gather.ensures.snapshot.spare c.fill_slot.ensures.within in
    let two = filling v w p s.spare closed filling_in in
    between_after u w (Two p q) ready.settled.told (weaker u w (Either p q) (StandsForOne (Two p q)) (either_one p q) (joined u v w (Either p q) (weaker u v (StandsFor p) (Either p q) (λ (d : List ℕ) is. inl is) one) (weaker v w (StandsFor p) (Either p q) (λ (d : List ℕ) is. inl is) two))) (λ told. c.in_err-fill_slot.ensures.broke.told told_v)

pub returns-in_err-write_synced-clause-between : goal.returns-in_err-write_synced-clause-between
returns-in_err-write_synced-clause-between g c is p ready =
    let u = g.D.Disk.view c.args.disk.now in
    let v = g.D.Disk.view c.close_gate.new.disk in
    let s = c.args.self.now in
    let at : c.place.result ≡ slot_place s.spare = c.place.ensures ∙ ap slot_place c.gather.ensures.snapshot.spare in
    let close : Within (slot_place s.spare) 1 u v = subst (λ (k : ℕ). Within k 1 u v) at c.close_gate.ensures.within in
    let placed = whole_placed s s.current_placed s.staged_placed in
    let asks : Asks s c.args.manifest.now c.args.files.now = record { few = c.requires.few; ascending = c.requires.ascending; held = c.requires.held; some = c.requires.some; long = c.requires.long; left = c.if-self.false } in
    let F = stored_files s u.bytes c.args.files.now in
    let q = switched p c.args.manifest.now F in
    let untouched : s.spare_open ≡ false → LeavesOnly u.images u v = λ shut. c.close_gate.ensures.untouched (c.gather.ensures.snapshot.spare_open ∙ shut) in
    let one = closing u v s p ready close untouched in
    let w = g.D.Disk.view c.fill_slot.new.disk in
    let told_v = c.in_ok-close_gate.ensures.ran.told ready.settled.told in
    let closed = closed_after u v s p ready told_v (c.in_ok-close_gate.ensures.durable ready.settled.told) (c.in_ok-close_gate.ensures.written ready.settled.told ∙ ap (λ (k : ℕ). if c.gather.new.self.spare_open then put u.bytes k (0 ∷ []) else u.bytes) at ∙ ap (λ (b : Bool). if b then put u.bytes (slot_place s.spare) (0 ∷ []) else u.bytes) c.gather.ensures.snapshot.spare_open) close one in
    let filling_in : Within (slot_place s.spare + FIELDS) (SLOT_LEN - FIELDS) v w = subst (λ (x : Slot). Within (slot_place x + FIELDS) (SLOT_LEN - FIELDS) v w) c.gather.ensures.snapshot.spare c.fill_slot.ensures.within in
    let two = filling v w p s.spare closed filling_in in
    let x = g.D.Disk.view c.write_synced.new.disk in
    let told_w = c.in_ok-fill_slot.ensures.ran.told told_v in
    let head_is = c.head_fields_of-head.ensures ∙ ap (λ (n : ℕ). head_fields (n + 1) (length c.args.manifest.now) (length c.args.files.now)) c.gather.ensures.snapshot.number in
    let written = c.in_ok-fill_slot.ensures.written told_v ∙ ap (λ (y : Slot). put (put (put v.bytes (slot_place y + FIELDS) c.head_fields_of-head.result) (slot_place y + TABLE) c.as_slice.result.now) (slot_place y + TEXT) c.args.manifest.now) c.gather.ensures.snapshot.spare in
    let table_is = c.as_slice.ensures.value ∙ c.gather.ensures.table in
    let fits : length c.as_slice.result.now ≤ TABLE_LEN = omega (arith, ap length c.as_slice.ensures.value, c.gather.ensures.len) in
    let filled = filled_by u v w s p c.args.manifest.now c.args.files.now c.head_fields_of-head.result c.as_slice.result.now ready placed asks closed close told_w (c.in_ok-fill_slot.ensures.stable told_v) filling_in two written head_is table_is fits in
    let at_2 : c.place-2.result ≡ slot_place s.spare = c.place-2.ensures ∙ ap slot_place c.gather.ensures.snapshot.spare in
    let open_in : Within (slot_place s.spare) 1 w x = subst (λ (k : ℕ). Within k 1 w x) at_2 c.write_synced.ensures.within in
    let three = opening w x p s.spare c.args.manifest.now F filled open_in in
    between_after u x (Two p q) ready.settled.told (weaker u x (Either p q) (StandsForOne (Two p q)) (either_one p q) (joined u w x (Either p q) (joined u v w (Either p q) (weaker u v (StandsFor p) (Either p q) (λ (d : List ℕ) is. inl is) one) (weaker v w (StandsFor p) (Either p q) (λ (d : List ℕ) is. inl is) two)) three)) (λ told. c.in_err-write_synced.ensures.broke.told told_w)

pub returns-in_err-close_gate-clause-journal : goal.returns-in_err-close_gate-clause-journal
returns-in_err-close_gate-clause-journal g c told one =
    let u = g.D.Disk.view c.args.disk.now in
    let v = g.D.Disk.view c.close_gate.new.disk in
    let s = c.args.self.now in
    let at : c.place.result ≡ slot_place s.spare = c.place.ensures ∙ ap slot_place c.gather.ensures.snapshot.spare in
    let close : Within (slot_place s.spare) 1 u v = subst (λ (k : ℕ). Within k 1 u v) at c.close_gate.ensures.within in
    let high = place_high s.spare in
    let low = place_low s.spare in
    one_kept SLOT_ZERO (2 * SLOT_LEN) JOURNAL JOURNAL_LEN u v told (inr (omega arith)) one (within_wider (slot_place s.spare) 1 SLOT_ZERO (2 * SLOT_LEN) u v (omega (arith, low)) (omega (arith, high)) close)

pub returns-in_err-fill_slot-clause-journal : goal.returns-in_err-fill_slot-clause-journal
returns-in_err-fill_slot-clause-journal g c told one =
    let u = g.D.Disk.view c.args.disk.now in
    let v = g.D.Disk.view c.close_gate.new.disk in
    let s = c.args.self.now in
    let at : c.place.result ≡ slot_place s.spare = c.place.ensures ∙ ap slot_place c.gather.ensures.snapshot.spare in
    let close : Within (slot_place s.spare) 1 u v = subst (λ (k : ℕ). Within k 1 u v) at c.close_gate.ensures.within in
    let high = place_high s.spare in
    let low = place_low s.spare in
    let first = within_wider (slot_place s.spare) 1 SLOT_ZERO (2 * SLOT_LEN) u v (omega (arith, low)) (omega (arith, high)) close in
    let w = g.D.Disk.view c.fill_slot.new.disk in
    let filling_in : Within (slot_place s.spare + FIELDS) (SLOT_LEN - FIELDS) v w = subst (λ (x : Slot). Within (slot_place x + FIELDS) (SLOT_LEN - FIELDS) v w) c.gather.ensures.snapshot.spare c.fill_slot.ensures.within in
    let second = within_joined SLOT_ZERO (2 * SLOT_LEN) u v w c.in_ok-close_gate.ensures.ran.told first (within_wider (slot_place s.spare + FIELDS) (SLOT_LEN - FIELDS) SLOT_ZERO (2 * SLOT_LEN) v w (omega (arith, low)) (omega (arith, high)) filling_in) in
    one_kept SLOT_ZERO (2 * SLOT_LEN) JOURNAL JOURNAL_LEN u w told (inr (omega arith)) one (second)

pub returns-in_err-write_synced-clause-journal : goal.returns-in_err-write_synced-clause-journal
returns-in_err-write_synced-clause-journal g c told one =
    let u = g.D.Disk.view c.args.disk.now in
    let v = g.D.Disk.view c.close_gate.new.disk in
    let s = c.args.self.now in
    let at : c.place.result ≡ slot_place s.spare = c.place.ensures ∙ ap slot_place c.gather.ensures.snapshot.spare in
    let close : Within (slot_place s.spare) 1 u v = subst (λ (k : ℕ). Within k 1 u v) at c.close_gate.ensures.within in
    let high = place_high s.spare in
    let low = place_low s.spare in
    let first = within_wider (slot_place s.spare) 1 SLOT_ZERO (2 * SLOT_LEN) u v (omega (arith, low)) (omega (arith, high)) close in
    let w = g.D.Disk.view c.fill_slot.new.disk in
    let filling_in : Within (slot_place s.spare + FIELDS) (SLOT_LEN - FIELDS) v w = subst (λ (x : Slot). Within (slot_place x + FIELDS) (SLOT_LEN - FIELDS) v w) c.gather.ensures.snapshot.spare c.fill_slot.ensures.within in
    let second = within_joined SLOT_ZERO (2 * SLOT_LEN) u v w c.in_ok-close_gate.ensures.ran.told first (within_wider (slot_place s.spare + FIELDS) (SLOT_LEN - FIELDS) SLOT_ZERO (2 * SLOT_LEN) v w (omega (arith, low)) (omega (arith, high)) filling_in) in
    let x = g.D.Disk.view c.write_synced.new.disk in
    let at_2 : c.place-2.result ≡ slot_place s.spare = c.place-2.ensures ∙ ap slot_place c.gather.ensures.snapshot.spare in
    let open_in : Within (slot_place s.spare) 1 w x = subst (λ (k : ℕ). Within k 1 w x) at_2 c.write_synced.ensures.within in
    one_kept SLOT_ZERO (2 * SLOT_LEN) JOURNAL JOURNAL_LEN u x told (inr (omega arith)) one (within_joined SLOT_ZERO (2 * SLOT_LEN) u w x (λ told. c.in_ok-fill_slot.ensures.ran.told (c.in_ok-close_gate.ensures.ran.told told)) second (within_wider (slot_place s.spare) 1 SLOT_ZERO (2 * SLOT_LEN) w x (omega (arith, low)) (omega (arith, high)) open_in))

pub returns-clause-journal : goal.returns-clause-journal
returns-clause-journal g c told one =
    let u = g.D.Disk.view c.args.disk.now in
    let v = g.D.Disk.view c.close_gate.new.disk in
    let s = c.args.self.now in
    let at : c.place.result ≡ slot_place s.spare = c.place.ensures ∙ ap slot_place c.gather.ensures.snapshot.spare in
    let close : Within (slot_place s.spare) 1 u v = subst (λ (k : ℕ). Within k 1 u v) at c.close_gate.ensures.within in
    let high = place_high s.spare in
    let low = place_low s.spare in
    let first = within_wider (slot_place s.spare) 1 SLOT_ZERO (2 * SLOT_LEN) u v (omega (arith, low)) (omega (arith, high)) close in
    let w = g.D.Disk.view c.fill_slot.new.disk in
    let filling_in : Within (slot_place s.spare + FIELDS) (SLOT_LEN - FIELDS) v w = subst (λ (x : Slot). Within (slot_place x + FIELDS) (SLOT_LEN - FIELDS) v w) c.gather.ensures.snapshot.spare c.fill_slot.ensures.within in
    let second = within_joined SLOT_ZERO (2 * SLOT_LEN) u v w c.in_ok-close_gate.ensures.ran.told first (within_wider (slot_place s.spare + FIELDS) (SLOT_LEN - FIELDS) SLOT_ZERO (2 * SLOT_LEN) v w (omega (arith, low)) (omega (arith, high)) filling_in) in
    let x = g.D.Disk.view c.write_synced.new.disk in
    let at_2 : c.place-2.result ≡ slot_place s.spare = c.place-2.ensures ∙ ap slot_place c.gather.ensures.snapshot.spare in
    let open_in : Within (slot_place s.spare) 1 w x = subst (λ (k : ℕ). Within k 1 w x) at_2 c.write_synced.ensures.within in
    one_kept SLOT_ZERO (2 * SLOT_LEN) JOURNAL JOURNAL_LEN u x told (inr (omega arith)) one (within_joined SLOT_ZERO (2 * SLOT_LEN) u w x (λ told. c.in_ok-fill_slot.ensures.ran.told (c.in_ok-close_gate.ensures.ran.told told)) second (within_wider (slot_place s.spare) 1 SLOT_ZERO (2 * SLOT_LEN) w x (omega (arith, low)) (omega (arith, high)) open_in))

pub take_over-requires-clause-ascending : goal.take_over-requires-clause-ascending
take_over-requires-clause-ascending g c =
    let files = c.args.files.now in
    let whole = whole_files c.args.self.now in
    subst AreAscending (sym c.gather.ensures.next) (ascending_files (map (chosen whole) files) files (chosen_files whole files c.requires.held) c.requires.ascending)

pub returns-clause-files : goal.returns-clause-files
returns-clause-files g c =
    ap (λ (l : List Placed). map (λ p. p.file) l) (c.take_over.ensures.current ∙ c.gather.ensures.next) ∙ chosen_files (whole_files c.args.self.now) c.args.files.now c.requires.held

pub returns-in_err-close_gate-clause-keeps : goal.returns-in_err-close_gate-clause-keeps
returns-in_err-close_gate-clause-keeps g c place n clear = keeps_within SLOT_ZERO (2 * SLOT_LEN) place n (g.D.Disk.view c.args.disk.now) (g.D.Disk.view c.close_gate.new.disk) clear (returns-in_err-close_gate-clause-within g c)

pub returns-in_err-fill_slot-clause-keeps : goal.returns-in_err-fill_slot-clause-keeps
returns-in_err-fill_slot-clause-keeps g c place n clear = keeps_within SLOT_ZERO (2 * SLOT_LEN) place n (g.D.Disk.view c.args.disk.now) (g.D.Disk.view c.fill_slot.new.disk) clear (returns-in_err-fill_slot-clause-within g c)

pub returns-in_err-write_synced-clause-keeps : goal.returns-in_err-write_synced-clause-keeps
returns-in_err-write_synced-clause-keeps g c place n clear = keeps_within SLOT_ZERO (2 * SLOT_LEN) place n (g.D.Disk.view c.args.disk.now) (g.D.Disk.view c.write_synced.new.disk) clear (returns-in_err-write_synced-clause-within g c)

pub returns-clause-keeps : goal.returns-clause-keeps
returns-clause-keeps g c place n clear = keeps_within SLOT_ZERO (2 * SLOT_LEN) place n (g.D.Disk.view c.args.disk.now) (g.D.Disk.view c.write_synced.new.disk) clear (returns-clause-within g c)
