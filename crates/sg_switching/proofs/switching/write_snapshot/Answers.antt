use Rattle.std.proofs.Common.{ℕ, [], ◌∷◌, if◌then◌else◌, sym, ◌∙◌, ap, subst}
use Rattle.sg_disk.specs.View.{View, put, Only}
use Rattle.sg_disk.specs.Runs.{Within}
use Rattle.sg_disk.specs.Contents.{switched}
use Rattle.sg_disk.proofs.Keeping.{keeps_joined}
use Rattle.sg_contents.specs.StandsFor.{disk_len}
use Rattle.sg_switching.proofs.FillLemmas.{Fits}
use Rattle.sg_switching.proofs.StepLemmas.{Touches, Closes, Writes, Fills, Opens, closing_leaves, filling_leaves, opening_leaves, switched_after, gate_keeps, fill_keeps}
use Rattle.sg_switching.proofs.switching.write_snapshot.Goals as goal

pub returns-in_err-close_gate-clause-any_moment : goal.returns-in_err-close_gate-clause-any_moment
returns-in_err-close_gate-clause-any_moment g c p files at has next =
    let u : View = g.D.Disk.view c.args.disk.now in
    let v : View = g.D.Disk.view c.close_gate.new.disk in
    let touches : Touches u v c.args.spare c.args.opened = record { within = subst (λ (k : ℕ). Within k 1 u v) c.place.ensures c.close_gate.ensures.within; untouched = c.close_gate.ensures.untouched } in
    closing_leaves u v c.args.spare c.args.opened p (switched p c.args.text.now files) touches has

pub returns-in_err-fill_paged_slot-clause-any_moment : goal.returns-in_err-fill_paged_slot-clause-any_moment
returns-in_err-fill_paged_slot-clause-any_moment g c p files at has next =
    let u : View = g.D.Disk.view c.args.disk.now in
    let v : View = g.D.Disk.view c.close_gate.new.disk in
    let w : View = g.D.Disk.view c.fill_paged_slot.new.disk in
    let touches : Touches u v c.args.spare c.args.opened = record { within = subst (λ (k : ℕ). Within k 1 u v) c.place.ensures c.close_gate.ensures.within; untouched = c.close_gate.ensures.untouched } in
    let closes : Closes u v c.args.spare c.args.opened = record { touches = touches; size = c.close_gate.ensures.size; tells = c.in_ok-close_gate.ensures.ran.told; stable = c.in_ok-close_gate.ensures.durable; bytes = λ told. c.in_ok-close_gate.ensures.written told ∙ ap (λ (k : ℕ). if c.args.opened then put u.bytes k (0 ∷ []) else u.bytes) c.place.ensures } in
    filling_leaves u v w c.args.spare c.args.opened p (switched p c.args.text.now files) closes (subst (λ (n : ℕ). Writes v w n c.args.spare) (sym at) c.fill_paged_slot.ensures.within) has

pub returns-in_err-write_synced-clause-any_moment : goal.returns-in_err-write_synced-clause-any_moment
returns-in_err-write_synced-clause-any_moment g c p files at has next =
    let u : View = g.D.Disk.view c.args.disk.now in
    let v : View = g.D.Disk.view c.close_gate.new.disk in
    let w : View = g.D.Disk.view c.fill_paged_slot.new.disk in
    let x : View = g.D.Disk.view c.write_synced.new.disk in
    let touches : Touches u v c.args.spare c.args.opened = record { within = subst (λ (k : ℕ). Within k 1 u v) c.place.ensures c.close_gate.ensures.within; untouched = c.close_gate.ensures.untouched } in
    let closes : Closes u v c.args.spare c.args.opened = record { touches = touches; size = c.close_gate.ensures.size; tells = c.in_ok-close_gate.ensures.ran.told; stable = c.in_ok-close_gate.ensures.durable; bytes = λ told. c.in_ok-close_gate.ensures.written told ∙ ap (λ (k : ℕ). if c.args.opened then put u.bytes k (0 ∷ []) else u.bytes) c.place.ensures } in
    let f = c.in_ok-fill_paged_slot.ensures in
    let fills : Fills v w c.args.room c.args.spare c.args.head.now c.args.table.now c.args.text.now c.args.map.now = record { within = c.fill_paged_slot.ensures.within; size = c.fill_paged_slot.ensures.size; tells = f.ran.told; stable = f.stable; written = f.written } in
    let fits : Fits c.args.head.now c.args.table.now c.args.text.now c.args.map.now = record { table_is = c.requires.table; text_is = c.requires.text; map_is = c.requires.map } in
    opening_leaves u v w x c.args.spare c.args.opened p files c.args.head.now c.args.table.now c.args.text.now c.args.map.now (c.requires.disk ∙ ap disk_len (sym at)) fits closes (subst (λ (n : ℕ). Fills v w n c.args.spare c.args.head.now c.args.table.now c.args.text.now c.args.map.now) (sym at) fills) (subst (λ (k : ℕ). Within k 1 w x) c.place-2.ensures c.write_synced.ensures.within) has next

pub returns-clause-any_moment : goal.returns-clause-any_moment
returns-clause-any_moment g c p files at has next =
    let u : View = g.D.Disk.view c.args.disk.now in
    let v : View = g.D.Disk.view c.close_gate.new.disk in
    let w : View = g.D.Disk.view c.fill_paged_slot.new.disk in
    let x : View = g.D.Disk.view c.write_synced.new.disk in
    let touches : Touches u v c.args.spare c.args.opened = record { within = subst (λ (k : ℕ). Within k 1 u v) c.place.ensures c.close_gate.ensures.within; untouched = c.close_gate.ensures.untouched } in
    let closes : Closes u v c.args.spare c.args.opened = record { touches = touches; size = c.close_gate.ensures.size; tells = c.in_ok-close_gate.ensures.ran.told; stable = c.in_ok-close_gate.ensures.durable; bytes = λ told. c.in_ok-close_gate.ensures.written told ∙ ap (λ (k : ℕ). if c.args.opened then put u.bytes k (0 ∷ []) else u.bytes) c.place.ensures } in
    let f = c.in_ok-fill_paged_slot.ensures in
    let fills : Fills v w c.args.room c.args.spare c.args.head.now c.args.table.now c.args.text.now c.args.map.now = record { within = c.fill_paged_slot.ensures.within; size = c.fill_paged_slot.ensures.size; tells = f.ran.told; stable = f.stable; written = f.written } in
    let fits : Fits c.args.head.now c.args.table.now c.args.text.now c.args.map.now = record { table_is = c.requires.table; text_is = c.requires.text; map_is = c.requires.map } in
    opening_leaves u v w x c.args.spare c.args.opened p files c.args.head.now c.args.table.now c.args.text.now c.args.map.now (c.requires.disk ∙ ap disk_len (sym at)) fits closes (subst (λ (n : ℕ). Fills v w n c.args.spare c.args.head.now c.args.table.now c.args.text.now c.args.map.now) (sym at) fills) (subst (λ (k : ℕ). Within k 1 w x) c.place-2.ensures c.write_synced.ensures.within) has next

pub returns-clause-next : goal.returns-clause-next
returns-clause-next g c p files at has next =
    let u : View = g.D.Disk.view c.args.disk.now in
    let v : View = g.D.Disk.view c.close_gate.new.disk in
    let w : View = g.D.Disk.view c.fill_paged_slot.new.disk in
    let x : View = g.D.Disk.view c.write_synced.new.disk in
    let touches : Touches u v c.args.spare c.args.opened = record { within = subst (λ (k : ℕ). Within k 1 u v) c.place.ensures c.close_gate.ensures.within; untouched = c.close_gate.ensures.untouched } in
    let closes : Closes u v c.args.spare c.args.opened = record { touches = touches; size = c.close_gate.ensures.size; tells = c.in_ok-close_gate.ensures.ran.told; stable = c.in_ok-close_gate.ensures.durable; bytes = λ told. c.in_ok-close_gate.ensures.written told ∙ ap (λ (k : ℕ). if c.args.opened then put u.bytes k (0 ∷ []) else u.bytes) c.place.ensures } in
    let f = c.in_ok-fill_paged_slot.ensures in
    let fills : Fills v w c.args.room c.args.spare c.args.head.now c.args.table.now c.args.text.now c.args.map.now = record { within = c.fill_paged_slot.ensures.within; size = c.fill_paged_slot.ensures.size; tells = f.ran.told; stable = f.stable; written = f.written } in
    let fits : Fits c.args.head.now c.args.table.now c.args.text.now c.args.map.now = record { table_is = c.requires.table; text_is = c.requires.text; map_is = c.requires.map } in
    let o = c.in_ok-write_synced.ensures in
    let opens : Opens w x c.args.spare = record { within = subst (λ (k : ℕ). Within k 1 w x) c.place-2.ensures c.write_synced.ensures.within; tells = o.ran.told; written = λ told. o.written told ∙ ap (λ (k : ℕ). put w.bytes k (1 ∷ [])) c.place-2.ensures; durable = λ told. subst (λ (k : ℕ). Only (put w.bytes k (1 ∷ [])) x) c.place-2.ensures (o.durable told) } in
    switched_after u v w x c.args.spare c.args.opened p files c.args.head.now c.args.table.now c.args.text.now c.args.map.now (c.requires.disk ∙ ap disk_len (sym at)) fits closes (subst (λ (n : ℕ). Fills v w n c.args.spare c.args.head.now c.args.table.now c.args.text.now c.args.map.now) (sym at) fills) opens has next

pub returns-in_err-close_gate-clause-keeps : goal.returns-in_err-close_gate-clause-keeps
returns-in_err-close_gate-clause-keeps g c place n clear beside =
    let u : View = g.D.Disk.view c.args.disk.now in
    let v : View = g.D.Disk.view c.close_gate.new.disk in
    gate_keeps u v c.args.spare place n clear (subst (λ (k : ℕ). Within k 1 u v) c.place.ensures c.close_gate.ensures.within)

pub returns-in_err-fill_paged_slot-clause-keeps : goal.returns-in_err-fill_paged_slot-clause-keeps
returns-in_err-fill_paged_slot-clause-keeps g c place n clear beside =
    let u : View = g.D.Disk.view c.args.disk.now in
    let v : View = g.D.Disk.view c.close_gate.new.disk in
    let w : View = g.D.Disk.view c.fill_paged_slot.new.disk in
    keeps_joined place n u v w c.in_ok-close_gate.ensures.ran.told (gate_keeps u v c.args.spare place n clear (subst (λ (k : ℕ). Within k 1 u v) c.place.ensures c.close_gate.ensures.within)) (fill_keeps v w c.args.room c.args.spare place n clear beside c.fill_paged_slot.ensures.within)

pub returns-in_err-write_synced-clause-keeps : goal.returns-in_err-write_synced-clause-keeps
returns-in_err-write_synced-clause-keeps g c place n clear beside =
    let u : View = g.D.Disk.view c.args.disk.now in
    let v : View = g.D.Disk.view c.close_gate.new.disk in
    let w : View = g.D.Disk.view c.fill_paged_slot.new.disk in
    let x : View = g.D.Disk.view c.write_synced.new.disk in
    keeps_joined place n u v x c.in_ok-close_gate.ensures.ran.told (gate_keeps u v c.args.spare place n clear (subst (λ (k : ℕ). Within k 1 u v) c.place.ensures c.close_gate.ensures.within)) (keeps_joined place n v w x c.in_ok-fill_paged_slot.ensures.ran.told (fill_keeps v w c.args.room c.args.spare place n clear beside c.fill_paged_slot.ensures.within) (gate_keeps w x c.args.spare place n clear (subst (λ (k : ℕ). Within k 1 w x) c.place-2.ensures c.write_synced.ensures.within)))

pub returns-clause-keeps : goal.returns-clause-keeps
returns-clause-keeps g c place n clear beside =
    let u : View = g.D.Disk.view c.args.disk.now in
    let v : View = g.D.Disk.view c.close_gate.new.disk in
    let w : View = g.D.Disk.view c.fill_paged_slot.new.disk in
    let x : View = g.D.Disk.view c.write_synced.new.disk in
    keeps_joined place n u v x c.in_ok-close_gate.ensures.ran.told (gate_keeps u v c.args.spare place n clear (subst (λ (k : ℕ). Within k 1 u v) c.place.ensures c.close_gate.ensures.within)) (keeps_joined place n v w x c.in_ok-fill_paged_slot.ensures.ran.told (fill_keeps v w c.args.room c.args.spare place n clear beside c.fill_paged_slot.ensures.within) (gate_keeps w x c.args.spare place n clear (subst (λ (k : ℕ). Within k 1 w x) c.place-2.ensures c.write_synced.ensures.within)))
