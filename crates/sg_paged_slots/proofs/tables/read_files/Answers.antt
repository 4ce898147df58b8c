use Rattle.std.proofs.Common.{◌≡◌, ℕ, ◌+◌, ◌*◌, ◌∙◌, List, true, false, sym, ap, subst, length, arith}
use Rattle.sg_placing.specs.declared.placed.Placed.{Placed}
use Rattle.sg_disk.specs.declared.places.TheConstants.{ENTRY_LEN, TABLE}
use Rattle.sg_slots.specs.Bytes.{placed_at}
use Rattle.sg_slots.specs.Slots.{slot_place}
use Rattle.sg_slots.specs.declared.fault.OpenFault.TheVariants.{Damaged}
use Rattle.sg_slots.proofs.SlotLemmas.{length-entries, damaged_as}
use Rattle.sg_paged_slots.specs.PagedDamage.{is_file_entry}
use Rattle.sg_paged_slots.proofs.FileLemmas.{reads_files_none, reads_files_more, reads_files_refused, reads_files_all}
use Rattle.sg_paged_slots.proofs.tables.read_files.Goals as goal

pub loop-i-init : goal.loop-i-init
loop-i-init c = reads_files_none c.args.room (slot_place c.args.slot + TABLE) c.args.count c.args.table.now c.clear.new.self c.clear.ensures

pub loop-i-preserved : goal.loop-i-preserved
loop-i-preserved c =
    let read_of : c.placed_in-entry.result ≡ placed_at c.args.table.now (ENTRY_LEN * c.loop-i.i) = c.placed_in-entry.ensures ∙ ap (λ (k : ℕ). placed_at c.args.table.now (ENTRY_LEN * k)) c.from.ensures in
    let sound = subst (λ (l : List Placed). is_file_entry c.args.room c.loop-i.before l c.placed_in-entry.result ≡ true) c.files.ensures (sym c.if-not-is_sound.ensures.value) in
    reads_files_more c.args.room (slot_place c.args.slot + TABLE) c.args.count c.args.table.now c.loop-i.i c.loop-i.before c.loop-i.pages _ c.loop-i.files c.push.new.self c.placed_in-entry.result c.loop-i-test.true read_of sound (ap (λ (n : ℕ). c.loop-i.pages + n) c.pages_for-pages.ensures.value) (omega (arith, c.is_sound.ensures.fit c.if-not-is_sound.false, c.pages_for-pages.ensures.value)) (c.is_sound.ensures.placed c.if-not-is_sound.false) c.push.ensures.both c.loop-i.invariant

pub returns-then-not-is_sound-clause-damaged : goal.returns-then-not-is_sound-clause-damaged
returns-then-not-is_sound-clause-damaged c place found is =
    let at : c.place.result + TABLE + ENTRY_LEN * c.from-then-not-is_sound.result ≡ slot_place c.args.slot + TABLE + ENTRY_LEN * c.loop-i.i = omega (arith, c.place.ensures, c.from-then-not-is_sound.ensures) in
    let read_of : c.placed_in-entry.result ≡ placed_at c.args.table.now (ENTRY_LEN * c.loop-i.i) = c.placed_in-entry.ensures ∙ ap (λ (k : ℕ). placed_at c.args.table.now (ENTRY_LEN * k)) c.from.ensures in
    let unsound = subst (λ (l : List Placed). is_file_entry c.args.room c.loop-i.before l c.placed_in-entry.result ≡ false) c.files.ensures (sym c.if-not-is_sound.ensures.value) in
    let same : c.damage.result ≡ Damaged place found = cc in
    reads_files_refused c.args.room (slot_place c.args.slot + TABLE) c.args.count c.args.table.now c.loop-i.i c.loop-i.before c.loop-i.pages c.loop-i.files c.placed_in-entry.result c.loop-i-test.true read_of unsound c.loop-i.invariant
    ∙ damaged_as (slot_place c.args.slot + TABLE + ENTRY_LEN * c.loop-i.i) c.placed_in-entry.result.file.media.0 place found (ap (λ (k : ℕ). Damaged k c.placed_in-entry.result.file.media.0) (sym at) ∙ sym c.damage.ensures ∙ same)

pub returns-clause-sound : goal.returns-clause-sound
returns-clause-sound c = reads_files_all c.args.room (slot_place c.args.slot + TABLE) c.args.count c.args.table.now c.loop-i.i c.loop-i.before c.loop-i.pages c.loop-i.files c.loop-i-test.false c.loop-i.invariant

pub push-requires-clause-few : goal.push-requires-clause-few
push-requires-clause-few c = omega (arith, length-entries c.args.table.now c.loop-i.i, ap length c.loop-i.invariant.files_are)
