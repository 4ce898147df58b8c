use Rattle.std.proofs.Common.{◌≡◌, ℕ, ◌+◌, ◌*◌, ◌∙◌, sym, ap, length, arith}
use Rattle.sg_disk.specs.declared.places.TheConstants.{ENTRY_LEN, TABLE}
use Rattle.sg_slots.specs.Bytes.{placed_at}
use Rattle.sg_slots.specs.Slots.{slot_place}
use Rattle.sg_slots.specs.declared.fault.OpenFault.TheVariants.{Damaged}
use Rattle.sg_slots.proofs.SlotLemmas.{reads_none, reads_more, reads_refused, reads_all, length-entries, damaged_as}
use Rattle.sg_slots.proofs.slot_reads.read_entries.Goals as goal

pub loop-i-init : goal.loop-i-init
loop-i-init c = reads_none c.args.room (slot_place c.args.slot + TABLE) c.args.count c.args.table.now c.clear.new.self c.clear.ensures

pub push-requires : goal.push-requires
push-requires c = omega (arith, length-entries c.args.table.now c.loop-i.i, ap length c.loop-i.invariant.files_are)

pub loop-i-preserved : goal.loop-i-preserved
loop-i-preserved c =
    let yes = c.is_sound.ensures.value in
    let read_of : c.placed_in-entry.result ≡ placed_at c.args.table.now (ENTRY_LEN * c.loop-i.i) = c.placed_in-entry.ensures ∙ ap (λ (k : ℕ). placed_at c.args.table.now (ENTRY_LEN * k)) c.from.ensures in
    reads_more c.args.room (slot_place c.args.slot + TABLE) c.args.count c.args.table.now c.loop-i.i c.loop-i.before c.loop-i.files c.push.new.self c.placed_in-entry.result c.loop-i-test.true read_of (sym c.if-not-is_sound.ensures.value) (c.is_sound.ensures.placed c.if-not-is_sound.false) c.push.ensures c.loop-i.invariant

pub returns-then-not-is_sound-clause-damaged : goal.returns-then-not-is_sound-clause-damaged
returns-then-not-is_sound-clause-damaged c place found is =
    let at : c.place.result + TABLE + ENTRY_LEN * c.from-then-not-is_sound.result ≡ slot_place c.args.slot + TABLE + ENTRY_LEN * c.loop-i.i = omega (arith, c.place.ensures, c.from-then-not-is_sound.ensures) in
    let read_of : c.placed_in-entry.result ≡ placed_at c.args.table.now (ENTRY_LEN * c.loop-i.i) = c.placed_in-entry.ensures ∙ ap (λ (k : ℕ). placed_at c.args.table.now (ENTRY_LEN * k)) c.from.ensures in
    let same : c.damage.result ≡ Damaged place found = cc in
    reads_refused c.args.room (slot_place c.args.slot + TABLE) c.args.count c.args.table.now c.loop-i.i c.loop-i.before c.loop-i.files c.placed_in-entry.result c.loop-i-test.true read_of (sym c.if-not-is_sound.ensures.value) c.loop-i.invariant
    ∙ damaged_as (slot_place c.args.slot + TABLE + ENTRY_LEN * c.loop-i.i) c.placed_in-entry.result.file.media.0 place found (ap (λ (k : ℕ). Damaged k c.placed_in-entry.result.file.media.0) (sym at) ∙ sym c.damage.ensures ∙ same)

pub returns-clause-sound : goal.returns-clause-sound
returns-clause-sound c = reads_all c.args.room (slot_place c.args.slot + TABLE) c.args.count c.args.table.now c.loop-i.i c.loop-i.before c.loop-i.files c.loop-i-test.false c.loop-i.invariant

pub returns-clause-few : goal.returns-clause-few
returns-clause-few c = omega (arith, length-entries c.args.table.now c.loop-i.i, ap length c.loop-i.invariant.files_are)
