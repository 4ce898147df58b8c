use Rattle.std.proofs.Common.{◌≡◌, ℕ, get_or, ◌∙◌, ap, arith}
use Rattle.sg_disk.specs.View.{range}
use Rattle.sg_disk.proofs.Ranges.{byte_in}
use Rattle.sg_journal.proofs.record.field.Goals as goal

pub returns : goal.returns
returns c =
    let bytes = c.args.bytes.now in
    let place = c.args.place in
    let zero : get_or (range bytes place 4) 0 0 ≡ get_or bytes place 0 = byte_in bytes place 4 0 (omega arith) ∙ ap (λ (k : ℕ). get_or bytes k 0) (omega arith) in
    omega (arith, c.from_le_bytes.ensures, zero, byte_in bytes place 4 1 (omega arith), byte_in bytes place 4 2 (omega arith), byte_in bytes place 4 3 (omega arith))
