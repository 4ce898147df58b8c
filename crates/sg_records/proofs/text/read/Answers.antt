use Rattle.std.proofs.Common.{◌≡◌, ◌∙◌, Some, IsUtf8, ap, sym, subst}
use Rattle.serde_json.specs.Errors.{IsMemory}
use Rattle.serde_json.specs.Read.{read}
use Rattle.sg_rows.proofs.Compact.{IsUtf8-compact_text}
use Rattle.sg_records.proofs.text.read.Goals as goal

pub returns-else-is_memory : goal.returns-else-is_memory
returns-else-is_memory c json plain is again =
    let utf8 : IsUtf8 c.args.bytes.now = subst IsUtf8 (sym is) (IsUtf8-compact_text json plain) in
    let other : IsMemory c.in-Err.error → ⊥ = (λ m. let yes = c.is_memory.ensures.1 m in let no = c.if-is_memory.false in absurd (cc)) in
    let none = c.in-Err.ensures.err other utf8 in
    let some : read c.args.bytes.now ≡ Some json = ap read is ∙ again in
    absurd (cc)
