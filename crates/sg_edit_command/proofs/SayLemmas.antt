-- Bodies that say no edit.
use Rattle.std.proofs.Common.{◌≡◌, true, None, Err, ap, refl}
use Rattle.serde_json.specs.Data.{Data}
use Rattle.sg_bodies.specs.Bodies.{edit_body_in}
use Rattle.sg_edit_command.specs.Asking.{said_in}
use Rattle.sg_rows.specs.declared.fault.RowFault.{RowFault}
use Rattle.sg_rows.specs.declared.fault.RowFault.TheVariants.{Memory}
use Rattle.sg_rows.specs.Faults.{has_cause}

-- a fault that isn't want of memory is one of the JSON
pub not_said : (d : Data) (fault : RowFault) → (has_cause fault ≡ true → edit_body_in d ≡ Err fault) → (fault ≡ Memory → ⊥) → said_in (edit_body_in d) ≡ None
not_said d Memory gives other = absurd (other refl)
not_said d fault gives other = ap said_in (gives refl)
