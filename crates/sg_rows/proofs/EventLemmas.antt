-- The layer of an event that was accepted.
use Rattle.std.proofs.Common.{◌≡◌, ℕ, ◌≤◌, nat_lt, Bool, true, false, Option, Some, None, refl}
use Rattle.std.proofs.lemmas.Bool.{ltb-false}
use Rattle.std.specs.Prelude.{if◌then◌else◌}
use Rattle.sg_base.specs.declared.limits.TheConstants.{MAX_LAYER}
use Rattle.sg_base.specs.declared.event.When.{When}
use Rattle.sg_base.specs.declared.event.Target.{Target}
use Rattle.sg_base.specs.declared.event.EventFault.{EventFault}
use Rattle.sg_base.specs.declared.event.EventFault.TheVariants.{BadLayer}
use Rattle.sg_base.specs.Faults.{first_of}
use Rattle.sg_base.specs.Repeat.{RepeatRow}
use Rattle.sg_base.specs.Event.{numbers_fault, time_fault, repeat_fault, layer_fault, event_fault}
use Rattle.sg_base.proofs.FaultLemmas.{first_none}
use Rattle.sg_rows.specs.declared.form.RowForm.{RowForm}
use Rattle.sg_rows.specs.declared.form.RowForm.TheVariants.{Version1, Version2, Edit}
use Rattle.sg_rows.specs.Forms.{AllowsLayer}

low_layer : (b : Bool) (layer : ℕ) (rest : Option EventFault) → nat_lt MAX_LAYER layer ≡ b → (if b then Some BadLayer else rest) ≡ None → layer ≤ MAX_LAYER
low_layer true layer rest e is = absurd (cc)
low_layer false layer rest e is = ltb-false MAX_LAYER layer e

few_layers : (layer : ℕ) (target : Target) (w : When) (repeat : Option RepeatRow) (order priority share : ℕ)
    → event_fault layer target w repeat order priority share ≡ None → layer ≤ MAX_LAYER
few_layers layer target w repeat order priority share h =
    let a = first_none (numbers_fault target order priority share) (first_of (time_fault w) (first_of (repeat_fault w repeat) (layer_fault layer target share))) h in
    let b = first_none (time_fault w) (first_of (repeat_fault w repeat) (layer_fault layer target share)) a.1 in
    let c = first_none (repeat_fault w repeat) (layer_fault layer target share) b.1 in
    low_layer (nat_lt MAX_LAYER layer) layer _ refl c.1

-- an event that is accepted has a layer that its form allows, where version 1 gives it none
pub layer_allowed : (form : RowForm) (layer : ℕ) (target : Target) (w : When) (repeat : Option RepeatRow) (order priority share : ℕ)
    → event_fault layer target w repeat order priority share ≡ None → (form ≡ Version1 → layer ≡ 0) → AllowsLayer form layer
layer_allowed Version1 layer target w repeat order priority share h first = first refl
layer_allowed Version2 layer target w repeat order priority share h first = few_layers layer target w repeat order priority share h
layer_allowed Edit layer target w repeat order priority share h first = few_layers layer target w repeat order priority share h
