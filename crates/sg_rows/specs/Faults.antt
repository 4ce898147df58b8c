-- A reading gives a value or the first fault; and what a function that reads answers.
use Rattle.std.specs.Prelude.{◌≡◌, Bool, true, false, Option, Some, None, Result, Ok, Err}
use Rattle.sg_rows.specs.declared.fault.RowFault.{RowFault}
use Rattle.sg_rows.specs.declared.fault.RowFault.TheVariants.{Memory}

-- one reading behind another: the first fault is the answer
infixl 10 ◌>>=◌
abbrev pub ◌>>=◌ : {F A B : Type 0} → Result A F → (A → Result B F) → Result B F
(Ok x) >>= f = f x
(Err e) >>= f = Err e

-- what has to be so, or the fault
abbrev pub needs : {F : Type 0} → Bool → F → Result (Unit {0}) F
needs true e = Ok tt
needs false e = Err e

-- what has to be there, or the fault
abbrev pub wants : {F A : Type 0} → Option A → F → Result A F
wants (Some x) e = Ok x
wants None e = Err e

-- what has no fault
abbrev pub faultless : {F G A : Type 0} → (G → F) → Option G → A → Result A F
faultless name None x = Ok x
faultless name (Some f) x = Err (name f)

-- a fault of what is read, and no want of memory
abbrev pub has_cause : RowFault → Bool
has_cause Memory = false
has_cause _ = true

-- the answer is what is read, under f, unless memory ran out: that is the one free answer
abbrev pub Gives : {X A : Type 0} → (X → A) → Result X RowFault → Result A RowFault → Type 0
Gives f (Ok x) reading = reading ≡ Ok (f x)
Gives f (Err e) reading = has_cause e ≡ true → reading ≡ Err e
