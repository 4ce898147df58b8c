-- What one exchange over a link is, and what a link tells of it.
use Rattle.std.specs.Prelude.{ℕ, List, [], ◌∷◌, length, take, Result, Ok, Err, None, Some}
use Rattle.std.specs.declared.option.Option.{Option}
use Rattle.sg_outside.specs.Lists.{Grows}
use Rattle.sg_devices.specs.declared.link.Exchange.{Exchange}

-- what came: the bytes at the front of the room, or nothing where the exchange failed
abbrev pub answer_of : {E : Type 0} → Result ℕ E → List ℕ → Option (List ℕ)
answer_of (Ok n) bytes = Some (take n bytes)
answer_of (Err e) bytes = None

abbrev pub exchange_by : List ℕ → ℕ → Option (List ℕ) → List ℕ → Exchange
exchange_by request room answer note = record { request = request; room = room; answer = answer; note = note }

-- the link tells one exchange more, also where it failed; the note is the link's own
abbrev pub Tells : {E : Type 0} → Option (List Exchange) → Option (List Exchange) → List ℕ → Result ℕ E → List ℕ → Type 0
Tells old new request result room = (note : List ℕ)
    × Grows old new (exchange_by request (length room) (answer_of result room) note ∷ [])
