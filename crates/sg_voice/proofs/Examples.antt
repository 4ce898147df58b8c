-- Worked examples: the definitions give what was worked out by hand. Each is proved by computing it.
use Rattle.std.proofs.Common.{◌≡◌, ℕ, ◌-◌, List, [], ◌∷◌, map, length, refl}
use Rattle.sg_voice.specs.declared.play.Play.{Play}
use Rattle.sg_voice.specs.declared.play.Interrupt.{Interrupt}
use Rattle.sg_voice.specs.declared.play.Slot.{Slot}
use Rattle.sg_voice.specs.Hour.{total, interrupt_plays, normal_count, slots_of, covering, event_seconds}

-- a normal play of a minute, and an interrupt of half a minute with a share
abbrev minute : List Play
minute = record { event = 1; layout = 2; seconds = 60 } ∷ []

abbrev half_minute : ℕ → ℕ → Interrupt
half_minute e share = record { event = e; layout = 3; seconds = 30; share = share }

abbrev slot : ℕ → ℕ → ℕ → ℕ → Slot
slot e l at seconds = record { event = e; layout = l; place = at; seconds = seconds }

-- a share of 600 s is 20 plays, and 50 normal plays have the rest
share_600 : (length (interrupt_plays (half_minute 9 600 ∷ [])) ≡ 20) × (normal_count minute 3000 ≡ 50)
unfolding interrupt_plays normal_count
share_600 = (refl, refl)

share_600_slots : (covering 0 (slots_of minute (half_minute 9 600 ∷ [])) ≡ slot 1 2 0 60) × (covering 60 (slots_of minute (half_minute 9 600 ∷ [])) ≡ slot 1 2 60 60) × (covering 120 (slots_of minute (half_minute 9 600 ∷ [])) ≡ slot 9 3 120 30) × (covering 150 (slots_of minute (half_minute 9 600 ∷ [])) ≡ slot 1 2 150 60) × (covering 3540 (slots_of minute (half_minute 9 600 ∷ [])) ≡ slot 1 2 3540 60)
unfolding interrupt_plays normal_count
share_600_slots = (refl, refl, refl, refl, refl)

-- one second more is a play more, and the hour's end cuts the last normal play
share_601 : (length (interrupt_plays (half_minute 9 601 ∷ [])) ≡ 21) × (covering 3599 (slots_of minute (half_minute 9 601 ∷ [])) ≡ slot 1 2 3570 30)
unfolding interrupt_plays normal_count
share_601 = (refl, refl)

-- 3599 s are all of the hour
share_3599 : (length (interrupt_plays (half_minute 9 3599 ∷ [])) ≡ 120) × (event_seconds 1 (slots_of minute (half_minute 9 3599 ∷ [])) ≡ 0)
unfolding interrupt_plays normal_count
share_3599 = (refl, refl)

-- 3570 s leave room for half a normal play, which is the last
share_3570 : (length (interrupt_plays (half_minute 9 3570 ∷ [])) ≡ 119) × (covering 3569 (slots_of minute (half_minute 9 3570 ∷ [])) ≡ slot 9 3 3540 30) × (covering 3570 (slots_of minute (half_minute 9 3570 ∷ [])) ≡ slot 1 2 3570 30)
unfolding interrupt_plays normal_count
share_3570 = (refl, refl, refl)

abbrev two_kinds : List Interrupt
two_kinds = half_minute 10 60 ∷ record { event = 11; layout = 4; seconds = 20; share = 50 } ∷ []

-- two interrupts play in rounds, and the one with more plays goes on alone
two_in_rounds : (map (λ p. p.event) (interrupt_plays two_kinds) ≡ 10 ∷ 11 ∷ 10 ∷ 11 ∷ 11 ∷ []) × (normal_count minute (3600 - total (interrupt_plays two_kinds)) ≡ 58)
unfolding interrupt_plays normal_count
two_in_rounds = (refl, refl)

two_in_rounds_slots : (covering 660 (slots_of minute two_kinds) ≡ slot 10 3 660 30) × (covering 690 (slots_of minute two_kinds) ≡ slot 1 2 690 60) × (covering 1410 (slots_of minute two_kinds) ≡ slot 11 4 1410 20) × (covering 1429 (slots_of minute two_kinds) ≡ slot 11 4 1410 20) × (covering 1430 (slots_of minute two_kinds) ≡ slot 1 2 1430 60) × (covering 3540 (slots_of minute two_kinds) ≡ slot 1 2 3540 60)
unfolding interrupt_plays normal_count
two_in_rounds_slots = (refl, refl, refl, refl, refl, refl)

-- two halves fill the hour
two_halves : (event_seconds 9 (slots_of minute (half_minute 9 1800 ∷ half_minute 10 1800 ∷ [])) ≡ 1800) × (event_seconds 10 (slots_of minute (half_minute 9 1800 ∷ half_minute 10 1800 ∷ [])) ≡ 1800) × (event_seconds 1 (slots_of minute (half_minute 9 1800 ∷ half_minute 10 1800 ∷ [])) ≡ 0)
unfolding interrupt_plays normal_count
two_halves = (refl, refl, refl)

-- two hours are cut
two_hours : (event_seconds 9 (slots_of minute (half_minute 9 3600 ∷ half_minute 10 3600 ∷ [])) ≡ 1800) × (event_seconds 10 (slots_of minute (half_minute 9 3600 ∷ half_minute 10 3600 ∷ [])) ≡ 1800)
unfolding interrupt_plays normal_count
two_hours = (refl, refl)

-- normal plays alone come in turn, and what lies past the hour is left out
in_turn : slots_of (record { event = 1; layout = 2; seconds = 2000 } ∷ record { event = 2; layout = 3; seconds = 1000 } ∷ record { event = 3; layout = 4; seconds = 900 } ∷ record { event = 4; layout = 5; seconds = 10 } ∷ []) [] ≡ slot 1 2 0 2000 ∷ slot 2 3 2000 1000 ∷ slot 3 4 3000 600 ∷ []
unfolding interrupt_plays normal_count
in_turn = refl

again : slots_of (record { event = 1; layout = 2; seconds = 1000 } ∷ record { event = 2; layout = 3; seconds = 900 } ∷ []) [] ≡ slot 1 2 0 1000 ∷ slot 2 3 1000 900 ∷ slot 1 2 1900 1000 ∷ slot 2 3 2900 700 ∷ []
unfolding interrupt_plays normal_count
again = refl
