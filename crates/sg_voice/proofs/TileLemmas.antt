-- The slots of an hour follow each other from its start to its end.
use Rattle.std.proofs.Common.{◌≡◌, ℕ, ◌+◌, ◌-◌, ◌<◌, ◌≤◌, min, List, [], ◌∷◌, length, refl, sym, arith, inl, inr, subst}
use Rattle.std.specs.List.{AllByRecursion}
use Rattle.std.proofs.lemmas.Bool.{cond-true, cond-false, eq-eqb, ne_eqb, cases_lt, cases_eq}
use Rattle.sg_voice.specs.declared.play.Play.{Play}
use Rattle.sg_voice.specs.declared.play.Interrupt.{Interrupt}
use Rattle.sg_voice.specs.declared.play.Slot.{Slot}
use Rattle.sg_voice.specs.Hour.{IsPlay, IsInterrupt, total, interrupt_plays, normal_count, mixed_plays, hour_plays, placed, slots_of, Tiles}
use Rattle.sg_voice.proofs.SoundLemmas.{interrupt_plays_sound, all_mixed}
use Rattle.sg_voice.proofs.MixLemmas.{placed_none, placed_some}
use Rattle.sg_voice.proofs.WeightLemmas.{count_is_least, count_some, mixed_plays_weight}

-- plays that reach the end of the hour
pub placed_tile : (at : ℕ) (ps : List Play) → at ≤ 3600 → AllByRecursion IsPlay ps → 3600 ≤ at + total ps → Tiles at (placed at ps)
placed_tile at [] begun sound reach = omega arith
placed_tile at (p ∷ ps) begun sound reach =
    let T : List Slot → Type 0 = λ ss. Tiles at ss in
    elim (cases_lt at 3600) [
      | inl early ↦
          subst T (sym (placed_some at p ps early))
          (elim (cases_lt 3600 (at + p.seconds)) [
            | inl cut ↦
                let e : at + min p.seconds (3600 - at) ≡ 3600 = omega arith in
                let U : List Slot → Type 0 = λ ss. Tiles (at + min p.seconds (3600 - at)) ss in
                (refl, omega (arith, sound.0.some), omega arith, subst U (sym (placed_none (at + p.seconds) ps (omega arith))) e)
            | inr whole ↦
                let e : min p.seconds (3600 - at) ≡ p.seconds = omega arith in
                let U : ℕ → Type 0 = λ x. Tiles (at + x) (placed (at + p.seconds) ps) in
                (refl, omega (arith, sound.0.some), omega arith, subst U (sym e) (placed_tile (at + p.seconds) ps whole sound.1 (omega arith)))
          ])
      | inr late ↦
          let e : at ≡ 3600 = omega arith in
          subst T (sym (placed_none at (p ∷ ps) late)) e
    ]

-- the plays of an hour that the interrupts fill, and of one with room
pub plays_full : (ns bs : List Play) → 3600 - total bs ≡ 0 → hour_plays ns bs ≡ bs
plays_full ns bs full = cond-true _ _ _ (eq-eqb (3600 - total bs) 0 full)

pub plays_mixed : (ns bs : List Play) → 0 < 3600 - total bs → hour_plays ns bs ≡ mixed_plays (normal_count ns (3600 - total bs)) ns bs
plays_mixed ns bs room = cond-false _ _ _ (ne_eqb (3600 - total bs) 0 (λ z. omega (arith, z)))

hour_tile : (ns bs : List Play) → 0 < length ns → AllByRecursion IsPlay ns → AllByRecursion IsPlay bs → Tiles 0 (placed 0 (hour_plays ns bs))
hour_tile ns bs some sound between =
    let T : List Play → Type 0 = λ ps. Tiles 0 (placed 0 ps) in
    let room : ℕ = 3600 - total bs in
    elim (cases_eq room 0) [
      | inl full ↦ subst T (sym (plays_full ns bs full)) (placed_tile 0 bs (omega arith) between (omega arith))
      | inr left ↦
          let n : ℕ = normal_count ns room in
          let least = count_is_least ns room some sound in
          let more = count_some ns room (omega arith) least in
          subst T (sym (plays_mixed ns bs (omega arith)))
          (placed_tile 0 (mixed_plays n ns bs) (omega arith) (all_mixed IsPlay n ns bs n 0 some sound between)
          (omega (arith, least.reaches, mixed_plays_weight (λ p. p.seconds) n ns bs more)))
    ]

pub slots_tile : (ns : List Play) (is : List Interrupt) → 0 < length ns → AllByRecursion IsPlay ns → AllByRecursion IsInterrupt is → Tiles 0 (slots_of ns is)
slots_tile ns is some sound between = hour_tile ns (interrupt_plays is) some sound (interrupt_plays_sound is between)
