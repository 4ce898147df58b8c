-- Batches, written and read back.
use Rattle.std.proofs.Common.{◌≡◌, ℕ, ◌^◌, ◌<◌, ◌≤◌, List, [], ◌∷◌, length, map, refl, arith, lt-ltb}
use Rattle.std.specs.Prelude.{Ok, Some}
use Rattle.std.specs.List.{AllByRecursion}
use Rattle.std.proofs.lemmas.Bool.{le-leb}
use Rattle.serde_json.specs.Data.{Data}
use Rattle.serde_json.specs.View.{items_of}
use Rattle.serde_json.specs.Written.{compact_text}
use Rattle.sg_base.specs.declared.limits.TheConstants.{BATCH_PLAYS, LAST_MOMENT}
use Rattle.sg_base.specs.declared.play.PlayBody.{PlayBody}
use Rattle.sg_bodies.specs.Bodies.{IsPlay, IsPlays, PlaysParts, batch_at, json_at, moment_at, play_at, play_json, play_of, plays_body_in, plays_json}
use Rattle.sg_rows.specs.Parts.{count_of_items}
use Rattle.sg_rows.specs.Text.{list_of, whole}
use Rattle.sg_rows.proofs.AgainRows.{id_again, list_again, number_again}
use Rattle.sg_rows.proofs.CompactSound.{Sound, Sound-list, Sound-object, Sound-unsigned, is_utf8-Sound, read-Sound}

moment_again : (m : ℕ) → m ≤ LAST_MOMENT → moment_at (whole m) ≡ Ok m
unfolding moment_at
moment_again m early = rw (number_again m (omega arith), le-leb m LAST_MOMENT early) refl

play_again : (p : PlayBody) → IsPlay p → play_at (play_json p) ≡ Ok p
unfolding play_at play_of
play_again p h =
    let early : p.from ≤ LAST_MOMENT = omega (arith, h.later, h.early) in
    rw (number_again p.event h.event, id_again p.layout h.layout, moment_again p.from early, moment_again p.to h.early, lt-ltb p.from p.to h.later) refl

pub counted : {A : Type 0} (f : A → Data) (ps : List A) → count_of_items (items_of (map f ps)) ≡ length ps
counted f [] = refl
counted f (p ∷ ps) = grind (arith, counted f ps)

batch_again : (ps : List PlayBody) → 0 < length ps → length ps ≤ BATCH_PLAYS → AllByRecursion IsPlay ps → batch_at (list_of play_json ps) ≡ Ok ps
unfolding batch_at
batch_again ps some few all =
    rw (counted play_json ps, lt-ltb 0 (length ps) some, le-leb (length ps) BATCH_PLAYS few) (list_again play_json play_at IsPlay play_again ps all)

pub plays_again : (p : PlaysParts) → IsPlays p → plays_body_in (plays_json p) ≡ Ok p
unfolding plays_body_in
plays_again p h = rw (id_again p.epoch h.epoch, id_again p.first h.first, batch_again p.plays h.some h.few h.plays) refl

number_sound : {n : ℕ} (k : ℕ) → k < 2 ^ 32 → Sound n (whole k)
number_sound k h = Sound-unsigned k (omega arith)

play_sound : (p : PlayBody) → IsPlay p → Sound 1 (play_json p)
play_sound p h =
    let from : p.from < 2 ^ 32 = omega (arith, h.later, h.early) in
    let to : p.to < 2 ^ 32 = omega (arith, h.early) in
    Sound-list (λ (n : ℕ) (fits : n < 2 ^ 32). number_sound n fits) (p.event ∷ p.layout ∷ p.from ∷ p.to ∷ []) (h.event, (h.layout.fits, (from, (to, tt))))

plays_sound : (p : PlaysParts) → IsPlays p → Sound 3 (plays_json p)
plays_sound p h =
    Sound-object refl (number_sound p.epoch h.epoch.fits, (number_sound p.first h.first.fits, (Sound-list play_sound p.plays h.plays, tt)))

pub text_again : (p : PlaysParts) → IsPlays p → json_at (compact_text (plays_json p)) ≡ Some (plays_json p)
text_again p h = rw (is_utf8-Sound (plays_sound p h)) (read-Sound refl (plays_sound p h))
