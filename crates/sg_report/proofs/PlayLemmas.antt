-- A play's row says that play, and no other.
use Rattle.std.proofs.Common.{◌≡◌, ◌∙◌, ℕ, ◌+◌, ◌*◌, ◌^◌, ◌<◌, List, [], ◌++◌, length, take, drop, ap, sym, arith, Option, None, Some}
use Rattle.std.specs.Prelude.{MatchOption}
use Rattle.std.specs.Int.{w32, to_le_bytes, from_le_bytes}
use Rattle.std.proofs.lemmas.Nat.{from_le_bytes-to_le_bytes_4}
use Rattle.sg_base.specs.declared.play.PlayBody.{PlayBody}
use Rattle.sg_base.specs.Keys.{number}
use Rattle.sg_records.specs.Numbers.{play_bytes}
use Rattle.sg_report.specs.declared.kept.KeptPlay.{KeptPlay}
use Rattle.sg_report.specs.Counting.{BeginsWith}
use Rattle.sg_report.specs.Plays.{IsKept, IsPlay, kept_number}

-- ---- bytes

word_same : (m n : ℕ) (x y : List ℕ) → m < 2 ^ 32 → n < 2 ^ 32 → to_le_bytes w32 m ++ x ≡ to_le_bytes w32 n ++ y → (m ≡ n) × (x ≡ y)
word_same m n x y p q e =
    let same : to_le_bytes w32 m ≡ to_le_bytes w32 n = ap (take 4) e in
    (sym (from_le_bytes-to_le_bytes_4 m p) ∙ (ap (from_le_bytes w32) same ∙ from_le_bytes-to_le_bytes_4 n q), ap (drop 4) e)

begins_small : (p : PlayBody) → IsPlay p → p.from < 2 ^ 32
begins_small p h = let a = h.time in let b = h.end in omega (arith, a, b)

ends_small : (p : PlayBody) → IsPlay p → p.to < 2 ^ 32
ends_small p h = let b = h.end in omega (arith, b)

-- the four numbers of a play that has these bytes
says : (p : PlayBody) (e l f t : ℕ) (b r s u v : List ℕ) → IsPlay p → BeginsWith b e r → BeginsWith r l s → BeginsWith s f u → BeginsWith u t v → play_bytes p ≡ b
    → (p.event ≡ e) × (p.layout ≡ l) × (p.from ≡ f) × (p.to ≡ t)
says p e l f t b r s u v h w x y z is =
    let one = word_same p.event e (to_le_bytes w32 p.layout ++ (to_le_bytes w32 p.from ++ to_le_bytes w32 p.to)) r h.event w.fits (is ∙ sym w.is) in
    let two = word_same p.layout l (to_le_bytes w32 p.from ++ to_le_bytes w32 p.to) s h.layout.1 x.fits (one.1 ∙ sym x.is) in
    let three = word_same p.from f (to_le_bytes w32 p.to) u (begins_small p h) y.fits (two.1 ∙ sym y.is) in
    let four = word_same p.to t [] v (ends_small p h) z.fits (three.1 ∙ sym z.is) in
    (one.0, two.0, three.0, four.0)

-- bytes that are those of four numbers
four_words : (e l f t : ℕ) (b r s u v : List ℕ) → BeginsWith b e r → BeginsWith r l s → BeginsWith s f u → BeginsWith u t v → v ≡ []
    → to_le_bytes w32 e ++ (to_le_bytes w32 l ++ (to_le_bytes w32 f ++ to_le_bytes w32 t)) ≡ b
four_words e l f t b r s u v w x y z none =
    let last : to_le_bytes w32 t ≡ u = ap (λ (more : List ℕ). to_le_bytes w32 t ++ more) (sym none) ∙ z.is in
    ap (λ (more : List ℕ). to_le_bytes w32 e ++ (to_le_bytes w32 l ++ (to_le_bytes w32 f ++ more))) last
    ∙ (ap (λ (more : List ℕ). to_le_bytes w32 e ++ (to_le_bytes w32 l ++ more)) y.is ∙ (ap (λ (more : List ℕ). to_le_bytes w32 e ++ more) x.is ∙ w.is))

pub play_says : (o : Option PlayBody) (e l f t : ℕ) (b r s u v : List ℕ) → BeginsWith b e r → BeginsWith r l s → BeginsWith s f u → BeginsWith u t v → v ≡ []
    → MatchOption o ((p : PlayBody) → IsPlay p → p.event ≡ e → p.layout ≡ l → p.from ≡ f → p.to ≡ t → ⊥) (λ p. IsPlay p × (p.event ≡ e) × (p.layout ≡ l) × (p.from ≡ f) × (p.to ≡ t))
    → MatchOption o ((p : PlayBody) → IsPlay p → play_bytes p ≡ b → ⊥) (λ p. IsPlay p × (play_bytes p ≡ b))
play_says None e l f t b r s u v w x y z none m = λ p h is. let q = says p e l f t b r s u v h w x y z is in m p h q.0 q.1 q.2 q.3
play_says (Some p) e l f t b r s u v w x y z none m =
    let same : play_bytes p ≡ to_le_bytes w32 e ++ (to_le_bytes w32 l ++ (to_le_bytes w32 f ++ to_le_bytes w32 t)) =
    λ i. to_le_bytes w32 (m.1 i) ++ (to_le_bytes w32 (m.2 i) ++ (to_le_bytes w32 (m.3 i) ++ to_le_bytes w32 (m.4 i))) in
    (m.0, same ∙ four_words e l f t b r s u v w x y z none)

-- no play has fewer bytes
pub too_short : (p : PlayBody) (b : List ℕ) → length b < 4 → play_bytes p ≡ b → ⊥
too_short p b short is = let len : 16 ≡ length b = ap length is in omega arith

pub too_short_one : (p : PlayBody) (e : ℕ) (b r : List ℕ) → BeginsWith b e r → length r < 4 → play_bytes p ≡ b → ⊥
too_short_one p e b r w short is = let len : 16 ≡ 4 + length r = ap length (is ∙ sym w.is) ∙ (omega arith) in omega arith

-- ---- keys

-- the key of a kept play
pub same_key : (k : KeptPlay) (kind a b : ℕ) → IsKept k → a < 2 ^ 64 → b < 2 ^ 64 → kept_number k ≡ number kind a b → (kind ≡ 10) × (b ≡ k.number)
same_key k kind a b h fa fb e =
    let d = h.display in let p = h.epoch in let n = h.number.1 in
    (omega (arith, d, p, n, e), omega (arith, d, p, n, e))

-- plays with one key and the same bytes are one
pub same_play : (j k : KeptPlay) → IsKept j → IsKept k → kept_number j ≡ kept_number k → play_bytes j.play ≡ play_bytes k.play → j ≡ k
same_play j k hj hk e is =
    let jd = hj.display in let je = hj.epoch in let jn = hj.number.1 in
    let kd = hk.display in let ke = hk.epoch in let kn = hk.number.1 in
    let number_is : j.number ≡ k.number = omega (arith, je, jn, ke, kn, e) in
    let pair_is : j.display * 2 ^ 32 + j.epoch ≡ k.display * 2 ^ 32 + k.epoch = omega (arith, jn, kn, e) in
    let epoch_is : j.epoch ≡ k.epoch = omega (arith, je, ke, pair_is) in
    let display_is : j.display ≡ k.display = omega (arith, je, ke, pair_is) in
    let one = word_same j.play.event k.play.event _ _ hj.play.event hk.play.event is in
    let two = word_same j.play.layout k.play.layout _ _ hj.play.layout.1 hk.play.layout.1 one.1 in
    let three = word_same j.play.from k.play.from _ _ (begins_small j.play hj.play) (begins_small k.play hk.play) two.1 in
    let four = word_same j.play.to k.play.to [] [] (ends_small j.play hj.play) (ends_small k.play hk.play) three.1 in
    λ i. record {
      display = display_is i;
      epoch = epoch_is i;
      number = number_is i;
      play = record { event = one.0 i; layout = two.0 i; from = three.0 i; to = four.0 i };
    }
