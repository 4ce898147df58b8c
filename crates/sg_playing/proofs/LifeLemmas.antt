-- The plays of a life count the seconds for which something was shown, and stand in their order.
use Rattle.std.proofs.Common.{◌≡◌, ℕ, ◌+◌, ◌-◌, ◌≤◌, ◌==◌, ◌&&◌, Bool, true, false, List, [], ◌∷◌, None, Some, max, nat_le, nat_lt, refl, sym, ◌∙◌, ap, subst, arith}
use Rattle.std.specs.Prelude.{if◌then◌else◌}
use Rattle.std.specs.declared.option.Option.{Option}
use Rattle.std.specs.List.{sum_by}
use Rattle.std.specs.Ordering.{int_eq}
use Rattle.std.proofs.lemmas.List.Sums.{sum_by-cons}
use Rattle.std.proofs.lemmas.Bool.{and_parts, eqb-true, leb-true, ltb-false}
use Rattle.sg_base.specs.declared.play.PlayBody.{PlayBody}
use Rattle.sg_playing.specs.declared.life.Turn.{Turn}
use Rattle.sg_playing.specs.declared.playing.OpenPlay.{OpenPlay}
use Rattle.sg_playing.specs.declared.slot.ShownSlot.{ShownSlot}
use Rattle.sg_playing.specs.Plays.{ahead, begins, begun, ended, goes_on, is_shown_still, plays_from, plays_of}
use Rattle.sg_playing.specs.Seconds.{Follows, GoesForward, IsForward, IsInOrder, counted, seconds_for, seconds_from, seconds_since, shown_seconds}

-- ---- seconds from one moment to another

counted_none : (event layout e l from to : ℕ) → to ≤ from → counted event layout e l from to ≡ 0
counted_none event layout e l from to le = by_test ((e == event) && (l == layout))
  where
    by_test : (test : Bool) → (if test then to - from else 0) ≡ 0
    by_test true = omega (arith, le)
    by_test false = refl

-- they go on over a moment between
counted_over : (event layout e l from last to : ℕ) → from ≤ last
    → counted event layout e l from (max last to) ≡ counted event layout e l from last + counted event layout e l last to
counted_over event layout e l from last to le = by_test ((e == event) && (l == layout))
  where
    by_test : (test : Bool) → (if test then max last to - from else 0) ≡ (if test then last - from else 0) + (if test then to - last else 0)
    by_test true = omega (arith, le)
    by_test false = refl

none_ahead : (n none : ℕ) → none ≡ 0 → none + n ≡ n
none_ahead n none is = omega (arith, is)

-- ---- what ends

ended_seconds : (event layout : ℕ) (o : OpenPlay) (to : ℕ) (plays : List PlayBody)
    → sum_by (seconds_for event layout) (ahead (ended o to) plays)
    ≡ counted event layout o.slot.event o.slot.layout o.from to + sum_by (seconds_for event layout) plays
ended_seconds event layout o to plays = by_test (nat_lt o.from to) refl
  where
    by_test : (test : Bool) → nat_lt o.from to ≡ test
        → sum_by (seconds_for event layout) (ahead (if test then Some (record { event = o.slot.event; layout = o.slot.layout; from = o.from; to = to }) else None) plays)
        ≡ counted event layout o.slot.event o.slot.layout o.from to + sum_by (seconds_for event layout) plays
    by_test true is = sum_by-cons (seconds_for event layout) (record { event = o.slot.event; layout = o.slot.layout; from = o.from; to = to }) plays
    by_test false is = sym (none_ahead (sum_by (seconds_for event layout) plays) (counted event layout o.slot.event o.slot.layout o.from to)
        (counted_none event layout o.slot.event o.slot.layout o.from to (ltb-false o.from to is)))

-- ---- the seconds of a life

-- the plays of these turns, after a moment at which nothing ran, and with a play that ran
record Counts (event layout : ℕ) (ts : List Turn) : Type 0 where
  pub none : (moment : ℕ) → sum_by (seconds_for event layout) (plays_from None ts) ≡ seconds_from event layout None moment ts
  pub some : (o : OpenPlay) → o.from ≤ o.last → sum_by (seconds_for event layout) (plays_from (Some o) ts)
      ≡ seconds_since event layout (Some o.slot) o.from o.last + seconds_from event layout (Some o.slot) o.last ts

-- with the play that begins with a slot
begins_counts : (event layout : ℕ) (moment : ℕ) (slot : Option ShownSlot) (ts : List Turn) → Counts event layout ts
    → sum_by (seconds_for event layout) (plays_from (begins moment slot) ts) ≡ seconds_from event layout slot moment ts
begins_counts event layout moment None ts counts = counts.none moment
begins_counts event layout moment (Some s) ts counts =
    counts.some (record { slot = s; from = moment; last = moment }) (omega arith)
    ∙ none_ahead (seconds_from event layout (Some s) moment ts) (counted event layout s.event s.layout moment moment)
    (counted_none event layout s.event s.layout moment moment (omega arith))

-- what is shown still has the same event and layout
shown_still : (event layout moment : ℕ) (slot : ShownSlot) (shown : Option ShownSlot) (ts : List Turn) → is_shown_still slot shown ≡ true
    → seconds_from event layout shown moment ts ≡ seconds_from event layout (Some slot) moment ts
shown_still event layout moment slot None ts is = absurd (cc)
shown_still event layout moment slot (Some s) [] is = refl
shown_still event layout moment slot (Some s) (t ∷ ts) is =
    let first = and_parts (slot.number == s.number) ((slot.event == s.event) && ((slot.layout == s.layout) && int_eq slot.start s.start)) is in
    let second = and_parts (slot.event == s.event) ((slot.layout == s.layout) && int_eq slot.start s.start) first.1 in
    let third = and_parts (slot.layout == s.layout) (int_eq slot.start s.start) second.1 in
    ap (λ (n : ℕ). n + seconds_from event layout t.slot t.moment ts)
    (ap (λ (e : ℕ). counted event layout e s.layout moment t.moment) (sym (eqb-true slot.event s.event second.0))
    ∙ ap (λ (l : ℕ). counted event layout slot.event l moment t.moment) (sym (eqb-true slot.layout s.layout third.0)))

some_more : (event layout : ℕ) (t : Turn) (ts : List Turn) → Counts event layout ts → (o : OpenPlay) → o.from ≤ o.last
    → sum_by (seconds_for event layout) (plays_from (Some o) (t ∷ ts))
    ≡ seconds_since event layout (Some o.slot) o.from o.last + seconds_from event layout (Some o.slot) o.last (t ∷ ts)
some_more event layout t ts counts o le = by_test (goes_on o t) refl
  where
    over : (n a b : ℕ) → n ≡ a + b → (rest : ℕ) → n + rest ≡ a + (b + rest)
    over n a b is rest = omega (arith, is)

    max_is : (a b : ℕ) → a ≤ b → max a b ≡ b
    max_is a b le = omega arith

    by_test : (test : Bool) → goes_on o t ≡ test
        → sum_by (seconds_for event layout) (ahead (if test then None else ended o (max o.last t.moment))
        (plays_from (if test then Some (record o { last = t.moment }) else begun t) ts))
        ≡ seconds_since event layout (Some o.slot) o.from o.last + seconds_from event layout (Some o.slot) o.last (t ∷ ts)
    by_test true is =
        let parts = and_parts (is_shown_still o.slot t.slot) (nat_le o.last t.moment) is in
        let later = leb-true o.last t.moment parts.1 in
        counts.some (record o { last = t.moment }) (omega (arith, le, later))
        ∙ over (counted event layout o.slot.event o.slot.layout o.from t.moment) (counted event layout o.slot.event o.slot.layout o.from o.last)
        (counted event layout o.slot.event o.slot.layout o.last t.moment)
        (ap (λ (n : ℕ). counted event layout o.slot.event o.slot.layout o.from n) (sym (max_is o.last t.moment later))
        ∙ counted_over event layout o.slot.event o.slot.layout o.from o.last t.moment le)
        (seconds_from event layout (Some o.slot) t.moment ts)
        ∙ ap (λ (n : ℕ). counted event layout o.slot.event o.slot.layout o.from o.last + (counted event layout o.slot.event o.slot.layout o.last t.moment + n))
        (sym (shown_still event layout t.moment o.slot t.slot ts parts.0))
    by_test false is =
        ended_seconds event layout o (max o.last t.moment) (plays_from (begun t) ts)
        ∙ ap (λ (n : ℕ). counted event layout o.slot.event o.slot.layout o.from (max o.last t.moment) + n) (begins_counts event layout t.moment t.slot ts counts)
        ∙ over (counted event layout o.slot.event o.slot.layout o.from (max o.last t.moment)) (counted event layout o.slot.event o.slot.layout o.from o.last)
        (counted event layout o.slot.event o.slot.layout o.last t.moment)
        (counted_over event layout o.slot.event o.slot.layout o.from o.last t.moment le) (seconds_from event layout t.slot t.moment ts)

counts : (event layout : ℕ) (ts : List Turn) → Counts event layout ts
counts event layout [] = record {
  none = λ moment. refl;
  some = λ o le. ended_seconds event layout o o.last [];
}
counts event layout (t ∷ ts) = record {
  none = λ moment. begins_counts event layout t.moment t.slot ts (counts event layout ts) ∙ zero_more (seconds_from event layout t.slot t.moment ts);
  some = some_more event layout t ts (counts event layout ts);
}
  where
    zero_more : (n : ℕ) → n ≡ 0 + n
    zero_more n = omega arith

-- For each event and layout the plays of a life have as many seconds as it showed them.
pub seconds_counted : (event layout : ℕ) (turns : List Turn) → sum_by (seconds_for event layout) (plays_of turns) ≡ shown_seconds event layout turns
seconds_counted event layout [] = refl
seconds_counted event layout (t ∷ ts) = begins_counts event layout t.moment t.slot ts (counts event layout ts)

-- ---- the order of the plays

-- the plays of these turns, where the clock doesn't go back
record Ordered (ts : List Turn) : Type 0 where
  pub none : (start moment : ℕ) → start ≤ moment → GoesForward moment ts → Follows start (plays_from None ts)
  pub some : (start : ℕ) (o : OpenPlay) → start ≤ o.from → o.from ≤ o.last → GoesForward o.last ts → Follows start (plays_from (Some o) ts)

begins_ordered : (start moment : ℕ) (slot : Option ShownSlot) (ts : List Turn) → Ordered ts → start ≤ moment → GoesForward moment ts
    → Follows start (plays_from (begins moment slot) ts)
begins_ordered start moment None ts ordered le forward = ordered.none start moment le forward
begins_ordered start moment (Some s) ts ordered le forward =
    ordered.some start (record { slot = s; from = moment; last = moment }) le (omega arith) forward

ended_ordered : (start : ℕ) (o : OpenPlay) (to : ℕ) (plays : List PlayBody) → start ≤ o.from → o.from ≤ to
    → ((before : ℕ) → before ≤ to → Follows before plays) → Follows start (ahead (ended o to) plays)
ended_ordered start o to plays le rises follows = by_test (nat_lt o.from to)
  where
    by_test : (test : Bool) → Follows start (ahead (if test then Some (record { event = o.slot.event; layout = o.slot.layout; from = o.from; to = to }) else None) plays)
    by_test true = (le, follows to (omega arith))
    by_test false = follows start (omega (arith, le, rises))

some_ordered : (t : Turn) (ts : List Turn) → Ordered ts → (start : ℕ) (o : OpenPlay) → start ≤ o.from → o.from ≤ o.last → GoesForward o.last (t ∷ ts)
    → Follows start (plays_from (Some o) (t ∷ ts))
some_ordered t ts ordered start o le rises forward = by_test (goes_on o t)
  where
    later : o.last ≤ t.moment
    later = forward.0

    max_is : (a b : ℕ) → a ≤ b → max a b ≡ b
    max_is a b le = omega arith

    by_test : (test : Bool) → Follows start (ahead (if test then None else ended o (max o.last t.moment))
        (plays_from (if test then Some (record o { last = t.moment }) else begun t) ts))
    by_test true = ordered.some start (record o { last = t.moment }) le (omega (arith, rises, later)) forward.1
    by_test false =
        subst (λ (to : ℕ). Follows start (ahead (ended o to) (plays_from (begun t) ts))) (sym (max_is o.last t.moment later))
        (ended_ordered start o t.moment (plays_from (begun t) ts) le (omega (arith, rises, later))
        (λ before below. begins_ordered before t.moment t.slot ts ordered below forward.1))

ordered : (ts : List Turn) → Ordered ts
ordered [] = record {
  none = λ start moment le forward. tt;
  some = λ start o le rises forward. ended_ordered start o o.last [] le rises (λ before below. tt);
}
ordered (t ∷ ts) = record {
  none = λ start moment le forward. begins_ordered start t.moment t.slot ts (ordered ts) (omega (arith, le, forward.0)) forward.1;
  some = some_ordered t ts (ordered ts);
}

-- Where the clock never goes back, the plays of a life stand in their order.
pub plays_ordered : (turns : List Turn) → IsForward turns → IsInOrder (plays_of turns)
plays_ordered turns forward = (ordered turns).none 0 0 (omega arith) forward
