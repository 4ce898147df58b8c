-- The next edge, from the next of its kinds; and between edges nothing changes.
use Rattle.std.proofs.Common.{◌≡◌, ℕ, ◌+◌, ◌-◌, ◌*◌, ◌<◌, ◌≤◌, true, false, Option, Some, None, IfSome, ◌⊎◌, inl, inr, refl, sym, ◌∙◌, leb, arith, ℤ, pos, negsuc, neg_ℤ, ◌+ℤ◌, ◌-ℤ◌, ◌*ℤ◌, ◌<ℤ◌, ◌≤ℤ◌}
use Rattle.std.proofs.lemmas.Bool.{cond_both, leb-false, false≢true}
use Rattle.std.proofs.lemmas.Bool.Decides.{same_from_decides}
use Rattle.std.proofs.lemmas.Int.{by_lt_z}
use Rattle.jiff_core.proofs.SignedLemmas.{signed_arith}
use Rattle.sg_base.specs.declared.limits.TheConstants.{DAY, LAST_SECOND, LOCAL_END, DATE_END}
use Rattle.sg_base.specs.declared.daypart.Window.{Window}
use Rattle.sg_base.specs.declared.event.When.{When}
use Rattle.sg_base.specs.declared.event.When.TheVariants.{Always, Custom, Named}
use Rattle.sg_base.specs.declared.ids.DaypartId.{DaypartId}
use Rattle.sg_base.specs.Daypart.{DaypartRow, IsDaypart}
use Rattle.sg_base.specs.Repeat.{RepeatRow}
use Rattle.sg_calendar.specs.Dates.{is_on_date, IsStartAfter, IsNoStartAfter, IsDateAfter, IsNoDateAfter}
use Rattle.sg_calendar.specs.Windows.{window_at, end_of, opens, closes}
use Rattle.sg_calendar.proofs.WindowLemmas.{window_valid, end_bound}
use Rattle.sg_events.specs.Active.{IsRunning, IsOpen, is_active_at}
use Rattle.sg_events.specs.Edges.{IsBegin, IsOver, IsWindowEdge, IsEdge, IsUpTo, IsFirstAfter, IsLaterEdge, IsLesser}
use Rattle.sg_events.proofs.ActiveLemmas.{Decides-map, running_decides, open_decides}

-- the first of two kinds, from the first of each
pub first_of_both : (E F : ℤ → Type 0) (t x y z : ℤ) → IsFirstAfter E t x → IsFirstAfter F t y → IsLesser x y z → IsFirstAfter (λ s. E s ⊎ F s) t z
first_of_both E F t x y z a b m = record {
  one = elim m.one [
    | inl e ↦ rw e (elim a.one [ inl end ↦ inl end | inr is ↦ inr (inl is) ])
    | inr e ↦ rw e (elim b.one [ inl end ↦ inl end | inr is ↦ inr (inr is) ])
  ];
  after = elim m.one [ inl e ↦ rw e a.after | inr e ↦ rw e b.after ];
  bound = omega (arith, signed_arith, m.first, a.bound);
  least = λ s either after.
      elim either [
        | inl is ↦ omega (arith, signed_arith, m.first, a.least s is after)
        | inr is ↦ omega (arith, signed_arith, m.second, b.least s is after)
      ];
}

-- the first of one kind is that of another with the same seconds after t
pub first_same : (E F : ℤ → Type 0) (t x : ℤ) → ((s : ℤ) → E s → F s) → ((s : ℤ) → F s → t <ℤ s → E s) → IsFirstAfter E t x → IsFirstAfter F t x
first_same E F t x up down h = record {
  one = elim h.one [ inl end ↦ inl end | inr is ↦ inr (up x is) ];
  after = h.after;
  bound = h.bound;
  least = λ s is after. h.least s (down s is after) after;
}

-- an edge of a date lies from the date's midnight on, and before the second midnight after it
edge_from : (w : When) (r : Option RepeatRow) (d : DaypartRow) (date x : ℤ) → IsWindowEdge w r d date x → (date *ℤ pos DAY) ≤ℤ x
edge_from w r d date x h =
    let span = window_at d date in
    elim h.at [
      | inl e ↦ at_start date x span.start e
      | inr e ↦ at_start date x (end_of span) e
    ]
  where
    at_start : (day y : ℤ) (n : ℕ) → y ≡ day *ℤ pos DAY +ℤ pos n → (day *ℤ pos DAY) ≤ℤ y
    at_start day y n e = omega (arith, signed_arith)

edge_before : (w : When) (r : Option RepeatRow) (d : DaypartRow) (date x : ℤ) → IsDaypart d → IsWindowEdge w r d date x → x <ℤ ((date +ℤ pos 2) *ℤ pos DAY)
edge_before w r d date x valid h =
    let span = window_at d date in
    let inside = window_valid d date valid in
    elim h.at [
      | inl e ↦ at_end date x span.start (omega (arith, inside.start)) e
      | inr e ↦ at_end date x (end_of span) (end_bound span inside.end) e
    ]
  where
    at_end : (day y : ℤ) (n : ℕ) → n < 2 * DAY → y ≡ day *ℤ pos DAY +ℤ pos n → y <ℤ ((day +ℤ pos 2) *ℤ pos DAY)
    at_end day y n few e = omega (arith, signed_arith)

-- nothing before the end
pub first_none : (E : ℤ → Type 0) (t : ℤ) → t <ℤ LOCAL_END → ((s : ℤ) → E s → t <ℤ s → LOCAL_END ≤ℤ s) → IsFirstAfter E t LOCAL_END
first_none E t low late = record { one = inl refl; after = low; bound = omega (arith, signed_arith); least = late }

-- a first one, or the end where that is less
pub first_is : (E : ℤ → Type 0) (t x z : ℤ) → E x → t <ℤ x → t <ℤ LOCAL_END → ((s : ℤ) → E s → t <ℤ s → x ≤ℤ s) → IsLesser x LOCAL_END z → IsFirstAfter E t z
first_is E t x z is after low least m = record {
  one = elim m.one [ inl e ↦ inr (rw e is) | inr e ↦ inl e ];
  after = elim m.one [ inl e ↦ rw e after | inr e ↦ rw e low ];
  bound = m.second;
  least = λ s other later. omega (arith, signed_arith, m.first, least s other later);
}

-- ---- Times of an event's own

module _ (from to : ℕ) (r : Option RepeatRow) (t : ℤ) (low : t <ℤ LOCAL_END) where
  pub begin_first : (z : ℤ) → IsStartAfter (Custom from to) r t z → IsFirstAfter (IsBegin from r) t z
  begin_first z h = record {
    one = inr (record { start = h.second; is = h.is; at = h.value });
    after = h.after;
    bound = omega (arith, signed_arith, h.within);
    least = λ s other later. rw other.at (h.least other.start other.is (rw other.at at later));
  }

  pub begin_none : IsNoStartAfter (Custom from to) r t → IsFirstAfter (IsBegin from r) t LOCAL_END
  begin_none h = first_none (IsBegin from r) t low (λ s other later. rw other.at (h.none other.start other.is (rw other.at at later)))

  -- where to look for the start of the occurrence that is over first: its length before t, and no start is before 0
  module _ (earlier : ℤ) (at_least : (t -ℤ pos (to - from)) ≤ℤ earlier) (one : (earlier ≡ t -ℤ pos (to - from)) ⊎ (earlier ≡ neg_ℤ (pos 1))) where
    starts_later : (start : ℕ) → t <ℤ pos (start + (to - from)) → earlier <ℤ pos start
    starts_later start h = elim one [ inl e ↦ omega (arith, signed_arith) | inr e ↦ omega (arith, signed_arith) ]

    pub over_first : (s z : ℤ) → IsStartAfter (Custom from to) r earlier s → IsLesser (s +ℤ pos (to - from)) LOCAL_END z → IsFirstAfter (IsOver from to r) t z
    over_first s z h m =
        let over : s +ℤ pos (to - from) ≡ pos (h.second + (to - from)) = omega (arith, signed_arith, h.value) in
        first_is (IsOver from to r) t (s +ℤ pos (to - from)) z (record { start = h.second; is = h.is; at = over }) (omega (arith, signed_arith, h.after)) low
        (λ y other later.
        let begun = starts_later other.start (rw other.at at later) in
        omega (arith, signed_arith, other.at, h.least other.start other.is begun))
        m

    pub over_none : IsNoStartAfter (Custom from to) r earlier → IsFirstAfter (IsOver from to r) t LOCAL_END
    over_none h =
        first_none (IsOver from to r) t low
        (λ y other later.
        let begun = starts_later other.start (rw other.at at later) in
        omega (arith, signed_arith, other.at, h.none other.start other.is begun))

-- ---- Windows

-- a window opens before it closes
end_after : (w : Window) → w.start ≤ LAST_SECOND → w.start < end_of w
end_after w few =
    let over_midnight : w.start < w.end + DAY = omega arith in
    cond_both (leb w.end w.start) (w.end + DAY) w.end (λ x. w.start < x) (λ _. over_midnight) (λ f. leb-false w.end w.start f)

pub opens_first : (d : DaypartRow) (date : ℤ) → IsDaypart d → opens d date <ℤ closes d date
opens_first d date valid =
    let span = window_at d date in
    let order = end_after span (window_valid d date valid).start in
    apart (date *ℤ pos DAY) span.start (end_of span) order
  where
    apart : (x : ℤ) (m n : ℕ) → m < n → (x +ℤ pos m) <ℤ (x +ℤ pos n)
    apart x m n h = omega (arith, signed_arith)

-- the next edge of one window: its opening, or else its closing
module _ (a b t : ℤ) (order : a <ℤ b) (low : t <ℤ LOCAL_END) where
  pub window_opening : t <ℤ a → (z : ℤ) → IsLesser a LOCAL_END z → IsFirstAfter (λ s. (s ≡ a) ⊎ (s ≡ b)) t z
  window_opening before z m =
      first_is (λ s. (s ≡ a) ⊎ (s ≡ b)) t a z (inl refl) before low
      (λ s edge after. elim edge [ inl e ↦ omega (arith, signed_arith) | inr e ↦ omega (arith, signed_arith) ])
      m

  pub window_closing : a ≤ℤ t → t <ℤ b → (z : ℤ) → IsLesser b LOCAL_END z → IsFirstAfter (λ s. (s ≡ a) ⊎ (s ≡ b)) t z
  window_closing begun before z m =
      first_is (λ s. (s ≡ a) ⊎ (s ≡ b)) t b z (inr refl) before low
      (λ s edge after. elim edge [ inl e ↦ absurd (omega (arith, signed_arith)) | inr e ↦ omega (arith, signed_arith) ])
      m

  pub window_over : b ≤ℤ t → IsFirstAfter (λ s. (s ≡ a) ⊎ (s ≡ b)) t LOCAL_END
  window_over over =
      first_none (λ s. (s ≡ a) ⊎ (s ≡ b)) t low
      (λ s edge after. elim edge [ inl e ↦ absurd (omega (arith, signed_arith)) | inr e ↦ absurd (omega (arith, signed_arith)) ])

-- no event has a date before 1970
off_before : (w : When) (r : Option RepeatRow) (date : ℤ) → date <ℤ pos 0 → is_on_date w r date ≡ false
off_before Always r date lt = refl
off_before (Custom from to) r date lt = refl
off_before (Named daypart base) r (pos n) lt = absurd (omega (arith, signed_arith))
off_before (Named daypart base) r (negsuc n) lt = refl

module _ (w : When) (r : Option RepeatRow) (d : DaypartRow) where
  pub date_none : (date t : ℤ) → t <ℤ LOCAL_END → is_on_date w r date ≡ false → IsFirstAfter (IsWindowEdge w r d date) t LOCAL_END
  date_none date t low off = first_none (IsWindowEdge w r d date) t low (λ s h later. absurd (false≢true (sym off ∙ h.is)))

  -- the next edge of a date is that of its window
  pub date_first : (date t a b z : ℤ) → a ≡ opens d date → b ≡ closes d date → is_on_date w r date ≡ true → IsFirstAfter (λ s. (s ≡ a) ⊎ (s ≡ b)) t z → IsFirstAfter (IsWindowEdge w r d date) t z
  date_first date t a b z e f on h =
      first_same (λ s. (s ≡ a) ⊎ (s ≡ b)) (IsWindowEdge w r d date) t z
      (λ s one. record { is = on; at = elim one [ inl x ↦ inl (x ∙ e) | inr x ↦ inr (x ∙ f) ] })
      (λ s edge after. elim edge.at [ inl x ↦ inl (x ∙ sym e) | inr x ↦ inr (x ∙ sym f) ])
      h

  -- the first edge of later dates is the opening of the next one
  pub opening_first : (date next : ℤ) → IsDaypart d → IsDateAfter w r date next → IsFirstAfter (IsLaterEdge w r d date) (date *ℤ pos DAY) (opens d next)
  opening_first date next valid h =
      let few = (window_valid d next valid).start in
      let start = (window_at d next).start in
      let place : opens d next ≡ next *ℤ pos DAY +ℤ pos start = refl in
      record {
        one = inr (next, h.after, record { is = h.is; at = inl refl });
        after = later_day date next start h.after;
        bound = omega (arith, signed_arith, before_end next start few h.within);
        least = λ s other later.
            by_lt_z next other.0
            (λ lt. omega (arith, signed_arith, place, few, edge_from w r d other.0 s other.2))
            (λ ge.
            let same : other.0 ≡ next = omega (arith, signed_arith, h.least other.0 other.2.is other.1) in
            opens_least next s (rw same at other.2));
      }
    where
      later_day : (a b : ℤ) (n : ℕ) → a <ℤ b → (a *ℤ pos DAY) <ℤ (b *ℤ pos DAY +ℤ pos n)
      later_day a b n h = omega (arith, signed_arith)

      before_end : (b : ℤ) (n : ℕ) → n ≤ LAST_SECOND → b <ℤ DATE_END → (b *ℤ pos DAY +ℤ pos n) <ℤ LOCAL_END
      before_end b n few h = omega (arith, signed_arith)

      opens_least : (day s : ℤ) → IsWindowEdge w r d day s → opens d day ≤ℤ s
      opens_least day s h = elim h.at [ inl e ↦ omega (arith, signed_arith, e) | inr e ↦ omega (arith, signed_arith, e, opens_first d day valid) ]

  pub opening_none : (date : ℤ) → (date *ℤ pos DAY) <ℤ LOCAL_END → IsNoDateAfter w r date → IsFirstAfter (IsLaterEdge w r d date) (date *ℤ pos DAY) LOCAL_END
  opening_none date low h =
      first_none (IsLaterEdge w r d date) (date *ℤ pos DAY) low
      (λ s other later. omega (arith, signed_arith, h.none other.0 other.2.is other.1, edge_from w r d other.0 s other.2))

  -- the edges of t's day, of the day before and of later days are all that come after t
  module _ (t today : ℤ) (valid : IsDaypart d) (low : t <ℤ LOCAL_END) (from : (today *ℤ pos DAY) ≤ℤ t) (till : t <ℤ ((today +ℤ pos 1) *ℤ pos DAY)) where
    late : (s : ℤ) → IsLaterEdge w r d today s → t <ℤ s
    late s h = omega (arith, signed_arith, edge_from w r d h.0 s h.2, h.1)

    later_first : (z : ℤ) → IsFirstAfter (IsLaterEdge w r d today) (today *ℤ pos DAY) z → IsFirstAfter (IsLaterEdge w r d today) t z
    later_first z h = record {
      one = h.one;
      after = elim h.one [ inl e ↦ rw e low | inr edge ↦ late z edge ];
      bound = h.bound;
      least = λ s edge after. h.least s edge (omega (arith, signed_arith));
    }

    near_or_late : (s : ℤ) → (date : ℤ) × IsWindowEdge w r d date s → t <ℤ s → IsWindowEdge w r d (today -ℤ pos 1) s ⊎ (IsWindowEdge w r d today s ⊎ IsLaterEdge w r d today s)
    near_or_late s h after =
        by_lt_z today h.0 (λ lt. inr (inr (h.0, lt, h.1)))
        (λ ge.
        by_lt_z h.0 today
        (λ lt.
        let same : h.0 ≡ today -ℤ pos 1 = omega (arith, signed_arith, edge_before w r d h.0 s valid h.1) in
        inl (rw same at h.1))
        (λ le.
        let same : h.0 ≡ today = omega (arith, signed_arith) in
        inr (inl (rw same at h.1))))

    pub windows_first : (x y z m n : ℤ) → IsFirstAfter (IsWindowEdge w r d (today -ℤ pos 1)) t x → IsFirstAfter (IsWindowEdge w r d today) t y → IsFirstAfter (IsLaterEdge w r d today) (today *ℤ pos DAY) z → IsLesser y z m → IsLesser x m n → IsFirstAfter (λ s. (date : ℤ) × IsWindowEdge w r d date s) t n
    windows_first x y z m n a b c h k =
        let rest = first_of_both (IsWindowEdge w r d today) (IsLaterEdge w r d today) t y z m b (later_first z c) h in
        let all = first_of_both (IsWindowEdge w r d (today -ℤ pos 1)) (λ s. IsWindowEdge w r d today s ⊎ IsLaterEdge w r d today s) t x m n a rest k in
        first_same (λ s. IsWindowEdge w r d (today -ℤ pos 1) s ⊎ (IsWindowEdge w r d today s ⊎ IsLaterEdge w r d today s)) (λ s. (date : ℤ) × IsWindowEdge w r d date s) t n
        (λ s edge. elim edge [ inl e ↦ (today -ℤ pos 1, e) | inr some ↦ elim some [ inl e ↦ (today, e) | inr e ↦ (e.0, e.2) ] ])
        near_or_late all

    -- and up to the first day there is no day before
    pub windows_first_day : today ≤ℤ pos 0 → (y z m : ℤ) → IsFirstAfter (IsWindowEdge w r d today) t y → IsFirstAfter (IsLaterEdge w r d today) (today *ℤ pos DAY) z → IsLesser y z m → IsFirstAfter (λ s. (date : ℤ) × IsWindowEdge w r d date s) t m
    windows_first_day early y z m b c h =
        let yesterday = today -ℤ pos 1 in
        let off = off_before w r yesterday (omega (arith, signed_arith)) in
        windows_first LOCAL_END y z m m (date_none yesterday t low off) b c h
        (record { one = inr refl; first = omega (arith, signed_arith, h.first, b.bound); second = omega (arith, signed_arith) })

-- ---- Between edges nothing changes

-- an occurrence that is on at one of two seconds with no edge between is on at the other
module _ (E : ℤ → Type 0) (t x u a b : ℤ) (free : IsUpTo E t x) (from : t ≤ℤ u) (before : u <ℤ x) where
  on_before : E a → a ≤ℤ u → u <ℤ b → (a ≤ℤ t) × (t <ℤ b)
  on_before edge begun inside = (
    by_lt_z t a (λ lt. absurd (omega (arith, signed_arith, free a edge lt))) (λ ge. ge),
    omega (arith, signed_arith),
  )

  on_after : E b → a ≤ℤ t → t <ℤ b → (a ≤ℤ u) × (u <ℤ b)
  on_after edge begun inside = (
    omega (arith, signed_arith),
    by_lt_z u b (λ lt. lt) (λ ge. absurd (omega (arith, signed_arith, free b edge inside))),
  )

module _ (from to : ℕ) (r : Option RepeatRow) (d : Option DaypartRow) (t x u : ℤ) (free : IsUpTo (IsEdge (Custom from to) r d) t x) (order : t ≤ℤ u) (before : u <ℤ x) where
  run_before : IsRunning from to r u → IsRunning from to r t
  run_before h =
      let on = on_before (IsEdge (Custom from to) r d) t x u (pos h.start) (pos (h.start + (to - from))) free order before (inl (record { start = h.start; is = h.is; at = refl })) h.begun h.not_over in
      record { start = h.start; is = h.is; begun = on.0; not_over = on.1 }

  run_after : IsRunning from to r t → IsRunning from to r u
  run_after h =
      let on = on_after (IsEdge (Custom from to) r d) t x u (pos h.start) (pos (h.start + (to - from))) free order before (inr (record { start = h.start; is = h.is; at = refl })) h.begun h.not_over in
      record { start = h.start; is = h.is; begun = on.0; not_over = on.1 }

module _ (daypart : DaypartId) (base : ℕ) (r : Option RepeatRow) (d : DaypartRow) (t x u : ℤ) (free : IsUpTo (IsEdge (Named daypart base) r (Some d)) t x) (order : t ≤ℤ u) (before : u <ℤ x) where
  open_before : IsOpen (Named daypart base) r d u → IsOpen (Named daypart base) r d t
  open_before h =
      let o = h.open_on in
      let on = on_before (IsEdge (Named daypart base) r (Some d)) t x u (opens d h.date) (closes d h.date) free order before (h.date, record { is = o.is; at = inl refl }) o.begun o.not_over in
      record { date = h.date; open_on = record { is = o.is; begun = on.0; not_over = on.1 } }

  open_after : IsOpen (Named daypart base) r d t → IsOpen (Named daypart base) r d u
  open_after h =
      let o = h.open_on in
      let on = on_after (IsEdge (Named daypart base) r (Some d)) t x u (opens d h.date) (closes d h.date) free order before (h.date, record { is = o.is; at = inr refl }) o.begun o.not_over in
      record { date = h.date; open_on = record { is = o.is; begun = on.0; not_over = on.1 } }

-- up to a second that no edge comes before an event stays active, or stays idle
pub activity_same : (w : When) (r : Option RepeatRow) (d : Option DaypartRow) (t x u : ℤ) → IfSome d IsDaypart → IsUpTo (IsEdge w r d) t x → t ≤ℤ u → u <ℤ x → is_active_at w r d u ≡ is_active_at w r d t
activity_same Always r d t x u valid free order before = refl
activity_same (Custom from to) r d t x u valid free order before =
    same_from_decides _ _ (Decides-map _ (run_before from to r d t x u free order before) (run_after from to r d t x u free order before) (running_decides from to r d u)) (running_decides from to r d t)
activity_same (Named daypart base) r None t x u valid free order before = refl
activity_same (Named daypart base) r (Some d) t x u valid free order before =
    same_from_decides _ _ (Decides-map _ (open_before daypart base r d t x u free order before) (open_after daypart base r d t x u free order before) (open_decides daypart base r d u (λ _. valid))) (open_decides daypart base r d t (λ _. valid))
