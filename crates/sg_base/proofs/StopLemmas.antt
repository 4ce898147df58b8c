-- What runs of calls leave of a stop and of a count of faults.
use Rattle.std.proofs.Common.{◌≡◌, inl, inr, ℕ, ◌+◌, ◌≤◌, Option, None, Some, arith}
use Rattle.sg_base.specs.Causes.{Rose}
use Rattle.sg_base.specs.Stops.{Lowers, Falls}

-- no call
pub lowers_none : (x : Option ℕ) → Lowers 0 x x
lowers_none x = record { none = λ e. e; some = λ k e. (k, e, omega arith) }

-- a calls and then b
pub lowers_joined : (a b : ℕ) (x y z : Option ℕ) → Lowers a x y → Lowers b y z → Lowers (a + b) x z
lowers_joined a b x y z first second = record {
  none = λ e. second.none (first.none e);
  some = λ k e.
      let one = first.some k e in
      let two = second.some one.0 one.1 in
      (two.0, two.1, omega (arith, one.2, two.2));
}

pub lowers_fewer : (a b : ℕ) (x y : Option ℕ) → b ≤ a → Lowers a x y → Lowers b x y
lowers_fewer a b x y le low = record {
  none = low.none;
  some = λ k e. let one = low.some k e in (one.0, one.1, omega (arith, one.2, le));
}

-- calls that passed, and then one that failed
pub lowers_falls : (a : ℕ) (x y z : Option ℕ) → Lowers a x y → Falls y z → Falls x z
lowers_falls a x y z first second = record {
  none = λ e. second.none (first.none e);
  some = λ k e.
      let one = first.some k e in
      elim (second.some one.0 one.1) [
        | inl gone ↦ inl gone
        | inr two ↦ inr (two.0, two.1, omega (arith, one.2, two.2))
      ];
}

-- a lowering is a fall
pub lowers_fall : (a : ℕ) (x y : Option ℕ) → Lowers a x y → Falls x y
lowers_fall a x y low = record {
  none = low.none;
  some = λ k e. let one = low.some k e in inr (one.0, one.1, omega (arith, one.2));
}

pub falls_none : (x : Option ℕ) → Falls x x
falls_none x = record { none = λ e. e; some = λ k e. inr (k, e, omega arith) }

-- one fall and then another; a stop that is told no more isn't told again
pub falls_joined : (x y z : Option ℕ) → Falls x y → Falls y z → Falls x z
falls_joined x y z first second = record {
  none = λ e. second.none (first.none e);
  some = λ k e. elim (first.some k e) [
    | inl gone ↦ inl (second.none gone)
    | inr one ↦ elim (second.some one.0 one.1) [
      | inl gone ↦ inl gone
      | inr two ↦ inr (two.0, two.1, omega (arith, one.2, two.2))
    ]
  ];
}

-- a call that failed, and then some that passed
pub falls_lowers : (a : ℕ) (x y z : Option ℕ) → Falls x y → Lowers a y z → Falls x z
falls_lowers a x y z first second = falls_joined x y z first (lowers_fall a y z second)

-- a count that rose is risen after more faults
pub rose_later : (x y z : ℕ) → Rose x y → y ≤ z → Rose x z
rose_later x y z rose later = omega (arith, rose, later)

pub rose_joined : (x y z : ℕ) → Rose x y → Rose y z → Rose x z
rose_joined x y z first second = omega (arith, first, second)
