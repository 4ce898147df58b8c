-- Runs of calls that only read, and counts of faults over them.
use Rattle.std.proofs.Common.{◌≡◌, ℕ, ◌+◌, ◌≤◌, Bool, true, false, refl, ◌∙◌, subst, arith}
use Rattle.sg_base.specs.Causes.{Rose}
use Rattle.sg_devices.specs.Blame.{CountsFault}
use Rattle.sg_disk.specs.View.{View}
use Rattle.sg_disk.proofs.Moments.{quiet_none, quiet_joined, ran_broke, unchanged_joined}
use Rattle.sg_panels.specs.Reads.{OnlyReads}

-- before the first call
pub only_none : (v : View) → OnlyReads false v v
only_none v = record {
  size = refl;
  moments = (quiet_none v).moments;
  quiet = λ _. (0, quiet_none v);
  broke = λ failed. absurd (cc);
}

-- more calls after some that passed
pub only_joined : (failed : Bool) (x y z : View) → OnlyReads false x y → OnlyReads failed y z → OnlyReads failed x z
only_joined failed x y z first next = record {
  size = next.size ∙ first.size;
  moments = unchanged_joined x y z first.moments next.moments;
  quiet = λ passed. (
    (first.quiet refl).0 + (next.quiet passed).0,
    quiet_joined (first.quiet refl).0 (next.quiet passed).0 x y z (first.quiet refl).1 (next.quiet passed).1,
  );
  broke = λ broken. ran_broke (first.quiet refl).0 x y z (first.quiet refl).1.ran (next.broke broken);
}

pub counts_none : (n : ℕ) → CountsFault false n n
counts_none n = record { later = omega arith; rose = λ failed. absurd (cc); kept = λ _. refl }

pub counts_joined : (failed : Bool) (a b c : ℕ) → CountsFault false a b → CountsFault failed b c → CountsFault failed a c
counts_joined failed a b c first next = record {
  later = omega (arith, first.later, next.later);
  rose = λ broken. rose_from a b c (first.kept refl) (next.rose broken);
  kept = λ passed. next.kept passed ∙ first.kept refl;
}
  where
    rose_from : (a b c : ℕ) → b ≡ a → Rose b c → Rose a c
    rose_from a b c same rose = subst (λ (n : ℕ). Rose n c) same rose

-- calls that counted nothing, and more calls
pub counts_from : (failed : Bool) (a b c : ℕ) → b ≡ a → CountsFault failed b c → CountsFault failed a c
counts_from failed a b c same next = subst (λ (n : ℕ). CountsFault failed n c) same next

-- calls that counted nothing, and one that failed
pub counts_failed : (a b c : ℕ) → CountsFault false a b → b ≤ c → Rose b c → CountsFault true a c
counts_failed a b c first later rose = record {
  later = omega (arith, first.later, later);
  rose = λ _. subst (λ (n : ℕ). Rose n c) (first.kept refl) rose;
  kept = λ passed. absurd (cc);
}

-- calls that counted nothing, and more such calls
pub counts_kept : (a b c : ℕ) → CountsFault false a b → c ≡ b → CountsFault false a c
counts_kept a b c first same = record {
  later = omega (arith, first.later, same);
  rose = λ failed. absurd (cc);
  kept = λ _. same ∙ first.kept refl;
}
