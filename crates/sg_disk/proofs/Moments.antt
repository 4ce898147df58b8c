-- Runs of calls, one behind another.
use Rattle.std.proofs.Common.{◌≡◌, inl, inr, ℕ, ◌+◌, ◌≤◌, List, refl, sym, ◌∙◌, subst, arith, ⊎_elim}
use Rattle.sg_base.proofs.StopLemmas.{lowers_none, lowers_joined, lowers_fewer, lowers_falls, rose_later}
use Rattle.sg_disk.specs.View.{View, Same, Elapses, Passed, Failed, Only}
use Rattle.sg_disk.specs.Runs.{LeavesOnly, Ran, Broke, Quiet}

-- before the first call
pub started : (v : View) (P : List ℕ → Type 0) → ((c : List ℕ) → v.images c → P c) → LeavesOnly P v v
started v P here = record {
  later = omega arith;
  each = λ c left. here c (v.only_now c left);
  before = λ t c le left. inl left;
}

-- one call more
pub called : (old mid new : View) (P : List ℕ → Type 0) → LeavesOnly P old mid → Elapses mid new → ((c : List ℕ) → new.images c → P c) → LeavesOnly P old new
called old mid new P so_far time here = record {
  later = omega (arith, so_far.later, time.later);
  each = λ c left. ⊎_elim (so_far.each c) (here c) (time.nothing_else old.moment c so_far.later left);
  before = λ t c le left. ⊎_elim (so_far.before t c le) (λ now. inr (here c now)) (time.nothing_else t c (omega (arith, le, so_far.later)) left);
}

-- one call alone
pub one_call : (old new : View) (P : List ℕ → Type 0) → ((c : List ℕ) → old.images c → P c) → Elapses old new → ((c : List ℕ) → new.images c → P c) → LeavesOnly P old new
one_call old new P first time here = called old old new P (started old P first) time here

-- one run behind another
pub joined : (old mid new : View) (P : List ℕ → Type 0) → LeavesOnly P old mid → LeavesOnly P mid new → LeavesOnly P old new
joined old mid new P first second = record {
  later = omega (arith, first.later, second.later);
  each = λ c left. ⊎_elim (first.each c) (λ p. p) (second.before old.moment c first.later left);
  before = λ t c le left. ⊎_elim (first.before t c le) (λ p. inr p) (second.before t c (omega (arith, le, first.later)) left);
}

pub weaker : (old new : View) (P Q : List ℕ → Type 0) → ((c : List ℕ) → P c → Q c) → LeavesOnly P old new → LeavesOnly Q old new
weaker old new P Q f run = record {
  later = run.later;
  each = λ c left. f c (run.each c left);
  before = λ t c le left. ⊎_elim (λ b. inl b) (λ p. inr (f c p)) (run.before t c le left);
}

-- each image now
pub at_end : (old new : View) (P : List ℕ → Type 0) → LeavesOnly P old new → (c : List ℕ) → new.images c → P c
at_end old new P run c now = run.each c (new.counts_now old.moment c run.later now)

pub ran_none : (v : View) → Ran 0 v v
ran_none v = record { told = λ t. t; faults = refl; stop = lowers_none v.stop }

pub ran_one : (exact torn : List ℕ → List ℕ → Type 0) (old new : View) → Passed exact torn old new → Ran 1 old new
ran_one exact torn old new call = record { told = call.told; faults = call.faults; stop = call.stop }

pub broke_one : (torn : List ℕ → List ℕ → Type 0) (old new : View) → Failed torn old new → Broke old new
broke_one torn old new call = record { told = call.told; faults = call.faults; stop = call.stop }

pub ran_joined : (a b : ℕ) (x y z : View) → Ran a x y → Ran b y z → Ran (a + b) x z
ran_joined a b x y z first second = record {
  told = λ t. second.told (first.told t);
  faults = second.faults ∙ first.faults;
  stop = lowers_joined a b x.stop y.stop z.stop first.stop second.stop;
}

pub ran_broke : (a : ℕ) (x y z : View) → Ran a x y → Broke y z → Broke x z
ran_broke a x y z first second = record {
  told = λ t. second.told (first.told t);
  faults = omega (arith, first.faults, second.faults);
  stop = lowers_falls a x.stop y.stop z.stop first.stop second.stop;
}

pub ran_fewer : (a b : ℕ) (x y : View) → b ≤ a → Ran a x y → Ran b x y
ran_fewer a b x y le ran = record { told = ran.told; faults = ran.faults; stop = lowers_fewer a b x.stop y.stop le ran.stop }

pub quiet_none : (v : View) → Quiet 0 v v
quiet_none v = record { ran = ran_none v; size = refl; bytes = λ _. refl; moments = started v v.images (λ c now. now) }

-- a call that changes nothing leaves images of before
same_images : (old new : View) → ((c : List ℕ) → new.images c → (d : List ℕ) × old.images d × Same d c) → (c : List ℕ) → new.images c → old.images c
same_images old new follows c now = let was = follows c now in subst old.images (sym was.2) was.1

-- one call that changes nothing, whether it passed or failed
pub unchanged : (old new : View) → Passed Same Same old new → LeavesOnly old.images old new
unchanged old new call = one_call old new old.images (λ c now. now) call.time (same_images old new call.images)

pub unchanged_failed : (old new : View) → Failed Same old new → LeavesOnly old.images old new
unchanged_failed old new call = one_call old new old.images (λ c now. now) call.time (same_images old new call.images)

-- one such run behind another
pub unchanged_joined : (x y z : View) → LeavesOnly x.images x y → LeavesOnly y.images y z → LeavesOnly x.images x z
unchanged_joined x y z first second = joined x y z x.images first (weaker y z y.images x.images (at_end x y x.images first) second)

pub quiet_one : (old new : View) → Passed Same Same old new → new.size ≡ old.size → Quiet 1 old new
quiet_one old new call size = record {
  ran = ran_one Same Same old new call;
  size = size;
  bytes = call.bytes;
  moments = unchanged old new call;
}

pub quiet_joined : (a b : ℕ) (x y z : View) → Quiet a x y → Quiet b y z → Quiet (a + b) x z
quiet_joined a b x y z first second = record {
  ran = ran_joined a b x y z first.ran second.ran;
  size = second.size ∙ first.size;
  bytes = λ t. second.bytes (first.ran.told t) ∙ first.bytes t;
  moments = unchanged_joined x y z first.moments second.moments;
}

-- a call that failed behind them
pub quiet_failed : (a : ℕ) (x y z : View) → Quiet a x y → Failed Same y z → LeavesOnly x.images x z
quiet_failed a x y z so_far call = unchanged_joined x y z so_far.moments (unchanged_failed y z call)

pub quiet_fewer : (a b : ℕ) (x y : View) → b ≤ a → Quiet a x y → Quiet b x y
quiet_fewer a b x y le quiet = record { ran = ran_fewer a b x y le quiet.ran; size = quiet.size; bytes = quiet.bytes; moments = quiet.moments }

-- what was stable stays so
pub quiet_only : (a : ℕ) (x y : View) (b : List ℕ) → Quiet a x y → Only b x → Only b y
quiet_only a x y b quiet only c now = only c (at_end x y x.images quiet.moments c now)

-- for any contents
pub quiet_leaves : (a : ℕ) (x y : View) (P : List ℕ → Type 0) → Quiet a x y → ((c : List ℕ) → x.images c → P c) → LeavesOnly P x y
quiet_leaves a x y P quiet here = weaker x y x.images P here quiet.moments
