-- One call of a keeper after another.
use Rattle.std.proofs.Common.{◌∙◌, ◌+◌, ◌≤◌, ℕ, Result, Ok, Err, refl, subst, arith}
use Rattle.std.specs.Prelude.{IfErr, OnErr, OnOk}
use Rattle.sg_base.specs.Causes.{Rose}
use Rattle.sg_base.proofs.StopLemmas.{lowers_falls, lowers_fewer, lowers_joined, lowers_none}
use Rattle.sg_keeper.specs.View.{Broke, Ran, Same, View}
use Rattle.sg_steps.specs.declared.fault.CmsFault.{CmsFault}
use Rattle.sg_steps.specs.declared.fault.CmsFault.TheVariants as cms
use Rattle.sg_steps.specs.Calls.{Failed}

pub ran_none : (v : View) → Ran 0 v v
ran_none v = record { told = λ t. t; faults = refl; stop = lowers_none v.stop }

-- calls that passed, and some more
pub ran_joined : (a b : ℕ) (x y z : View) → Ran a x y → Ran b y z → Ran (a + b) x z
ran_joined a b x y z p q = record {
  told = λ t. q.told (p.told t);
  faults = q.faults ∙ p.faults;
  stop = lowers_joined a b x.stop y.stop z.stop p.stop q.stop;
}

-- a call that failed after calls that passed
pub broke_later : (a : ℕ) (x y z : View) → Ran a x y → Broke y z → Broke x z
broke_later a x y z p q = record {
  told = λ t. q.told (p.told t);
  faults = subst (λ n. Rose n z.faults) p.faults q.faults;
  stop = lowers_falls a x.stop y.stop z.stop p.stop q.stop;
}

-- the rows stay over two calls
pub same_joined : (a : ℕ) (x y z : View) → Ran a x y → Same x y → Same y z → Same x z
same_joined a x y z p q r t = r (p.told t) ∙ q t

-- of a call that passed, any is left to be made
pub ran_any : {T E : Type 0} (r : Result T E) (x y : View) → OnOk r (Ran 1 x y) → OnOk r (Ran 0 x y)
ran_any (Ok v) x y p = record { told = p.told; faults = p.faults; stop = lowers_fewer 1 0 x.stop y.stop (omega arith) p.stop }
ran_any (Err e) x y p = tt

-- a call after calls that passed, which failed or was out of memory
pub failed_later : (a : ℕ) (fault : CmsFault) (x y z : View) → Ran a x y → Failed fault y z → Failed fault x z
failed_later a cms.Keeper x y z p q = broke_later a x y z p q
failed_later a cms.Memory x y z p q =
    let both = ran_joined a 0 x y z p q in
    record { told = both.told; faults = both.faults; stop = lowers_fewer (a + 0) 0 x.stop z.stop (omega arith) both.stop }

-- ---- a call after calls that passed, by its result

pub ran_then : {T E : Type 0} (a b : ℕ) (r : Result T E) (x y z : View) → Ran a x y → OnOk r (Ran b y z) → OnOk r (Ran (a + b) x z)
ran_then a b (Ok v) x y z p q = ran_joined a b x y z p q
ran_then a b (Err e) x y z p q = tt

pub failed_then : {T : Type 0} (a : ℕ) (r : Result T CmsFault) (x y z : View) → Ran a x y → IfErr r (λ fault. Failed fault y z) → IfErr r (λ fault. Failed fault x z)
failed_then a (Ok v) x y z p q = tt
failed_then a (Err fault) x y z p q = failed_later a fault x y z p q

pub same_then : {T E : Type 0} (a : ℕ) (r : Result T E) (x y z : View) → Ran a x y → Same x y → OnErr r (Same y z) → OnErr r (Same x z)
same_then a (Ok v) x y z p same q = tt
same_then a (Err e) x y z p same q = same_joined a x y z p same q
