-- What runs of a keeper's calls leave of it.
use Rattle.std.proofs.Common.{◌∙◌, ℕ, ◌+◌, ◌≤◌, arith, subst}
use Rattle.sg_base.specs.Causes.{Rose}
use Rattle.sg_base.proofs.StopLemmas.{lowers_joined, lowers_fewer, lowers_falls}
use Rattle.sg_keeper.specs.declared.keeper.KeeperFail.{KeeperFail}
use Rattle.sg_keeper.specs.declared.keeper.KeeperFail.TheVariants as fail
use Rattle.sg_keeper.specs.View.{View, Ran, Refused, Same}

pub ran_joined : (a b : ℕ) (x y z : View) → Ran a x y → Ran b y z → Ran (a + b) x z
ran_joined a b x y z first second = record {
  told = λ t. second.told (first.told t);
  faults = second.faults ∙ first.faults;
  stop = lowers_joined a b x.stop y.stop z.stop first.stop second.stop;
}

pub ran_fewer : (a b : ℕ) (x y : View) → b ≤ a → Ran a x y → Ran b x y
ran_fewer a b x y le ran = record { told = ran.told; faults = ran.faults; stop = lowers_fewer a b x.stop y.stop le ran.stop }

-- calls that passed, and then one that was refused
pub ran_refused : (a : ℕ) (why : KeeperFail) (x y z : View) → Ran a x y → Refused why y z → Refused why x z
ran_refused a fail.Failed x y z first second = record {
  told = λ t. second.told (first.told t);
  faults = subst (λ n. Rose n z.faults) first.faults second.faults;
  stop = lowers_falls a x.stop y.stop z.stop first.stop second.stop;
}
ran_refused a fail.Memory x y z first second = ran_fewer (a + 0) 0 x z (omega arith) (ran_joined a 0 x y z first second)

pub same_joined : (x y z : View) → (x.told → y.told) → Same x y → Same y z → Same x z
same_joined x y z told first second = λ t. second (told t) ∙ first t
