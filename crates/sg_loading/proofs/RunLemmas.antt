-- Calls of a keeper, one after another.
use Rattle.std.proofs.Common.{◌≡◌, ◌∙◌, ◌≤◌, ℕ, ◌+◌, ap, arith, refl, sym, subst}
use Rattle.std.specs.Prelude.{Err, Result}
use Rattle.std.specs.Result.{IsErrOf}
use Rattle.sg_base.specs.Causes.{Rose}
use Rattle.sg_base.proofs.StopLemmas.{lowers_fewer, lowers_falls, lowers_joined, lowers_none}
use Rattle.sg_keeper.specs.View.{Broke, Ran, Same, View}
use Rattle.sg_loading.specs.declared.fault.LoadFault.{LoadFault}
use Rattle.sg_loading.specs.declared.fault.LoadFault.TheVariants as fault
use Rattle.sg_loading.specs.Loading.{Failed}

pub ran_none : (v : View) → Ran 0 v v
ran_none v = record { told = λ t. t; faults = refl; stop = lowers_none v.stop }

-- a first call and more
pub ran_joined : (a b : ℕ) (u v w : View) → Ran a u v → Ran b v w → Ran (a + b) u w
ran_joined a b u v w first then = record {
  told = λ t. then.told (first.told t);
  faults = then.faults ∙ first.faults;
  stop = lowers_joined a b u.stop v.stop w.stop first.stop then.stop;
}

pub ran_fewer : (a b : ℕ) (u v : View) → b ≤ a → Ran a u v → Ran b u v
ran_fewer a b u v le ran = record {
  told = ran.told;
  faults = ran.faults;
  stop = lowers_fewer a b u.stop v.stop le ran.stop;
}

ran_broke : (a : ℕ) (u v w : View) → Ran a u v → Broke v w → Broke u w
ran_broke a u v w ran broke = record {
  told = λ t. broke.told (ran.told t);
  faults = subst (λ n. Rose n w.faults) ran.faults broke.faults;
  stop = lowers_falls a u.stop v.stop w.stop ran.stop broke.stop;
}

-- calls that passed, and what ended loading
pub ran_failed : (a : ℕ) (u v w : View) (f : LoadFault) → Ran a u v → Failed f v w → Failed f u w
ran_failed a u v w fault.Keeper ran failed = ran_broke a u v w ran failed
ran_failed a u v w (fault.BadRow key) ran failed = ran_fewer (a + 0) 0 u w (omega arith) (ran_joined a 0 u v w ran failed)
ran_failed a u v w fault.Memory ran failed = ran_fewer (a + 0) 0 u w (omega arith) (ran_joined a 0 u v w ran failed)

pub same_joined : (u v w : View) → (u.told → v.told) → Same u v → Same v w → Same u w
same_joined u v w told first second t = second (told t) ∙ first t

-- the fault of a call is handed on
pub handed_on : {T U : Type 0} (r : Result T LoadFault) (d e f : LoadFault) → r ≡ Err d → d ≡ e → r ≡ Err f → IsErrOf {T = U} (Err e) f
handed_on {T} {U} r d e f at same is =
    let both : ◌≡◌ {A = Result T LoadFault} (Err d) (Err f) = sym at ∙ is in
    let one : d ≡ f = cc in
    let refusal : LoadFault → Result U LoadFault = λ x. Err x in
    ap refusal (sym same ∙ one)
