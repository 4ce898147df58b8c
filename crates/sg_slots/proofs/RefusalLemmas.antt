-- What a refusal leaves, call by call.
use Rattle.std.proofs.Common.{◌≡◌, ℕ, ◌+◌, List, length, Result, Ok, Err, OnErr, IfErr, IsErrOf, sym, ◌∙◌, ap, arith}
use Rattle.sg_disk.specs.View.{View, Same, Passed}
use Rattle.sg_disk.specs.Runs.{Ran}
use Rattle.sg_disk.proofs.Moments.{ran_joined, ran_broke, ran_fewer}
use Rattle.sg_slots.specs.Refusals.{EndedBy}
use Rattle.sg_slots.specs.declared.fault.OpenFault.{OpenFault}
use Rattle.sg_slots.specs.declared.fault.OpenFault.TheVariants.{Unformatted, Damaged, Disk, Memory}

-- damage that was found behind calls that all passed
pub ended_damaged : (T : Type 0) (fault : OpenFault) (v w : View) → (place : ℕ) × (found : ℕ) × IsErrOf {T = T} (Err fault) (Damaged place found) → Ran 0 v w → EndedBy fault v w
ended_damaged T Unformatted v w is ran = ran
ended_damaged T (Damaged place found) v w is ran = ran
ended_damaged T Disk v w is ran = absurd (not_disk T is.0 is.1 is.2)
  where
    not_disk : (T : Type 0) (place found : ℕ) → IsErrOf {T = T} (Err Disk) (Damaged place found) → ⊥
    not_disk T place found same = cc
ended_damaged T Memory v w is ran = ran

pub ended_checked : (T : Type 0) (r : Result T OpenFault) (v w : View) → OnErr r ((place : ℕ) × (found : ℕ) × IsErrOf r (Damaged place found)) → Ran 0 v w → IfErr r (λ fault. EndedBy fault v w)
ended_checked T (Ok x) v w only ran = tt
ended_checked T (Err fault) v w only ran = ended_damaged T fault v w only ran

-- a refusal that is handed on
pub handed_on : (T U : Type 0) (r : Result U OpenFault) (fault given other : OpenFault) → r ≡ Err fault → fault ≡ given → IsErrOf r other → IsErrOf {T = T} (Err given) other
handed_on T U r fault given other one two is =
    let same : given ≡ other = cc in
    ap (λ (f : OpenFault). Err f) same

-- behind calls that all passed
pub ended_after : (k : ℕ) (v u w : View) (fault : OpenFault) → Ran k v u → EndedBy fault u w → EndedBy fault v w
ended_after k v u w Unformatted ran ended = ran_fewer (k + 0) 0 v w (omega arith) (ran_joined k 0 v u w ran ended)
ended_after k v u w (Damaged place found) ran ended = ran_fewer (k + 0) 0 v w (omega arith) (ran_joined k 0 v u w ran ended)
ended_after k v u w Disk ran ended = ran_broke k v u w ran ended
ended_after k v u w Memory ran ended = ran_fewer (k + 0) 0 v w (omega arith) (ran_joined k 0 v u w ran ended)

-- a disk that tells its bytes keeps its length at a call that changes nothing
pub size_told : (v w : View) → Passed Same Same v w → v.told → w.size ≡ v.size
size_told v w call told = sym (w.sized (call.told told)) ∙ ap (λ (c : List ℕ). length c) (call.bytes told) ∙ v.sized told
