-- What a call that was noted has left of the log.
use Rattle.std.proofs.Common.{◌≡◌, List, [], ◌∷◌, ◌++◌, reverse, Result, Ok, Err, OnOk, IfOk, is_err, false, ◌∙◌, ap}
use Rattle.sg_disk.specs.declared.history.Call.{Call}
use Rattle.sg_disk.specs.declared.history.Log.{Log}
use Rattle.sg_disk.proofs.Logs.{reverse_push}

pub on_ok : {T E : Type 0} (r : Result T E) (P : Type 0) → is_err r ≡ false → OnOk r P → P
on_ok (Ok x) P is h = h
on_ok (Err e) P is h = cc

pub same_first : (before mid later : Log) → mid ≡ before → later.first ≡ mid.first → later.first.items ≡ before.first.items
same_first before mid later same kept = cc

pub newest : (before mid later : Log) (x : Call) → mid ≡ before → later.calls.items ≡ mid.calls.items ++ x ∷ [] → reverse later.calls.items ≡ x ∷ reverse before.calls.items
newest before mid later x same grown = ap (λ (l : List Call). reverse l) grown ∙ reverse_push mid.calls.items x ∙ ap (λ (l : Log). x ∷ reverse l.calls.items) same

pub if_ok : {T E : Type 0} (r : Result T E) (P Q : T → Type 0) → ((x : T) → P x → Q x) → IfOk r P → IfOk r Q
if_ok (Ok x) P Q f h = f x h
if_ok (Err e) P Q f h = tt
