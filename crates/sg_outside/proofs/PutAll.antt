-- One put after another.
use Rattle.std.proofs.Common.{◌≡◌, ℕ, ◌+◌, ◌-◌, ◌≤◌, List, length, take, drop, sym, ap, subst, arith, length-drop}
use Rattle.std.specs.declared.option.Option.{Option}
use Rattle.std.specs.Io.KnownBytes.{Appends, Keeps}
use Rattle.std.proofs.KnownBytes.{Appends-trans, Appends-kept}
use Rattle.std.proofs.lemmas.List.{take-append-drop, take_all}
use Rattle.std.proofs.Math.Seq.{take-add}
use Rattle.sg_outside.specs.Streams.{AppendsPart}

-- `&bytes[done..]` is what follows the first `done` bytes
rest_is : (bytes : List ℕ) (done : ℕ) → take (length bytes - done) (drop done bytes) ≡ drop done bytes
rest_is bytes done = take_all _ _ (omega (arith, length-drop done bytes))

-- no more is put than there is
pub put_within : (bytes : List ℕ) (done n : ℕ) → done ≤ length bytes → n ≤ length (take (length bytes - done) (drop done bytes)) → done + n ≤ length bytes
put_within bytes done n h k = omega (arith, ap length (rest_is bytes done), length-drop done bytes)

-- the first `done` bytes were put, and then n of the rest: the first `done + n` were put
pub put_more : (a b c : Option (List ℕ)) (bytes : List ℕ) (done n : ℕ) → Appends a b (take done bytes)
    → Appends b c (take n (take (length bytes - done) (drop done bytes))) → Appends a c (take (done + n) bytes)
put_more a b c bytes done n p q =
    subst (Appends a c) (sym (take-add done n bytes))
    (Appends-trans a b c _ _ p (subst (Appends b c) (ap (take n) (rest_is bytes done)) q))

-- the first `done` bytes were put, and then none: a part was put
pub put_some : (a b c : Option (List ℕ)) (bytes : List ℕ) (done : ℕ) → Appends a b (take done bytes) → Keeps b c → AppendsPart a c bytes
put_some a b c bytes done p q = record {
  part = take done bytes;
  rest = drop done bytes;
  split = sym (take-append-drop done bytes);
  put = Appends-kept a b c _ p q;
}
