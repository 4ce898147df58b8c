use Rattle.std.proofs.Common.{◌-◌, ◌≡◌, ◌≤◌, ◌∙◌, ap, sym, length, drop, take, min, arith}
use Rattle.std.proofs.lemmas.List.{length-take-le}
use Rattle.sg_outside.proofs.Taken.{left_is, given_and_left, given_within, none_left}
use Rattle.sg_outside.proofs.memory.MemSourceSource.take.Goals as goal

pub returns-clause-bytes : goal.returns-clause-bytes
returns-clause-bytes c =
    let bytes = c.self.inside.bytes.items in
    let n = c.min-count.result in
    let left : take (length c.deref.result.now - c.self.inside.place) (drop c.self.inside.place c.deref.result.now) ≡ drop c.self.inside.place bytes =
    ap (λ l. take (length l - c.self.inside.place) (drop c.self.inside.place l)) c.deref.ensures.value ∙ left_is bytes c.self.inside.place in
    let copied : c.copy_from_slice.new.self ≡ take n (drop c.self.inside.place bytes) = c.copy_from_slice.ensures.after ∙ ap (take n) left in
    let count : n ≡ min (min (length (drop c.self.inside.place bytes)) (length c.args.into.now)) c.self.inside.limit =
    c.min-count.ensures ∙ ap (λ m. min m c.self.inside.limit) (c.min.ensures ∙ ap (λ l. min (length l) (length c.args.into.now)) left) in
    let within : n ≤ length (drop c.self.inside.place bytes) = omega (arith, count) in
    let len : length c.copy_from_slice.new.self ≡ n = ap length copied ∙ length-take-le n _ within in (
      given_within _ _ _ len,
      ap (λ s. s.left) (sym c.self.view_is) ∙ given_and_left bytes _ _ _ n copied within,
      none_left bytes _ _ _ n _ len count c.self.invariant.1,
    )
