use Rattle.std.proofs.Common.{◌≡◌, ◌∙◌, ◌+◌, ℕ, ap, sym, drop, length, arith}
use Rattle.sg_missing.specs.Missing.{Holding, holding, missing}
use Rattle.sg_missing.proofs.WantedLemmas.{count_left}
use Rattle.sg_missing.proofs.wanted.count_missing.Goals as goal

-- a part that was counted, and what is left
counted : (count one left all before : ℕ) → count + before ≡ all → before ≡ one + left → count + one + left ≡ all
counted count one left all before so_far is = omega (arith, so_far, is)

pub loop-file-preserved : goal.loop-file-preserved
loop-file-preserved g c =
    let here : Holding = holding (g.S.Staging.holds c.args.store.now) (g.S.Staging.part c.args.store.now) in
    let left : ℕ = length (missing here (drop (c.loop-file.file-index + 1) c.args.files.now)) in
    record {
      so_far = counted c.loop-file.count c.count_of-count.result left (length (missing here c.args.files.now)) (length (missing here (drop c.loop-file.file-index c.args.files.now)))
          c.loop-file.invariant.so_far
          (count_left here c.args.files.now c.loop-file.file-index _ c.loop-file-test.true ∙ ap (λ (n : ℕ). n + left) (sym c.count_of-count.ensures.count));
      few = omega arith;
    }
