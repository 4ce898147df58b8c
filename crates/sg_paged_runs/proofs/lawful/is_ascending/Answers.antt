use Rattle.std.proofs.Common.{◌≡◌, inl, inr, ℕ, ◌+◌, ◌-◌, ◌<◌, ◌≤◌, List, length, get_or, ap, subst, arith}
use Rattle.std.proofs.lemmas.Bool.{cases_lt}
use Rattle.std.proofs.lemmas.List.{get_or_default}
use Rattle.sg_base.specs.declared.file.Listed.{Listed}
use Rattle.sg_paged_runs.proofs.lawful.is_ascending.Goals as goal

rising_more : (files : List Listed) (i : ℕ) (e f : Listed) → 1 ≤ i → i < length files → ((a b : ℕ) (d : Listed) → a < b → b < i → (get_or files a d).media.0 < (get_or files b d).media.0) → (get_or files (i - 1) e).media.0 < (get_or files i f).media.0 → (a b : ℕ) (d : Listed) → a < b → b < i + 1 → (get_or files a d).media.0 < (get_or files b d).media.0
rising_more files i e f some lt before step a b d less below =
    let near : i - 1 < length files = omega (arith, lt) in
    let last : (get_or files (i - 1) e).media.0 ≡ (get_or files (i - 1) d).media.0 = ap (λ (l : Listed). l.media.0) (get_or_default files (i - 1) e d near) in
    let next : (get_or files i f).media.0 ≡ (get_or files i d).media.0 = ap (λ (l : Listed). l.media.0) (get_or_default files i f d lt) in
    elim (cases_lt b i) [
      | inl old ↦ before a b d less old
      | inr new ↦
          let at : i ≡ b = omega (arith, new, below) in
          subst (λ (k : ℕ). (get_or files a d).media.0 < (get_or files k d).media.0) at (elim (cases_lt a (i - 1)) [
            | inl under ↦ omega (arith, before a (i - 1) d under (omega (arith, some)), step, last, next)
            | inr same ↦
                let here : i - 1 ≡ a = omega (arith, same, less, at) in
                subst (λ (k : ℕ). (get_or files k d).media.0 < (get_or files i d).media.0) here (omega (arith, step, last, next))
          ])
    ]

pub loop-i-preserved : goal.loop-i-preserved
loop-i-preserved c = rising_more c.args.files.now c.loop-i.i _ _ (omega arith) c.loop-i-test.true c.loop-i.invariant c.if-files-i.false
