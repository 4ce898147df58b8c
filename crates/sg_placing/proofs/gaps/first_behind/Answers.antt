use Rattle.std.proofs.Common.{◌∙◌, ◌+◌, ◌<◌, ◌≤◌, sym, subst, arith, get_or, ℕ}
use Rattle.std.proofs.lemmas.List.Elements.{All-from_all_within, AllWithin-upto}
use Rattle.sg_disk.specs.Contents.{IsClear}
use Rattle.sg_placing.specs.Placing.{segment_of, end_of}
use Rattle.sg_placing.proofs.GapLemmas.{Behind, behind_none, behind_more, behind_same, nowhere}
use Rattle.sg_placing.proofs.gaps.first_behind.Goals as goal
use Rattle.sg_placing.proofs.gaps.first_behind.Goals.{then-place-end, else-place-end}

pub loop-file-init : goal.loop-file-init
loop-file-init c = behind_none c.args.files.now c.args.place c.args.limit

pub loop-file-preserved : goal.loop-file-preserved
loop-file-preserved c = elim c.if-place-end.branch [
  | then-place-end w ↦ behind_more c.args.files.now c.args.place c.args.limit c.loop-file.file-index c.loop-file.least c.if-place-end.least nowhere c.loop-file-test.true (omega (arith, c.end.ensures)) (w.least-is ∙ w.min-least.ensures) c.loop-file.invariant
  | else-place-end w ↦ subst (λ (n : ℕ). Behind c.args.files.now c.args.place c.args.limit (c.loop-file.file-index + 1) n) (sym w.least-is)
      (behind_same c.args.files.now c.args.place c.args.limit c.loop-file.file-index c.loop-file.least nowhere c.loop-file-test.true (omega (arith, c.end.ensures)) c.loop-file.invariant)
]

pub returns-clause-clear : goal.returns-clause-clear
returns-clause-clear c n le = All-from_all_within (λ p. IsClear c.args.place n (segment_of p)) c.args.files.now (AllWithin-upto (λ p. IsClear c.args.place n (segment_of p)) c.args.files.now 0 c.loop-file.file-index _ (omega arith) (c.loop-file.invariant.clear n le))
