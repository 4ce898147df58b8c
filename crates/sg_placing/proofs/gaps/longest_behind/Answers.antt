use Rattle.std.proofs.Common.{ℕ, ◌≤◌, ◌++◌, arith}
use Rattle.std.proofs.lemmas.List.Elements.{All-from_all_within, AllWithin-upto}
use Rattle.sg_placing.specs.Placing.{end_of, IsFree, NoneEndsBetween}
use Rattle.sg_placing.specs.declared.placed.Placed.{Placed}
use Rattle.sg_placing.proofs.GapLemmas.{longest_none, longest_more, nowhere}
use Rattle.sg_placing.proofs.gaps.longest_behind.Goals as goal

pub loop-file-init : goal.loop-file-init
loop-file-init c = longest_none c.args.room (c.args.current.now ++ c.args.staged.now) c.args.files.now c.args.before

pub loop-file-preserved : goal.loop-file-preserved
loop-file-preserved c = longest_more c.args.room (c.args.current.now ++ c.args.staged.now) c.args.files.now c.args.before c.loop-file.file-index c.loop-file.longest c.gap_at.result c.end.result c.max-longest.result nowhere c.loop-file-test.true c.end.ensures c.max-longest.ensures c.gap_at.ensures.found c.gap_at.ensures.most c.loop-file.invariant

pub returns-clause-most : goal.returns-clause-most
returns-clause-most c =
    let Most = λ (p : Placed). (n q : ℕ) → end_of p ≤ q → NoneEndsBetween (c.args.current.now ++ c.args.staged.now) (end_of p) q → IsFree c.args.room (c.args.current.now ++ c.args.staged.now) n q → n ≤ c.loop-file.longest in
    All-from_all_within Most c.args.files.now (AllWithin-upto Most c.args.files.now 0 c.loop-file.file-index _ (omega arith) c.loop-file.invariant.most)
