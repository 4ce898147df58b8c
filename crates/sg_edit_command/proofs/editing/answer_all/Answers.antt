use Rattle.std.proofs.Common.{◌∙◌, ◌+◌, ℕ, [], ◌∷◌, ◌++◌, ap, refl, sym}
use Rattle.std.proofs.KnownBytes.{Appends-nil}
use Rattle.sg_edit_command.proofs.EndLemmas.{ends_behind, if_none}
use Rattle.sg_edit_command.proofs.FoldLemmas.{length_more}
use Rattle.sg_edit_command.proofs.ReadLemmas.{given_new}
use Rattle.sg_edit_command.proofs.RunLemmas.{answered_more, answered_none, ends_after, put_more}
use Rattle.sg_edit_command.specs.Answering.{EndsNext, IsNext}
use Rattle.sg_edit_command.specs.Asking.{replies}
use Rattle.sg_edit_command.specs.Edits.{Edits}
use Rattle.sg_lines.specs.Reading.{Input, side}
use Rattle.sg_edit_command.proofs.editing.answer_all.Goals as goal

pub line-init : goal.line-init
line-init g c =
    let before : Input = side g.S.Ends.left g.S.Ends.take_faults c.args.source.now in
    record {
      given = [];
      number = refl;
      answered = answered_none before c.new-lines.result c.args.cms.now (g.K.Keeper.view c.args.keeper.now) (given_new before c.new-lines.result c.new-lines.ensures);
      put = Appends-nil (g.O.Ends.written c.args.out.now);
      quiet = refl;
    }

pub returns-in-Some : goal.returns-in-Some
returns-in-Some g c =
    let before : Input = side g.S.Ends.left g.S.Ends.take_faults c.args.source.now in
    let now : Input = side g.S.Ends.left g.S.Ends.take_faults c.line.source in
    let after : Input = side g.S.Ends.left g.S.Ends.take_faults c.answer_next.new.source in
    let inv = c.line.invariant in
    ends_behind (EndsNext now after c.line.lines (c.line.number + 1) c.line.cms (g.K.Keeper.view c.line.keeper) (g.K.Keeper.view c.answer_next.new.keeper))
    (Edits c.args.cms.now before after (g.K.Keeper.view c.args.keeper.now) (g.K.Keeper.view c.answer_next.new.keeper)) (replies c.args.cms.now inv.given) c.in-Some.status _ _ _ _ _ _ inv.put inv.quiet
    (ends_after before now after c.line.lines c.args.cms.now c.line.cms (g.K.Keeper.view c.args.keeper.now) (g.K.Keeper.view c.line.keeper) (g.K.Keeper.view c.answer_next.new.keeper) inv.given
    inv.answered (c.line.number + 1) (ap (λ (n : ℕ). n + 1) inv.number))
    c.in-Some.ensures

pub line-preserved : goal.line-preserved
line-preserved g c =
    let before : Input = side g.S.Ends.left g.S.Ends.take_faults c.args.source.now in
    let now : Input = side g.S.Ends.left g.S.Ends.take_faults c.line.source in
    let after : Input = side g.S.Ends.left g.S.Ends.take_faults c.answer_next.new.source in
    let inv = c.line.invariant in
    let next : IsNext now after c.line.lines c.answer_next.new.lines c.line.cms c.answer_next.new.cms (g.K.Keeper.view c.line.keeper) (g.K.Keeper.view c.answer_next.new.keeper) (g.O.Ends.written c.line.out) (g.O.Ends.written c.answer_next.new.out) (g.O.Ends.put_faults c.line.out) (g.O.Ends.put_faults c.answer_next.new.out) =
    if_none c.answer_next.result _ _ c.in_default.not-Some c.answer_next.ensures in
    record {
      given = inv.given ++ next.line ∷ [];
      number = ap (λ (n : ℕ). n + 1) inv.number ∙ sym (length_more inv.given next.line);
      answered =
          answered_more before now after c.line.lines c.args.cms.now c.line.cms (g.K.Keeper.view c.args.keeper.now) (g.K.Keeper.view c.line.keeper) (g.K.Keeper.view c.answer_next.new.keeper) inv.given
          inv.answered c.answer_next.new.cms c.answer_next.new.lines next.line next.gives next.done.answered;
      put = put_more c.args.cms.now c.line.cms inv.given next.line _ _ _ inv.answered.after inv.put next.done.put;
      quiet = next.done.quiet ∙ inv.quiet;
    }
