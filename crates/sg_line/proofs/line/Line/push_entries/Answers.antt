use Rattle.std.proofs.Common.{arith, refl, ◌∙◌}
use Rattle.sg_line.specs.Lines.{entry_text}
use Rattle.sg_line.proofs.LineLemmas.{entry_added}
use Rattle.sg_line.proofs.line.Line.push_entries.Goals as goal

pub loop-i-preserved : goal.loop-i-preserved
loop-i-preserved c = record {
  text = c.push_entry.ensures.text ∙ entry_added entry_text c.args.picture.now c.loop-i.i c.at-region.result c.args.self.now c.loop-i.self (entry_text c.at-region.result) c.at-region.ensures refl c.loop-i.invariant.text;
  room = omega (arith, c.push_entry.ensures.room, c.loop-i.invariant.room);
  few = omega (arith, c.loop-i-test.true, c.len-i-end.ensures.few);
}
