use Rattle.std.proofs.Common.{◌≡◌, ◌-◌, ap, ◌∙◌, arith}
use Rattle.sg_voice.specs.declared.play.Play.{Play}
use Rattle.sg_voice.specs.Hour.{cyclic}
use Rattle.sg_voice.proofs.MixLemmas.{fill_more, fill_all}
use Rattle.sg_voice.proofs.mix.fill.Goals as goal

pub loop-left-init : goal.loop-left-init
loop-left-init c = record { so_far = fill_all c.args.normal.now c.args.room; room = omega arith }

pub loop-left-preserved : goal.loop-left-preserved
loop-left-preserved c =
    let e : c.saturating_sub-left.result ≡ c.loop-left.left - (cyclic c.args.normal.now c.loop-left.n).seconds = c.saturating_sub-left.ensures ∙ ap (λ (p : Play). c.loop-left.left - p.seconds) c.turn.ensures.value in
    record {
      so_far = rw e (omega (arith, c.loop-left.invariant.so_far, fill_more c.args.room c.loop-left.n c.loop-left.left c.args.normal.now (omega arith) c.loop-left.invariant.room));
      room = omega arith;
    }
