use Rattle.std.proofs.Common.{◌≡◌, ◌-◌, ◌∙◌, ap, sym, arith}
use Rattle.sg_routes.specs.Paths.{segment, segments}
use Rattle.sg_routes.proofs.SegmentLemmas.{front_segment}
use Rattle.sg_routes.proofs.segments.segment.Goals as goal

pub returns : goal.returns
returns c =
    let done : c.args.index - c.loop-i._i ≡ 0 = omega arith in
    c.front.ensures ∙ (sym (front_segment c.loop-i.rest.now)
    ∙ (ap (λ k. segment k (segments c.loop-i.rest.now)) (sym done) ∙ c.loop-i.invariant))
