use Rattle.std.proofs.Common.{◌∙◌, ap, sym, ◌+◌}
use Rattle.std.proofs.lemmas.List.Splits.{length-slice_split}
use Rattle.sg_routes.specs.Paths.{is_slash}
use Rattle.sg_routes.proofs.segments.segment_count.Goals as goal

pub returns : goal.returns
returns c = ap (λ n. n + 1) c.slash_count.ensures.count ∙ sym (length-slice_split is_slash c.args.path.now)
