use Rattle.std.proofs.Common.{◌∙◌}
use Rattle.sg_outside.proofs.PutAll.{put_more, put_some, put_within}
use Rattle.sg_outside.proofs.ends.put_all.Goals as goal

pub loop-done-preserved : goal.loop-done-preserved
loop-done-preserved g c = record {
  within = put_within _ _ _ c.loop-done.invariant.within c.in-Ok.ensures.bytes.0;
  put = put_more _ _ _ _ _ _ c.loop-done.invariant.put c.in-Ok.ensures.bytes.2;
  faults = c.in-Ok.ensures.cause.kept ∙ c.loop-done.invariant.faults;
  apart = record {
    bytes = c.in-Ok.ensures.apart.bytes ∙ c.loop-done.invariant.apart.bytes;
    faults = c.in-Ok.ensures.apart.faults ∙ c.loop-done.invariant.apart.faults;
  };
}

pub returns-in-Err-clause-err : goal.returns-in-Err-clause-err
returns-in-Err-clause-err g c = put_some _ _ _ _ _ c.loop-done.invariant.put c.in-Err.ensures.bytes
