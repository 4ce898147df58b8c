use Rattle.std.proofs.Common.{arith}
use Rattle.sg_records.proofs.SoundSaved.{plays_few}
use Rattle.sg_records.proofs.epoch.read_epoch.Goals as goal

pub returns-in-None : goal.returns-in-None
returns-in-None c e h number bytes =
    let few = plays_few c.args.limit e h in
    let most = c.ranges.limit.fits in
    c.in-None.ensures e.plays (omega (arith, few, most)) bytes
