use Rattle.std.proofs.Common.{◌≡◌, Some, sym, subst}
use Rattle.sg_base.specs.declared.ids.MediaId.{MediaId}
use Rattle.sg_base.specs.declared.kind.Kind.TheVariants as kind
use Rattle.sg_edits.specs.Media.{kept_of}
use Rattle.sg_edits.proofs.PieceCalls.{put_found, put_missing}
use Rattle.sg_tables.specs.Refusals.{row_at}
use Rattle.sg_tables.specs.Rows.{at}
use Rattle.sg_edits.proofs.pieces.put.Goals as goal

pub put_at-requires-clause-there : goal.put_at-requires-clause-there
put_at-requires-clause-there g c =
    subst (λ (k : MediaId). row_at (at kind.Media k.0) c.args.tables.now.rows ≡ Some (kept_of c.in-Some.medium)) (sym c.in-Some.ensures.media) c.in-Some.ensures.there

pub returns-in-Some-clause-put : goal.returns-in-Some-clause-put
returns-in-Some-clause-put g c =
    put_found c.put_at.result (g.K.Keeper.view c.args.keeper.now).told c.args.tables.now.rows c.put_at.new.tables.rows (g.K.Keeper.view c.args.keeper.now).rows (g.K.Keeper.view c.put_at.new.keeper).rows c.args.media c.args.offset c.args.bytes.now c.in-Some.medium
    c.in-Some.ensures.media c.in-Some.ensures.there c.put_at.ensures.put

pub returns-in-None-clause-put : goal.returns-in-None-clause-put
returns-in-None-clause-put g c told stored h = put_missing c.args.tables.now.rows (g.K.Keeper.view c.args.keeper.now).rows c.args.media c.args.offset c.args.bytes.now stored c.in-None.ensures.there
