use Rattle.sg_base.specs.Keys.{number_of}
use Rattle.sg_loading.specs.Loading.{core_of}
use Rattle.sg_loading.proofs.RowLemmas.{client_joins, epoch_joins, saved_joins}
use Rattle.sg_loading.proofs.rows.load_row.Goals as goal

pub returns-in-8-clause-joins : goal.returns-in-8-clause-joins
returns-in-8-clause-joins c =
    client_joins (core_of c.args.parts.now c.args.limit) (number_of c.args.key) c.args.bytes.now c.load_client.new.clients.items c.load_client.result c.load_client.ensures.joins

pub returns-in-9-clause-joins : goal.returns-in-9-clause-joins
returns-in-9-clause-joins c =
    epoch_joins (core_of c.args.parts.now c.args.limit) (number_of c.args.key) c.args.bytes.now c.load_epoch.new.epochs.items c.load_epoch.result c.load_epoch.ensures.joins

pub returns-in_default-clause-joins : goal.returns-in_default-clause-joins
returns-in_default-clause-joins c =
    saved_joins (core_of c.args.parts.now c.args.limit) (number_of c.args.key) c.args.bytes.now c.load_saved.new.tables.rows c.load_saved.result c.load_saved.ensures.joins
