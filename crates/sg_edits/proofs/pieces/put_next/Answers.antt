use Rattle.std.proofs.Common.{◌+◌, arith, length, refl}
use Rattle.sg_edits.proofs.PieceCalls.{few_bytes, is_ready, next_held, next_last, saved_held, within_file}
use Rattle.sg_edits.proofs.pieces.put_next.Goals as goal

pub overflow_cast-received : goal.overflow_cast-received
overflow_cast-received g c =
    let few = few_bytes c.args.medium (length c.args.bytes.now) (is_ready c.args.tables.now.rows c.args.medium (length c.args.bytes.now) c.requires.saved c.requires.there c.requires.«open» c.requires.«length») in
    omega arith

pub overflow_add-received : goal.overflow_add-received
overflow_add-received g c =
    let within = within_file c.args.medium (length c.args.bytes.now) (is_ready c.args.tables.now.rows c.args.medium (length c.args.bytes.now) c.requires.saved c.requires.there c.requires.«open» c.requires.«length») in
    omega arith

pub returns-then-received-medium-clause-put : goal.returns-then-received-medium-clause-put
returns-then-received-medium-clause-put g c =
    let now = g.K.Keeper.view c.args.keeper.now in
    next_held c.hold.result now.told c.args.tables.now.rows c.hold.new.tables.rows now.rows (g.K.Keeper.view c.hold.new.keeper).rows c.args.medium c.args.bytes.now (c.args.medium.received + length c.args.bytes.now) refl c.if-received-medium.true
    c.hold.ensures.reply c.hold.ensures.tables c.hold.ensures.rows

pub returns-then-received-medium-clause-saved : goal.returns-then-received-medium-clause-saved
returns-then-received-medium-clause-saved g c =
    saved_held c.hold.result c.args.tables.now.rows c.hold.new.tables.rows c.args.medium (length c.args.bytes.now) (c.args.medium.received + length c.args.bytes.now)
    (is_ready c.args.tables.now.rows c.args.medium (length c.args.bytes.now) c.requires.saved c.requires.there c.requires.«open» c.requires.«length») c.requires.saved c.requires.there refl c.if-received-medium.true
    c.hold.ensures.tables c.hold.ensures.unchanged

pub returns-clause-put : goal.returns-clause-put
returns-clause-put g c =
    let now = g.K.Keeper.view c.args.keeper.now in
    next_last c.put_last.result now.told c.args.tables.now.rows c.put_last.new.tables.rows now.rows (g.K.Keeper.view c.put_last.new.keeper).rows c.args.medium c.args.bytes.now (c.args.medium.received + length c.args.bytes.now) refl c.if-received-medium.false c.put_last.ensures.put
