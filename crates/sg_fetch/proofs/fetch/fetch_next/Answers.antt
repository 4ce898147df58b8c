use Rattle.sg_intake.specs.Stocks.{stock}
use Rattle.sg_fetch.specs.Fetching.{lack_of}
use Rattle.sg_fetch.proofs.CountLemmas.{less_after, way_after}
use Rattle.sg_fetch.proofs.NextLemmas.{is_there, not_held}
use Rattle.sg_fetch.proofs.fetch.fetch_next.Goals as goal

pub fetch-requires-clause-new : goal.fetch-requires-clause-new
fetch-requires-clause-new g c = not_held (g.S.Staging.holds c.args.store.now) c.args.files.now c.in-Some.piece.file c.in-Some.ensures.first.file

pub fetch-requires-clause-listed : goal.fetch-requires-clause-listed
fetch-requires-clause-listed g c = (
  c.args.files.now,
  c.requires.files,
  is_there (g.S.Staging.holds c.args.store.now) c.args.files.now c.in-Some.piece.file c.in-Some.ensures.first.file,
  c.requires.only,
)

pub returns-in-Ok-clause-under_way : goal.returns-in-Ok-clause-under_way
returns-in-Ok-clause-under_way g c =
    way_after (lack_of (g.S.Staging.part c.args.store.now) (g.S.Intake.lack c.args.store.now c.in-Some.piece.file)) c.args.asker.now c.in-Some.piece
    (g.L.Link.told c.args.link.now) (g.L.Link.told c.fetch.new.link)
    (stock (g.S.Staging.holds c.args.store.now) (g.S.Staging.part c.args.store.now) (g.S.Intake.came c.args.store.now))
    (stock (g.S.Staging.holds c.fetch.new.store) (g.S.Staging.part c.fetch.new.store) (g.S.Intake.came c.fetch.new.store))
    c.args.files.now c.in-Ok.end c.requires.files.are c.requires.under_way c.in-Some.ensures.first c.in-Ok.ensures.fetched

pub returns-in-Ok-clause-counts : goal.returns-in-Ok-clause-counts
returns-in-Ok-clause-counts g c =
    less_after (lack_of (g.S.Staging.part c.args.store.now) (g.S.Intake.lack c.args.store.now c.in-Some.piece.file)) c.args.asker.now c.in-Some.piece
    (g.L.Link.told c.args.link.now) (g.L.Link.told c.fetch.new.link)
    (stock (g.S.Staging.holds c.args.store.now) (g.S.Staging.part c.args.store.now) (g.S.Intake.came c.args.store.now))
    (stock (g.S.Staging.holds c.fetch.new.store) (g.S.Staging.part c.fetch.new.store) (g.S.Intake.came c.fetch.new.store))
    c.args.files.now c.in-Ok.end c.requires.files.are c.requires.under_way c.in-Some.ensures.first c.in-Ok.ensures.fetched

pub returns-in-Ok-clause-only : goal.returns-in-Ok-clause-only
returns-in-Ok-clause-only g c =
    c.fetch.ensures.only c.args.files.now c.requires.only
    (is_there (g.S.Staging.holds c.args.store.now) c.args.files.now c.in-Some.piece.file c.in-Some.ensures.first.file)

pub returns-in-Err-clause-only : goal.returns-in-Err-clause-only
returns-in-Err-clause-only g c =
    c.fetch.ensures.only c.args.files.now c.requires.only
    (is_there (g.S.Staging.holds c.args.store.now) c.args.files.now c.in-Some.piece.file c.in-Some.ensures.first.file)
