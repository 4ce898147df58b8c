use Rattle.std.proofs.Common.{◌≡◌, ℕ, List, [], refl, ◌∙◌, subst}
use Rattle.std.specs.declared.option.Option.{Option}
use Rattle.sg_exchange.specs.declared.heard.TheConstants.{REPLY_ROOM}
use Rattle.sg_exchange.specs.declared.heard.Wants.TheVariants.{Exactly}
use Rattle.sg_exchange.specs.Heard.{Outcome, outcome_at}
use Rattle.sg_exchange.specs.Requests.{piece_request}
use Rattle.sg_exchange.proofs.HeardLemmas.{hears_as}
use Rattle.sg_intake.specs.declared.intake.Lack.{Lack}
use Rattle.sg_intake.specs.Stocks.{stock}
use Rattle.sg_missing.specs.Missing.{staged_of}
use Rattle.sg_fetch.specs.Fetching.{Fetches}
use Rattle.sg_fetch.proofs.StockLemmas.{begun_at, ends_after}
use Rattle.sg_fetch.proofs.fetch.fetch.Goals as goal

pub returns-in-Ok-take_in-clause-fetched : goal.returns-in-Ok-take_in-clause-fetched
returns-in-Ok-take_in-clause-fetched g c =
    let piece = c.args.piece.now in
    let outcome : Outcome = outcome_at c.ask_piece-heard.new.self.reply c.ask_piece-heard.result in
    let old = stock (g.S.Staging.holds c.args.store.now) (g.S.Staging.part c.args.store.now) (g.S.Intake.came c.args.store.now) in
    let mid = stock (g.S.Staging.holds c.begin_once.new.store) (g.S.Staging.part c.begin_once.new.store) (g.S.Intake.came c.begin_once.new.store) in
    let new = stock (g.S.Staging.holds c.take_in.new.store) (g.S.Staging.part c.take_in.new.store) (g.S.Intake.came c.take_in.new.store) in
    subst (λ (lack : Option Lack). Fetches lack c.args.asker.now piece (g.L.Link.told c.args.link.now) (g.L.Link.told c.ask_piece-heard.new.link) old new c.in-Ok-take_in.end)
    c.in-None.ensures.lack (
      outcome,
      hears_as REPLY_ROOM REPLY_ROOM (g.L.Link.told c.args.link.now) (g.L.Link.told c.ask_piece-heard.new.link) c.as_slice.result.now
          (piece_request c.args.asker.now.display c.args.asker.now.key piece.file.media.0 piece.at) (Exactly piece.count) outcome refl
          (c.as_slice.ensures.value ∙ c.in-Ok.ensures) c.ask_piece-heard.ensures.heard,
      ends_after piece old mid new piece.at outcome c.in-Ok-take_in.end c.in-None.ensures.begun
          (begun_at (g.S.Staging.part c.begin_once.new.store) piece.file piece.at (staged_of (g.S.Staging.part c.args.store.now) piece.file) c.in-None.ensures.begun.part c.requires.next.begins)
          c.in-Ok-take_in.ensures.ended,
    )
