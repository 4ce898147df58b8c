use Rattle.std.proofs.Common.{◌≡◌, refl, subst}
use Rattle.std.specs.Prelude.{IfOk, OnErr}
use Rattle.sg_edits.specs.declared.piece_reply.PieceReply.{PieceReply}
use Rattle.sg_edits.specs.Edited.{core_of}
use Rattle.sg_edits.specs.Media.{asked}
use Rattle.sg_edits.specs.Pieces.{piece_put, with_bytes}
use Rattle.sg_edits.proofs.AfterLemmas.{ordered_piece, same_rows, saved_rows}
use Rattle.sg_steps.specs.State.{Content, Core, Stands}
use Rattle.sg_edits.proofs.cms.Cms.put_piece.Goals as goal

pub invariant_of-self : goal.invariant_of-self
invariant_of-self g c = ordered_piece (core_of c.self.inside.tables.rows c.self.inside.clients.items c.self.inside.epochs.items c.self.inside.settings.plays_limit) c.put_piece.new.tables.rows c.self.invariant c.put_piece.ensures.saved

pub put_piece-requires : goal.put_piece-requires
put_piece-requires g c = saved_rows (core_of c.self.inside.tables.rows c.self.inside.clients.items c.self.inside.epochs.items c.self.inside.settings.plays_limit) c.self.invariant

pub returns-clause-put : goal.returns-clause-put
returns-clause-put g c =
    subst (λ (old : Core). IfOk c.put_piece.result (λ (r : PieceReply). (content : Content) → (g.K.Keeper.view c.args.keeper.now).told → Stands old content (g.K.Keeper.view c.args.keeper.now).rows
    → (c.put_piece.new.tables.rows ≡ (piece_put (asked old.rows c.args.media c.args.offset c.args.bytes.now (content.bytes c.args.media.0) (g.K.Keeper.view c.args.keeper.now).rows)).rows) × (r ≡ (piece_put (asked old.rows c.args.media c.args.offset c.args.bytes.now (content.bytes c.args.media.0) (g.K.Keeper.view c.args.keeper.now).rows)).reply) × Stands (core_of c.put_piece.new.tables.rows c.self.inside.clients.items c.self.inside.epochs.items c.self.inside.settings.plays_limit) (with_bytes c.args.media.0 (piece_put (asked old.rows c.args.media c.args.offset c.args.bytes.now (content.bytes c.args.media.0) (g.K.Keeper.view c.args.keeper.now).rows)).stored content) (g.K.Keeper.view c.put_piece.new.keeper).rows)) c.self.view_is
    (c.put_piece.ensures.put c.self.inside.clients.items c.self.inside.epochs.items c.self.inside.settings.plays_limit)

pub returns-clause-others : goal.returns-clause-others
returns-clause-others g c = subst (λ (old : Core). (core_of c.put_piece.new.tables.rows c.self.inside.clients.items c.self.inside.epochs.items c.self.inside.settings.plays_limit) ≡ record old { rows = c.put_piece.new.tables.rows }) c.self.view_is refl

pub returns-clause-unchanged : goal.returns-clause-unchanged
returns-clause-unchanged g c =
    subst (λ old. OnErr c.put_piece.result ((core_of c.put_piece.new.tables.rows c.self.inside.clients.items c.self.inside.epochs.items c.self.inside.settings.plays_limit) ≡ old)) c.self.view_is
    (same_rows c.put_piece.result c.put_piece.new.tables.rows c.self.inside.tables.rows c.self.inside.clients.items c.self.inside.epochs.items c.self.inside.settings.plays_limit c.put_piece.ensures.unchanged)

pub returns-clause-ordered : goal.returns-clause-ordered
returns-clause-ordered g c = ordered_piece (core_of c.self.inside.tables.rows c.self.inside.clients.items c.self.inside.epochs.items c.self.inside.settings.plays_limit) c.put_piece.new.tables.rows c.self.invariant c.put_piece.ensures.saved
