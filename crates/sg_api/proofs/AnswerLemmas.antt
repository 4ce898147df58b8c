-- From a call of the server to what becomes of a message.
use Rattle.std.proofs.Common.{◌≡◌, ◌∙◌, ℕ, List, None, ap, subst}
use Rattle.sg_answers.specs.declared.outcome.Outcome.{Outcome}
use Rattle.sg_answers.specs.declared.outcome.Outcome.TheVariants as outcome
use Rattle.sg_answers.specs.Answers.{Answers, put_to}
use Rattle.sg_answers.specs.Answers.Answers.{made, keeper, memory}
use Rattle.sg_answers.specs.Calls.{Call, PutPiece}
use Rattle.sg_answers.specs.Outcomes.{piece_saying}
use Rattle.sg_api.specs.Faults.{refusal_of_fault}
use Rattle.sg_api.proofs.PutLemmas.{Alike, alike_put}
use Rattle.sg_base.specs.declared.ids.MediaId.{MediaId}
use Rattle.sg_edits.specs.declared.piece_reply.PieceReply.{PieceReply}
use Rattle.sg_edits.specs.Media.{asked as asked_piece}
use Rattle.sg_edits.specs.Pieces.{piece_put, with_bytes}
use Rattle.sg_keeper.specs.View.{Ran, Same, View}
use Rattle.sg_replies.specs.declared.saying.Saying.TheVariants.{Refused}
use Rattle.sg_steps.specs.declared.fault.CmsFault.{CmsFault}
use Rattle.sg_steps.specs.declared.fault.CmsFault.TheVariants as fault
use Rattle.sg_steps.specs.Calls.{Failed}
use Rattle.sg_steps.specs.State.{Content, Core, Stands}

pub faulted : (call : Call) (core after : Core) (v v' : View) (o : Outcome) (f : CmsFault) → o ≡ outcome.Said (Refused (refusal_of_fault f))
    → after ≡ core → Failed f v v' → Same v v' → Answers call core v o after v'
faulted call core after v v' o fault.Keeper told is h same = keeper told is h same
faulted call core after v v' o fault.Memory told is h same = memory told is h same

-- what a call says of a piece over the rows of a keeper
pub record PutOver (core after : Core) (content : Content) (media : MediaId) (offset : ℕ) (bytes : List ℕ) (v v' : View) (r : PieceReply) : Type 0 where
  pub rows : after.rows ≡ (piece_put (asked_piece core.rows media offset bytes (content.bytes media.0) v.rows)).rows
  pub reply : r ≡ (piece_put (asked_piece core.rows media offset bytes (content.bytes media.0) v.rows)).reply
  pub stands : Stands after (with_bytes media.0 (piece_put (asked_piece core.rows media offset bytes (content.bytes media.0) v.rows)).stored content) v'.rows

pub pieced : (media : MediaId) (offset : ℕ) (bytes : List ℕ) (core after : Core) (v v' : View) (r : PieceReply) (o : Outcome) → o ≡ outcome.Said (piece_saying r)
    → after ≡ record core { rows = after.rows }
    → ((content : Content) → v.told → Stands core content v.rows → PutOver core after content media offset bytes v v' r)
    → Ran 0 v v' → Answers (PutPiece media offset bytes) core v o after v'
pieced media offset bytes core after v v' r o told others put ran = made (record {
  does = (r, told);
  left = others;
  rows = λ content t stands.
      let p = put content t stands in
      let same : Alike (piece_put (asked_piece core.rows media offset bytes (content.bytes media.0) v.rows)) (put_to core content media offset bytes)
      = alike_put core.rows media offset bytes (content.bytes media.0) v.rows (λ n. None) in (
        (told ∙ ap (λ (x : PieceReply). outcome.Said (piece_saying x)) (p.reply ∙ same.reply), p.rows ∙ same.rows),
        subst (λ (x : List ℕ). Stands after (with_bytes media.0 x content) v'.rows) same.stored p.stands,
      );
  ran = ran;
  spared = tt;
})
