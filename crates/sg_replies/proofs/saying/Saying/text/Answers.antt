use Rattle.std.proofs.Common.{◌∙◌, ap, sym}
use Rattle.sg_replies.specs.Bodies.{saying_text}
use Rattle.sg_replies.specs.declared.saying.Saying.TheVariants as said
use Rattle.sg_replies.proofs.BodyLemmas.{parts_are}
use Rattle.sg_replies.proofs.saying.Saying.text.Goals as goal

pub returns-in-Held : goal.returns-in-Held
returns-in-Held c = c.number.ensures ∙ parts_are (said.Held c.in-Held.next) ∙ ap saying_text (sym c.in-Held.is)

pub returns-in-Complete : goal.returns-in-Complete
returns-in-Complete c = c.number-in-Complete.ensures ∙ parts_are (said.Complete c.in-Complete.media) ∙ ap saying_text (sym c.in-Complete.is)

pub returns-in-Epoch : goal.returns-in-Epoch
returns-in-Epoch c = c.number-in-Epoch.ensures ∙ parts_are (said.Epoch c.in-Epoch.epoch) ∙ ap saying_text (sym c.in-Epoch.is)

pub returns-in-Next : goal.returns-in-Next
returns-in-Next c = c.number-in-Next.ensures ∙ parts_are (said.Next c.in-Next.next) ∙ ap saying_text (sym c.in-Next.is)

pub returns-in-Refused : goal.returns-in-Refused
returns-in-Refused c = c.refusal_text.ensures ∙ parts_are (said.Refused c.in-Refused.refusal) ∙ ap saying_text (sym c.in-Refused.is)

pub returns-in-Unknown : goal.returns-in-Unknown
returns-in-Unknown c = c.number-in-Unknown.ensures ∙ parts_are (said.Unknown c.in-Unknown.media) ∙ ap saying_text (sym c.in-Unknown.is)

pub returns-in-PieceOrder : goal.returns-in-PieceOrder
returns-in-PieceOrder c = c.number-in-PieceOrder.ensures ∙ parts_are (said.PieceOrder c.in-PieceOrder.expected) ∙ ap saying_text (sym c.in-PieceOrder.is)

pub returns-in-PieceLength : goal.returns-in-PieceLength
returns-in-PieceLength c = c.number-in-PieceLength.ensures ∙ parts_are (said.PieceLength c.in-PieceLength.expected) ∙ ap saying_text (sym c.in-PieceLength.is)

pub returns-in-TooLarge : goal.returns-in-TooLarge
returns-in-TooLarge c = c.limit_text.ensures ∙ parts_are (said.TooLarge c.in-TooLarge.name c.in-TooLarge.count) ∙ ap saying_text (sym c.in-TooLarge.is)

pub returns-in-NotListed : goal.returns-in-NotListed
returns-in-NotListed c = c.number-in-NotListed.ensures ∙ parts_are (said.NotListed c.in-NotListed.media) ∙ ap saying_text (sym c.in-NotListed.is)

pub returns-in-PastEnd : goal.returns-in-PastEnd
returns-in-PastEnd c = c.number-in-PastEnd.ensures ∙ parts_are (said.PastEnd c.in-PastEnd.length) ∙ ap saying_text (sym c.in-PastEnd.is)

pub returns-in-Gap : goal.returns-in-Gap
returns-in-Gap c = c.number-in-Gap.ensures ∙ parts_are (said.Gap c.in-Gap.next) ∙ ap saying_text (sym c.in-Gap.is)

pub returns-in-PlaysFull : goal.returns-in-PlaysFull
returns-in-PlaysFull c = c.number-in-PlaysFull.ensures ∙ parts_are (said.PlaysFull c.in-PlaysFull.limit) ∙ ap saying_text (sym c.in-PlaysFull.is)
