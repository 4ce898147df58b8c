-- What stands after a call, by its answer: the server that its definition gives, or the one before.
use Rattle.std.proofs.Common.{◌≡◌, ◌∙◌, ℕ, ◌^◌, ◌<◌, ◌≤◌, List, Option, None, Some, Result, Ok, Err, refl, ap, sym, subst}
use Rattle.std.specs.Prelude.{IfOk, OnOk, OnErr}
use Rattle.sg_base.specs.declared.ids.DisplayId.{DisplayId}
use Rattle.sg_base.specs.declared.kind.Kind.TheVariants as kind
use Rattle.sg_base.specs.declared.play.PlayBody.{PlayBody}
use Rattle.sg_base.specs.Rising.{put}
use Rattle.sg_edits.specs.Edited.{IsOrdered, client_of, core_of, kept_tried}
use Rattle.sg_edits.specs.Pieces.{AreSaved}
use Rattle.sg_edits.proofs.EpochStands.{server_given, server_played, stands_given, stands_played}
use Rattle.sg_edits.proofs.StepLemmas.{executed_stands, ordered_executed}
use Rattle.sg_records.specs.declared.client.Client.{Client}
use Rattle.sg_records.specs.declared.epoch.Epoch.{Epoch}
use Rattle.sg_records.specs.declared.reply.Reply.{Reply}
use Rattle.sg_records.specs.declared.reply.Reply.TheVariants as reply
use Rattle.sg_records.specs.Clients.{client_number}
use Rattle.sg_steps.specs.declared.edit.Edit.{Edit}
use Rattle.sg_steps.specs.declared.fault.CmsFault.{CmsFault}
use Rattle.sg_steps.specs.declared.replies.EnrolReply.{EnrolReply}
use Rattle.sg_steps.specs.declared.replies.EnrolReply.TheVariants as enrol
use Rattle.sg_steps.specs.declared.replies.PlaysReply.{PlaysReply}
use Rattle.sg_steps.specs.Edits.{IsEdit}
use Rattle.sg_steps.specs.Epochs.{Given, enrolled, given, played, rows_added, rows_given, with_plays}
use Rattle.sg_steps.specs.State.{Content, Core, IsServer, Stands, plays_of}
use Rattle.sg_steps.specs.Step.{Stepped, asked, content_in, executed, tried}
use Rattle.sg_tables.specs.declared.change.TableChange.{TableChange}
use Rattle.sg_tables.specs.Entries.{Kept, after}
use Rattle.sg_tables.specs.Refusals.{row_at}
use Rattle.sg_tables.specs.Rows.{at}

-- the parts are as they were
pub same_core : {T : Type 0} (r : Result T CmsFault) (rows kept : List Kept) (clients known : List Client) (epochs : List Epoch) (limit : ℕ) → OnErr r (rows ≡ kept) → OnErr r (clients ≡ known) → OnErr r (core_of rows clients epochs limit ≡ core_of kept known epochs limit)
same_core (Ok x) rows kept clients known epochs limit p q = tt
same_core (Err f) rows kept clients known epochs limit p q = ap (λ x. core_of x clients epochs limit) p ∙ ap (λ y. core_of kept y epochs limit) q

pub same_epochs : {T : Type 0} (r : Result T CmsFault) (rows : List Kept) (clients : List Client) (epochs known : List Epoch) (limit : ℕ) → OnErr r (epochs ≡ known) → OnErr r (core_of rows clients epochs limit ≡ core_of rows clients known limit)
same_epochs (Ok x) rows clients epochs known limit p = tt
same_epochs (Err f) rows clients epochs known limit p = ap (λ x. core_of rows clients x limit) p

-- ---- an edit

-- the edit is made, and its reply kept
pub step_made : (rows kept : List Kept) (clients known : List Client) (epochs : List Epoch) (limit client seq : ℕ) (r : Result TableChange Reply) (c : TableChange) → r ≡ Ok c → kept ≡ after rows c → known ≡ put client_number (client_of client seq (reply.Done seq)) clients
    → record { core = core_of kept known epochs limit; reply = reply.Done seq } ≡ executed (core_of rows clients epochs limit) client seq r
step_made rows kept clients known epochs limit client seq r c is p q =
    let out : List Kept → List Client → Stepped = (λ x y. record { core = core_of x y epochs limit; reply = reply.Done seq }) in
    ap (λ x. out x known) p ∙ (ap (out (after rows c)) q ∙ sym (ap (executed (core_of rows clients epochs limit) client seq) is))

-- the edit is refused, and its reply kept
pub step_refused : (rows kept : List Kept) (clients known : List Client) (epochs : List Epoch) (limit client seq : ℕ) (r : Result TableChange Reply) (answer : Reply) → r ≡ Err answer → kept ≡ rows → known ≡ put client_number (client_of client seq answer) clients
    → record { core = core_of kept known epochs limit; reply = answer } ≡ executed (core_of rows clients epochs limit) client seq r
step_refused rows kept clients known epochs limit client seq r answer is p q =
    let out : List Kept → List Client → Stepped = (λ x y. record { core = core_of x y epochs limit; reply = answer }) in
    ap (λ x. out x known) p ∙ (ap (out rows) q ∙ sym (ap (executed (core_of rows clients epochs limit) client seq) is))

abbrev pub IsExecuted : Core → Core → ℕ → ℕ → Edit → Reply → Type 0
IsExecuted old new client seq e answer = record { core = new; reply = answer } ≡ executed old client seq (tried old.rows (asked e))

pub ordered_edit : (r : Result Reply CmsFault) (old new : Core) (client seq : ℕ) (e : Edit) → IsEdit e → IfOk r (IsExecuted old new client seq e) → OnErr r (new ≡ old) → IsOrdered old → IsOrdered new
ordered_edit (Ok x) old new client seq e h step same server =
    subst IsOrdered (sym (ap (λ (s : Stepped). s.core) step)) (ordered_executed old client seq e h server)
ordered_edit (Err f) old new client seq e h step same server = subst IsOrdered (sym same) server

pub stands_edit : (r : Result Reply CmsFault) (T : Type 0) (old new : Core) (rows kept : ℕ → Option (List ℕ)) (client seq : ℕ) (e : Edit) → client < 2 ^ 32 → IsEdit e → IfOk r (IsExecuted old new client seq e)
    → OnOk r (T → kept ≡ kept_tried old.rows client seq (tried old.rows (asked e)) rows) → IsOrdered old
    → OnOk r ((content : Content) → T → Stands old content rows → Stands new (content_in new.rows content) kept)
stands_edit (Ok x) T old new rows kept client seq e small h step is server = λ content told s.
    subst (λ (n : Core). Stands n (content_in n.rows content) kept) (sym (ap (λ (s : Stepped). s.core) step))
    (subst (λ q. Stands (executed old client seq (tried old.rows (asked e))).core (content_in (executed old client seq (tried old.rows (asked e))).core.rows content) q) (sym (is told))
    (executed_stands old content rows client seq e small h server s))
stands_edit (Err f) T old new rows kept client seq e small h step is server = tt

-- ---- an enrolment

abbrev pub with_epochs : Core → List Epoch → Core
with_epochs core epochs = record core { epochs = epochs }

pub step_enrolled : (r : Result EnrolReply CmsFault) (core : Core) (new : List Epoch) (display : ℕ) (e : Kept) → row_at (at kind.Display display) core.rows ≡ Some e → IfOk r (λ answer. record { epochs = new; reply = answer } ≡ given display core.epochs)
    → IfOk r (λ answer. record { core = with_epochs core new; reply = answer } ≡ enrolled core display)
step_enrolled (Ok x) core new display e there step =
    ap (λ (g : Given). record { core = with_epochs core g.epochs; reply = g.reply }) step ∙ sym (rw there refl)
step_enrolled (Err f) core new display e there step = tt

pub step_unknown : (core : Core) (display : DisplayId) → row_at (at kind.Display display.0) core.rows ≡ None → record { core = core; reply = enrol.Unknown display } ≡ enrolled core display.0
step_unknown core display none = sym (rw none refl)

pub ordered_enrol : (r : Result EnrolReply CmsFault) (core : Core) (new : List Epoch) (display : ℕ) → display < 2 ^ 32 → IfOk r (λ answer. record { epochs = new; reply = answer } ≡ given display core.epochs) → OnErr r (new ≡ core.epochs) → IsOrdered core
    → IsOrdered (with_epochs core new)
ordered_enrol (Ok x) core new display low step same server = record {
  server = subst (λ l. IsServer (with_epochs core l)) (sym (ap (λ (g : Given). g.epochs) step)) (server_given core display low server.server);
  rising = server.rising;
}
ordered_enrol (Err f) core new display low step same server = record {
  server = subst (λ l. IsServer (with_epochs core l)) (sym same) server.server;
  rising = server.rising;
}

pub stands_enrol : (r : Result EnrolReply CmsFault) (T : Type 0) (core : Core) (new : List Epoch) (rows kept : ℕ → Option (List ℕ)) (display : ℕ) → display < 2 ^ 32 → IfOk r (λ answer. record { epochs = new; reply = answer } ≡ given display core.epochs)
    → OnOk r (T → kept ≡ rows_given display core.epochs rows) → IsOrdered core
    → OnOk r ((content : Content) → T → Stands core content rows → Stands (with_epochs core new) content kept)
stands_enrol (Ok x) T core new rows kept display low step is server = λ content told s.
    subst (λ l. Stands (with_epochs core l) content kept) (sym (ap (λ (g : Given). g.epochs) step))
    (subst (Stands (with_epochs core (given display core.epochs).epochs) content) (sym (is told)) (stands_given core content rows display low server.server s))
stands_enrol (Err f) T core new rows kept display low step is server = tt

-- ---- a batch of plays

abbrev pub IsPlayed : Core → List Epoch → ℕ → ℕ → ℕ → List PlayBody → PlaysReply → Type 0
IsPlayed core new display epoch first batch answer = (new ≡ (played core display epoch first batch).epochs) × (answer ≡ (played core display epoch first batch).reply)

pub step_played : (r : Result PlaysReply CmsFault) (core : Core) (new : List Epoch) (display epoch first : ℕ) (batch : List PlayBody) → IfOk r (IsPlayed core new display epoch first batch)
    → IfOk r (λ answer. (with_epochs core new ≡ with_epochs core (played core display epoch first batch).epochs) × (answer ≡ (played core display epoch first batch).reply))
step_played (Ok x) core new display epoch first batch step = (ap (with_epochs core) step.0, step.1)
step_played (Err f) core new display epoch first batch step = tt

pub ordered_plays : (r : Result PlaysReply CmsFault) (core : Core) (new : List Epoch) (display epoch first : ℕ) (batch : List PlayBody) → display < 2 ^ 32 → epoch < 2 ^ 32 → IfOk r (IsPlayed core new display epoch first batch) → OnErr r (new ≡ core.epochs) → IsOrdered core
    → IsOrdered (with_epochs core new)
ordered_plays (Ok x) core new display epoch first batch low small step same server = record {
  server = subst (λ l. IsServer (with_epochs core l)) (sym step.0) (server_played core display epoch first batch low small server.server);
  rising = server.rising;
}
ordered_plays (Err f) core new display epoch first batch low small step same server = record {
  server = subst (λ l. IsServer (with_epochs core l)) (sym same) server.server;
  rising = server.rising;
}

pub stands_batch : (r : Result PlaysReply CmsFault) (T : Type 0) (core : Core) (new : List Epoch) (rows kept : ℕ → Option (List ℕ)) (display epoch first : ℕ) (batch : List PlayBody) → display < 2 ^ 32 → epoch < 2 ^ 32 → IfOk r (IsPlayed core new display epoch first batch)
    → OnOk r (T → kept ≡ rows_added display epoch (plays_of display epoch core.epochs) (played core display epoch first batch).added rows) → IsOrdered core
    → OnOk r ((content : Content) → T → Stands core content rows → Stands (with_epochs core new) (with_plays display epoch (played core display epoch first batch).added content) kept)
stands_batch (Ok x) T core new rows kept display epoch first batch low small step is server = λ content told s.
    subst (λ l. Stands (with_epochs core l) (with_plays display epoch (played core display epoch first batch).added content) kept) (sym step.0)
    (subst (Stands (with_epochs core (played core display epoch first batch).epochs) (with_plays display epoch (played core display epoch first batch).added content)) (sym (is told))
    (stands_played core content rows display epoch first batch low small server.server s))
stands_batch (Err f) T core new rows kept display epoch first batch low small step is server = tt

-- ---- a piece

pub same_rows : {T : Type 0} (r : Result T CmsFault) (rows kept : List Kept) (clients : List Client) (epochs : List Epoch) (limit : ℕ) → OnErr r (rows ≡ kept) → OnErr r (core_of rows clients epochs limit ≡ core_of kept clients epochs limit)
same_rows (Ok x) rows kept clients epochs limit p = tt
same_rows (Err f) rows kept clients epochs limit p = ap (λ x. core_of x clients epochs limit) p

pub saved_rows : (core : Core) → IsOrdered core → AreSaved core.rows
saved_rows core s = record { saved = s.server.rows; rising = s.rising }

pub ordered_piece : (core : Core) (rows : List Kept) → IsOrdered core → AreSaved rows → IsOrdered (record core { rows = rows })
ordered_piece core rows s saved = record {
  server = record { limit = s.server.limit; rows = saved.saved; rising = s.server.rising; numbered = s.server.numbered; few = s.server.few };
  rising = saved.rising;
}
