-- Where each call leads, by what its contract says.
use Rattle.std.proofs.Common.{◌≡◌, ◌∙◌, ℕ, ◌^◌, ◌<◌, true, List, Option, Some, None, ap, sym, subst, arith, inl, inr}
use Rattle.sg_base.specs.declared.ids.DisplayId.{DisplayId}
use Rattle.sg_base.specs.declared.ids.MediaId.{MediaId}
use Rattle.sg_base.specs.declared.play.PlayBody.{PlayBody}
use Rattle.sg_base.specs.Keys.{number}
use Rattle.sg_base.specs.Rising.{IsRising, found}
use Rattle.sg_base.proofs.StopLemmas.{lowers_fewer}
use Rattle.sg_edit_runs.specs.declared.call.Answer.{Answer}
use Rattle.sg_edit_runs.specs.declared.call.Answer.TheVariants as answer
use Rattle.sg_edit_runs.specs.declared.call.Call.{Call}
use Rattle.sg_edit_runs.specs.declared.call.Call.TheVariants as call
use Rattle.sg_edit_runs.specs.At.{IsAt, IsKept, Leads}
use Rattle.sg_edit_runs.specs.Steps.{IsFault, made_edit, made_enrolled, no_rows, state}
use Rattle.sg_edit_runs.proofs.KeptLemmas.{kept_edit, kept_loaded, kept_same, same_enrolled}
use Rattle.sg_edit_runs.proofs.OneServer.{none_first, one_server}
use Rattle.sg_edit_runs.proofs.PutLemmas.{put_same}
use Rattle.sg_edits.specs.declared.piece_reply.PieceReply.{PieceReply}
use Rattle.sg_edits.specs.Edited.{IsOrdered}
use Rattle.sg_edits.specs.Media.{asked}
use Rattle.sg_edits.specs.Pieces.{piece_put, with_bytes}
use Rattle.sg_keeper.specs.View.{Ran, Same, View}
use Rattle.sg_loading.specs.Loading.{HasKinds, IsLawful}
use Rattle.sg_records.specs.declared.reply.Reply.{Reply}
use Rattle.sg_records.specs.Clients.{client_number, is_id}
use Rattle.sg_records.specs.Saved.{IsSavedText}
use Rattle.sg_steps.specs.declared.edit.Edit.{Edit}
use Rattle.sg_steps.specs.declared.fault.CmsFault.{CmsFault}
use Rattle.sg_steps.specs.declared.fault.CmsFault.TheVariants as fault
use Rattle.sg_steps.specs.declared.replies.EnrolReply.{EnrolReply}
use Rattle.sg_steps.specs.declared.replies.PlaysReply.{PlaysReply}
use Rattle.sg_steps.specs.Calls.{Failed}
use Rattle.sg_steps.specs.Edits.{IsEdit}
use Rattle.sg_steps.specs.Epochs.{Enrolled, enrolled, played, with_plays}
use Rattle.sg_steps.specs.State.{AreRows, Content, Core, IsStored, Stands}
use Rattle.sg_steps.specs.Step.{content_in, step}
use Rattle.sg_tables.specs.Entries.{Kept, number_of_kept}

-- the server and the rows are as they were
at_same : (v w : View) (old new : Core) (content : Content) → (v.told → w.told) → new ≡ old → Same v w → IsAt v old content → IsAt w new content
at_same v w old new content tells is same at = record {
  told = tells at.told;
  stands = subst (λ (c : Core). Stands c content w.rows) (sym is) (subst (Stands old content) (sym (same at.told)) at.stands);
  kept = subst IsKept (sym is) at.kept;
}

pub leads_fault : (v w : View) (old new : Core) (c : Call) (a : Answer) → IsFault c a → (v.told → w.told) → new ≡ old → Same v w → Leads v old c a w new
leads_fault v w old new c a is tells same rows content at =
    (content, inr (is, ap (λ (x : Core). state x content) same), at_same v w old new content tells same rows at)

still_told : (f : CmsFault) (v w : View) → Failed f v w → v.told → w.told
still_told fault.Keeper v w h = h.told
still_told fault.Memory v w h = h.told

pub leads_failed : (v w : View) (old new : Core) (c : Call) (f : CmsFault) → Failed f v w → new ≡ old → Same v w → Leads v old c (answer.Failed f) w new
leads_failed v w old new c f h same rows = leads_fault v w old new c (answer.Failed f) tt (still_told f v w h) same rows

pub leads_edit : (v w : View) (old new : Core) (client seq : ℕ) (e : Edit) (r : Reply) → is_id client ≡ true → seq < 2 ^ 32 → IsEdit e → Ran 0 v w → IsOrdered new → record { core = new; reply = r } ≡ step old client seq e
    → ((content : Content) → v.told → Stands old content v.rows → Stands new (content_in new.rows content) w.rows) → Leads v old (call.Edit client seq e) (answer.Edited r) w new
leads_edit v w old new client seq e r id fits h ran ordered is stands content at = (
  content_in new.rows content,
  inl (ap (made_edit content) is),
  record { told = ran.told at.told; stands = stands content at.told at.stands; kept = kept_edit old new client seq e r id fits h is ordered at.kept },
)

pub leads_put : (v w : View) (old new : Core) (media : MediaId) (offset : ℕ) (bytes : List ℕ) (r : PieceReply) → Ran 0 v w → IsOrdered new → new ≡ record old { rows = new.rows }
    → ((content : Content) → v.told → Stands old content v.rows → let put = piece_put (asked old.rows media offset bytes (content.bytes media.0) v.rows) in (new.rows ≡ put.rows) × (r ≡ put.reply) × Stands new (with_bytes media.0 put.stored content) w.rows)
    → Leads v old (call.Piece media offset bytes) (answer.Put r) w new
leads_put v w old new media offset bytes r ran ordered others put content at =
    let p = put content at.told at.stands in
    let same = put_same no_rows (asked old.rows media offset bytes (content.bytes media.0) v.rows) in
    let rows = p.0 ∙ same.rows in
    let core = others ∙ ap (λ (l : List Kept). record old { rows = l }) rows in
    let reply = p.1 ∙ same.reply in
    let its : Content = with_bytes media.0 (piece_put (asked old.rows media offset bytes (content.bytes media.0) no_rows)).stored content in (
      with_bytes media.0 (piece_put (asked old.rows media offset bytes (content.bytes media.0) no_rows)).stored content,
      inl (λ i. record { state = state (core i) its; answer = answer.Put (reply i) }),
      record {
        told = ran.told at.told;
        stands = subst (λ (l : List ℕ). Stands new (with_bytes media.0 l content) w.rows) same.stored p.2;
        kept = kept_same old new (ap (λ (c : Core). c.clients) others) ordered at.kept;
      },
    )

pub leads_enrol : (v w : View) (old new : Core) (display : DisplayId) (r : EnrolReply) → Ran 0 v w → IsOrdered new → record { core = new; reply = r } ≡ enrolled old display.0
    → ((content : Content) → v.told → Stands old content v.rows → Stands new content w.rows) → Leads v old (call.Enrol display) (answer.Enrolled r) w new
leads_enrol v w old new display r ran ordered is stands content at = (
  content,
  inl (ap (made_enrolled content) is),
  record {
    told = ran.told at.told;
    stands = stands content at.told at.stands;
    kept = kept_same old new (ap (λ (x : Enrolled). x.core.clients) is ∙ same_enrolled old display.0) ordered at.kept;
  },
)

pub leads_plays : (v w : View) (old new : Core) (display : DisplayId) (epoch first : ℕ) (list : List PlayBody) (r : PlaysReply) → Ran 0 v w → IsOrdered new
    → new ≡ record old { epochs = (played old display.0 epoch first list).epochs } → r ≡ (played old display.0 epoch first list).reply
    → ((content : Content) → v.told → Stands old content v.rows → Stands new (with_plays display.0 epoch (played old display.0 epoch first list).added content) w.rows)
    → Leads v old (call.Plays display epoch first list) (answer.Played r) w new
leads_plays v w old new display epoch first list r ran ordered core reply stands content at =
    let its : Content = with_plays display.0 epoch (played old display.0 epoch first list).added content in (
      with_plays display.0 epoch (played old display.0 epoch first list).added content,
      inl (λ i. record { state = state (core i) its; answer = answer.Played (reply i) }),
      record {
        told = ran.told at.told;
        stands = stands content at.told at.stands;
        kept = kept_same old new (ap (λ (c : Core). c.clients) core) ordered at.kept;
      },
    )

-- ---- a server that is loaded again

not_stored : (r : Option Kept) (row : Option (List ℕ)) → r ≡ None → IsStored IsSavedText r row → row ≡ None
not_stored None row e h = h
not_stored (Some x) row e h = absurd (cc)

low_lt : (n : ℕ) → n < number 1 0 0 → n < number 8 0 0
low_lt n h = omega arith

has_kinds : (core : Core) (rows : ℕ → Option (List ℕ)) → IsKept core → AreRows core rows → HasKinds rows
has_kinds core rows s r n lt = not_stored (found number_of_kept n core.rows) (rows n) (none_first core n s.ordered.server lt) (r.rows n (low_lt n lt))

pub leads_load : (v w : View) (old loaded : Core) → Ran 9 v w → Same v w → IsLawful loaded → IsRising client_number loaded.clients → loaded.limit ≡ old.limit
    → (v.told → HasKinds v.rows → AreRows loaded v.rows) → Leads v old call.Load answer.Loaded w loaded
leads_load v w old loaded ran same lawful up limit rows content at =
    let is : loaded ≡ old = one_server loaded old v.rows (kept_loaded loaded lawful up) at.kept limit (rows at.told (has_kinds old v.rows at.kept at.stands.rows)) at.stands.rows in (
      content,
      inl (λ i. record { state = state (is i) content; answer = answer.Loaded }),
      at_same v w old loaded content ran.told is same at,
    )

pub fewer : (v w : View) → Ran 9 v w → Ran 0 v w
fewer v w h = record { told = h.told; faults = h.faults; stop = lowers_fewer 9 0 v.stop w.stop (omega arith) h.stop }
