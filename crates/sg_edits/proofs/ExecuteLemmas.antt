-- An edit that is executed, by the result of the call that makes or refuses it.
use Rattle.std.proofs.Common.{◌≡◌, ◌∙◌, ℕ, List, Option, Result, Ok, Err, ap, sym}
use Rattle.std.specs.Prelude.{IfOk, OnErr, OnOk}
use Rattle.sg_base.specs.Rising.{put}
use Rattle.sg_edits.specs.Edited.{client_of, core_of, kept_tried, with_client}
use Rattle.sg_edits.proofs.AfterLemmas.{step_made, step_refused}
use Rattle.sg_records.specs.declared.client.Client.{Client}
use Rattle.sg_records.specs.declared.epoch.Epoch.{Epoch}
use Rattle.sg_records.specs.declared.reply.Reply.{Reply}
use Rattle.sg_records.specs.declared.reply.Reply.TheVariants as reply
use Rattle.sg_records.specs.Clients.{client_number}
use Rattle.sg_steps.specs.declared.fault.CmsFault.{CmsFault}
use Rattle.sg_steps.specs.Calls.{changed_by}
use Rattle.sg_steps.specs.Step.{Stepped, executed}
use Rattle.sg_tables.specs.declared.change.TableChange.{TableChange}
use Rattle.sg_tables.specs.Entries.{Kept, after}

-- ---- the change is made

pub made_step : (r : Result Reply CmsFault) (rows mid kept : List Kept) (clients known : List Client) (epochs : List Epoch) (limit client seq : ℕ) (t : Result TableChange Reply) (c : TableChange) → t ≡ Ok c → mid ≡ rows
    → IfOk r (λ answer. answer ≡ reply.Done seq) → OnOk r (kept ≡ after mid c) → OnOk r (known ≡ put client_number (client_of client seq (reply.Done seq)) clients)
    → IfOk r (λ answer. record { core = core_of kept known epochs limit; reply = answer } ≡ executed (core_of rows clients epochs limit) client seq t)
made_step (Ok x) rows mid kept clients known epochs limit client seq t c is same says p q =
    let out : Reply → Stepped = (λ a. record { core = core_of kept known epochs limit; reply = a }) in
    ap out says ∙ step_made rows kept clients known epochs limit client seq t c is (p ∙ ap (λ l. after l c) same) q
made_step (Err f) rows mid kept clients known epochs limit client seq t c is same says p q = tt

pub made_rows : {E : Type 0} (r : Result E CmsFault) (T : Type 0) (rows mid : List Kept) (client seq : ℕ) (t : Result TableChange Reply) (c : TableChange) (now later : ℕ → Option (List ℕ)) → t ≡ Ok c → mid ≡ rows
    → OnOk r (T → later ≡ with_client (client_of client seq (reply.Done seq)) (changed_by c mid now)) → OnOk r (T → later ≡ kept_tried rows client seq t now)
made_rows (Ok x) T rows mid client seq t c now later is same p = λ told.
    p told ∙ (ap (λ l. with_client (client_of client seq (reply.Done seq)) (changed_by c l now)) same ∙ sym (ap (λ y. kept_tried rows client seq y now) is))
made_rows (Err f) T rows mid client seq t c now later is same p = tt

pub made_same : {E : Type 0} (r : Result E CmsFault) (rows mid kept : List Kept) → mid ≡ rows → OnErr r (kept ≡ mid) → OnErr r (kept ≡ rows)
made_same (Ok x) rows mid kept same p = tt
made_same (Err f) rows mid kept same p = p ∙ same

-- ---- it is refused

pub refused_step : (r : Result Reply CmsFault) (rows kept : List Kept) (clients known : List Client) (epochs : List Epoch) (limit client seq : ℕ) (t : Result TableChange Reply) (refusal : Reply) → t ≡ Err refusal → kept ≡ rows
    → IfOk r (λ answer. answer ≡ refusal) → OnOk r (known ≡ put client_number (client_of client seq refusal) clients)
    → IfOk r (λ answer. record { core = core_of kept known epochs limit; reply = answer } ≡ executed (core_of rows clients epochs limit) client seq t)
refused_step (Ok x) rows kept clients known epochs limit client seq t refusal is same says q =
    let out : Reply → Stepped = (λ a. record { core = core_of kept known epochs limit; reply = a }) in
    ap out says ∙ step_refused rows kept clients known epochs limit client seq t refusal is same q
refused_step (Err f) rows kept clients known epochs limit client seq t refusal is same says q = tt

pub refused_rows : {E : Type 0} (r : Result E CmsFault) (T : Type 0) (rows : List Kept) (client seq : ℕ) (t : Result TableChange Reply) (refusal : Reply) (now later : ℕ → Option (List ℕ)) → t ≡ Err refusal
    → OnOk r (T → later ≡ with_client (client_of client seq refusal) now) → OnOk r (T → later ≡ kept_tried rows client seq t now)
refused_rows (Ok x) T rows client seq t refusal now later is p = λ told. p told ∙ sym (ap (λ y. kept_tried rows client seq y now) is)
refused_rows (Err f) T rows client seq t refusal now later is p = tt

pub refused_same : {E : Type 0} (r : Result E CmsFault) (rows kept : List Kept) → kept ≡ rows → OnErr r (kept ≡ rows)
refused_same (Ok x) rows kept same = tt
refused_same (Err f) rows kept same = same
