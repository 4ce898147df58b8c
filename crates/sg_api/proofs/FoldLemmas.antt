-- One message, and then many: the fold of the steps, and the count of 503s.
use Rattle.std.proofs.Common.{◌≡◌, ◌∙◌, ℕ, ◌+◌, ◌-◌, ◌^◌, ◌<◌, ◌≤◌, Bool, true, false, List, [], ◌∷◌, Option, refl, sym, ap, subst, arith}
use Rattle.std.specs.Prelude.{◌≢◌, ◌==◌, if◌then◌else◌}
use Rattle.std.proofs.lemmas.Bool.{eqb-true}
use Rattle.sg_answers.specs.declared.outcome.Outcome.{Outcome}
use Rattle.sg_answers.specs.Answers.{Answers as BecomesOf, Does, DoesWith, Steps, content_after, core_after}
use Rattle.sg_answers.specs.Answers.Answers.{made, keeper, memory}
use Rattle.sg_answers.specs.Calls.{Call, Refuse, OtherMethod, MakeEdit, PutPiece, Report, Enrol, Manifest, File, TakePlays, call_of}
use Rattle.sg_answers.specs.Outcomes.{enrol_saying, file_outcome, manifest_outcome, piece_saying, plays_saying, status_of}
use Rattle.sg_api.specs.declared.server.Server.{Server}
use Rattle.sg_api.specs.Rule.{Answered}
use Rattle.sg_api.specs.Folds.{Counted, StandsAfter, World, failed, failures, folded, is_fault, rows_after, told_after, world_after}
use Rattle.sg_api.proofs.CallLemmas.{IsSound, call_sound}
use Rattle.sg_base.specs.declared.ids.MediaId.{MediaId}
use Rattle.sg_base.specs.Causes.{Rose}
use Rattle.sg_connection.specs.declared.answer.Answer.{Answer}
use Rattle.sg_connection.specs.Exchanges.{Answers, Exchange, in_pairs, left_by}
use Rattle.sg_edits.specs.declared.piece_reply.PieceReply.{PieceReply}
use Rattle.sg_edits.specs.declared.piece_reply.PieceReply.TheVariants as piece
use Rattle.sg_http.specs.Messages.{Request}
use Rattle.sg_keeper.specs.View.{Same, View}
use Rattle.sg_records.specs.declared.reply.Reply.{Reply}
use Rattle.sg_records.specs.declared.reply.Reply.TheVariants as reply
use Rattle.sg_records.specs.Replies.{status_of as edit_status}
use Rattle.sg_replies.specs.Bodies.{saying_status}
use Rattle.sg_routes.specs.Asked.{ask}
use Rattle.sg_steps.specs.declared.replies.EnrolReply.{EnrolReply}
use Rattle.sg_steps.specs.declared.replies.EnrolReply.TheVariants as enrol
use Rattle.sg_steps.specs.declared.replies.PlaysReply.{PlaysReply}
use Rattle.sg_steps.specs.declared.replies.PlaysReply.TheVariants as plays
use Rattle.sg_steps.specs.Epochs.{enrolled, played}
use Rattle.sg_steps.specs.State.{Content, Core, Stands}
use Rattle.sg_steps.specs.Step.{step}
use Rattle.sg_tables.specs.Entries.{Kept}
use Rattle.sg_views.specs.declared.manifest.ManifestReply.{ManifestReply}
use Rattle.sg_views.specs.declared.manifest.ManifestReply.TheVariants as manifest
use Rattle.sg_views.specs.declared.piece.FileReply.{FileReply}
use Rattle.sg_views.specs.declared.piece.FileReply.TheVariants as file
use Rattle.sg_views.specs.Views.{manifest_reply}

-- ---- the statuses of steps

edit_faultless : (r : Reply) → is_fault (edit_status r) ≡ false
edit_faultless (reply.Done seq) = refl
edit_faultless (reply.Unknown kind id) = refl
edit_faultless (reply.InUse kind id by_kind by_id) = refl
edit_faultless (reply.Exists kind id) = refl
edit_faultless (reply.Full kind limit) = refl
edit_faultless (reply.Sequence expected) = refl
edit_faultless (reply.Invalid fault) = refl

piece_faultless : (r : PieceReply) → is_fault (saying_status (piece_saying r)) ≡ false
piece_faultless (piece.Held next) = refl
piece_faultless (piece.Complete media) = refl
piece_faultless (piece.Unknown media) = refl
piece_faultless (piece.PieceOrder expected) = refl
piece_faultless (piece.PieceLength expected) = refl
piece_faultless (piece.DigestDiffers found) = refl

enrol_faultless : (r : EnrolReply) → is_fault (saying_status (enrol_saying r)) ≡ false
enrol_faultless (enrol.Epoch epoch) = refl
enrol_faultless enrol.EpochsSpent = refl
enrol_faultless (enrol.Unknown display) = refl

plays_faultless : (r : PlaysReply) → is_fault (saying_status (plays_saying r)) ≡ false
plays_faultless (plays.Next next) = refl
plays_faultless (plays.Gap next) = refl
plays_faultless plays.NoEpoch = refl
plays_faultless (plays.PlaysFull limit) = refl

-- a call that changes nothing, whatever it is answered
record IsStill (call : Call) : Type 0 where
  core : (rows : List Kept) (c : Core) → core_after call rows c ≡ c
  content : (c : Core) (content : Content) → content_after call c content ≡ content

-- a step whose outcome has the status of a fault changes nothing
by_status : (call : Call) (s t : ℕ) → s ≡ t → is_fault t ≡ false → is_fault s ≡ true → IsStill call
by_status call s t same clean told_so = let both : true ≡ false = sym told_so ∙ (ap is_fault same ∙ clean) in absurd (cc)

still_or : (call : Call) (core : Core) (v : View) (o : Outcome) → Does call core v o → is_fault (status_of o) ≡ true → IsStill call
still_or (Refuse reason) core v o does told_so = record { core = λ rows c. refl; content = λ c content. refl }
still_or (OtherMethod verb) core v o does told_so = record { core = λ rows c. refl; content = λ c content. refl }
still_or (MakeEdit client seq e) core v o does told_so =
    by_status (MakeEdit client seq e) _ (edit_status (step core client seq e).reply) (ap status_of does) (edit_faultless (step core client seq e).reply) told_so
still_or (PutPiece media offset bytes) core v o does told_so =
    by_status (PutPiece media offset bytes) _ (saying_status (piece_saying does.0)) (ap status_of does.1) (piece_faultless does.0) told_so
still_or (Report from to) core v o does told_so = record { core = λ rows c. refl; content = λ c content. refl }
still_or (Enrol display) core v o does told_so =
    by_status (Enrol display) _ (saying_status (enrol_saying (enrolled core display.0).reply)) (ap status_of does) (enrol_faultless (enrolled core display.0).reply) told_so
still_or (Manifest display) core v o does told_so = record { core = λ rows c. refl; content = λ c content. refl }
still_or (File display media offset) core v o does told_so = record { core = λ rows c. refl; content = λ c content. refl }
still_or (TakePlays display epoch first list) core v o does told_so =
    by_status (TakePlays display epoch first list) _ (saying_status (plays_saying (played core display.0 epoch first list).reply)) (ap status_of does)
    (plays_faultless (played core display.0 epoch first list).reply) told_so

-- ---- one message and the fold

abbrev world : Core → Content → World
world core content = record { core = core; content = content }

-- the server is a world's, and the keeper's rows stand for it
record IsWorld (t : Core) (v : View) (w : World) : Type 0 where
  core : t ≡ w.core
  stands : Stands t w.content v.rows

known_rows : (call : Call) (core : Core) (content : Content) (o : Outcome) (after : Core) → DoesWith call core content o after
    → core_after call after.rows core ≡ core_after call (rows_after call (world core content)) core
known_rows (Refuse reason) core content o after d = refl
known_rows (OtherMethod verb) core content o after d = refl
known_rows (MakeEdit client seq e) core content o after d = refl
known_rows (PutPiece media offset bytes) core content o after d = ap (λ (rows : List Kept). record core { rows = rows }) d.1
known_rows (Report from to) core content o after d = refl
known_rows (Enrol display) core content o after d = refl
known_rows (Manifest display) core content o after d = refl
known_rows (File display media offset) core content o after d = refl
known_rows (TakePlays display epoch first list) core content o after d = refl

-- a step that was made, told by a status of a fault or not
step_world : (call : Call) (core : Core) (v : View) (o : Outcome) (after : Core) (v' : View) (content : Content) → Steps call core v o after v' → v.told
    → Stands core content v.rows → (b : Bool) → is_fault (status_of o) ≡ b → IsWorld after v' (if b then world core content else world_after call (world core content))
step_world call core v o after v' content s told stands true told_so =
    let still = still_or call core v o s.does told_so in
    record {
      core = s.left ∙ still.core after.rows core;
      stands = subst (λ (x : Content). Stands after x v'.rows) (still.content core content) (s.rows content told stands).1;
    }
step_world call core v o after v' content s told stands false clean =
    let r = s.rows content told stands in
    record { core = s.left ∙ known_rows call core content o after r.0; stands = r.1 }

same_world : (core after : Core) (v v' : View) (content : Content) → after ≡ core → Same v v' → v.told → Stands core content v.rows → IsWorld after v' (world core content)
same_world core after v v' content is same told stands = record {
  core = is;
  stands = subst (λ (c : Core). Stands c content v'.rows) (sym is) (subst (λ (kept : ℕ → Option (List ℕ)). Stands core content kept) (sym (same told)) stands);
}

world_of : (call : Call) (core : Core) (v : View) (o : Outcome) (after : Core) (v' : View) (content : Content) → BecomesOf call core v o after v' → v.told
    → Stands core content v.rows → IsWorld after v' (if is_fault (status_of o) then world core content else world_after call (world core content))
world_of call core v o after v' content (made s) told stands = step_world call core v o after v' content s told stands (is_fault (status_of o)) refl
world_of call core v o after v' content (keeper is left broke same) told stands =
    subst (λ (b : Bool). IsWorld after v' (if b then world core content else world_after call (world core content))) (sym (ap (λ (x : Outcome). is_fault (status_of x)) is))
    (same_world core after v v' content left same told stands)
world_of call core v o after v' content (memory is left ran same) told stands =
    subst (λ (b : Bool). IsWorld after v' (if b then world core content else world_after call (world core content))) (sym (ap (λ (x : Outcome). is_fault (status_of x)) is))
    (same_world core after v v' content left same told stands)

still_told : (call : Call) (core : Core) (v : View) (o : Outcome) (after : Core) (v' : View) → BecomesOf call core v o after v' → v.told → v'.told
still_told call core v o after v' (made s) told = s.ran.told told
still_told call core v o after v' (keeper is left broke same) told = broke.told told
still_told call core v o after v' (memory is left ran same) told = ran.told told

one_world : {K : Type 0} (view : K → View) (s : Server) (k : K) (m : Request) (a : Answer) (t : Server) (l : K) (content : Content) → Answered view s k m a t l
    → (view k).told → Stands s.cms content (view k).rows → IsWorld t.cms (view l) (told_after s.gate.operator m a (world s.cms content))
one_world view s k m a t l content p told stands =
    subst (λ (status : ℕ). IsWorld t.cms (view l) (if is_fault status then world s.cms content else world_after (call_of s.gate.operator s.cms.rows m) (world s.cms content)))
    (sym p.tells.status)
    (world_of (call_of s.gate.operator s.cms.rows m) s.cms (view k) p.outcome t.cms (view l) content p.by.answers told stands)

-- ---- many messages

folded_from : {S : Type 0} (one other : List ℕ) (es : List (Exchange S)) (w x : World) → one ≡ other → w ≡ x → folded one es w ≡ folded other es x
folded_from one other es w x p q = ap (λ (key : List ℕ). folded key es w) p ∙ ap (folded other es) q

pub stands_after : {K : Type 0} (view : K → View) (s : Server × K) (es : List (Exchange (Server × K))) → Answers (in_pairs (Answered view)) s es → StandsAfter view s es
stands_after view s [] p content told stands = (refl, stands)
stands_after view s (e ∷ es) p content told stands =
    let one = one_world view s.0 s.1 e.request e.answer e.after.0 e.after.1 content p.0 told stands in
    let w = told_after s.0.gate.operator e.request e.answer (world s.0.cms content) in
    let on = still_told _ _ _ _ _ _ p.0.by.answers told in
    let rest = stands_after view e.after es p.1 w.content on one.stands in
    let same : folded e.after.0.gate.operator es (world e.after.0.cms w.content) ≡ folded s.0.gate.operator es w
    = folded_from _ _ es _ _ (ap (λ g. g.operator) p.0.by.gate) (ap (λ (c : Core). world c w.content) one.core) in (
      rest.0 ∙ ap (λ (x : World). x.core) same,
      subst (λ (x : World). Stands (left_by e.after es).0.cms x.content (view (left_by e.after es).1).rows) same rest.1,
    )

-- ---- 503

abbrev one_if : Bool → ℕ
one_if b = if b then 1 else 0

no_failure : (s : ℕ) (b : Bool) → (s == 503) ≡ b → s ≢ 503 → one_if b ≡ 0
no_failure s true is other = absurd (other (eqb-true s 503 is))
no_failure s false is other = refl

no_count : (a : Answer) (before now : ℕ) → failed a ≡ 0 → now ≡ before → Counted before now (failed a)
no_count a before now none same = λ small. omega (arith, none, same)

told_not : (s t : ℕ) → s ≡ t → is_fault t ≡ false → s ≡ 503 → ⊥
told_not s t same clean e = let both : true ≡ false = ap is_fault (sym e ∙ same) ∙ clean in absurd (cc)

manifest_not : (r : ManifestReply) → status_of (manifest_outcome r) ≢ 503
manifest_not (manifest.Text text) = λ e. absurd (omega (arith, e))
manifest_not manifest.Unknown = λ e. absurd (omega (arith, e))
manifest_not (manifest.TooLarge name count) = λ e. absurd (omega (arith, e))

file_not : (media : MediaId) (r : FileReply) → status_of (file_outcome media r) ≢ 503
file_not media (file.Bytes bytes) = λ e. absurd (omega (arith, e))
file_not media file.NotListed = λ e. absurd (omega (arith, e))
file_not media (file.PastEnd length) = λ e. absurd (omega (arith, e))

-- a step isn't told by 503
step_status : (call : Call) (core : Core) (v : View) (o : Outcome) → IsSound call → Does call core v o → status_of o ≢ 503
step_status (Refuse reason) core v o sound does = λ e. sound (sym (ap status_of does) ∙ e)
step_status (OtherMethod verb) core v o sound does = λ e. absurd (omega (arith, sym (ap status_of does) ∙ e))
step_status (MakeEdit client seq x) core v o sound does = λ e. absurd (told_not _ _ (ap status_of does) (edit_faultless (step core client seq x).reply) e)
step_status (PutPiece media offset bytes) core v o sound does = λ e. absurd (told_not _ _ (ap status_of does.1) (piece_faultless does.0) e)
step_status (Report from to) core v o sound does = λ e. absurd (omega (arith, sym (ap status_of does.2) ∙ e))
step_status (Enrol display) core v o sound does = λ e. absurd (told_not _ _ (ap status_of does) (enrol_faultless (enrolled core display.0).reply) e)
step_status (Manifest display) core v o sound does = λ e. manifest_not (manifest_reply display core.rows) (sym (ap status_of does) ∙ e)
step_status (File display media offset) core v o sound does = λ e. file_not media does.0 (sym (ap status_of does.2) ∙ e)
step_status (TakePlays display epoch first list) core v o sound does =
    λ e. absurd (told_not _ _ (ap status_of does) (plays_faultless (played core display.0 epoch first list).reply) e)

one_rose : (a : Answer) (before now : ℕ) → failed a ≤ 1 → Rose before now → Counted before now (failed a)
one_rose a before now few rose = λ small. omega (arith, few, rose, small)

failed_few : (s : ℕ) (b : Bool) → (if b then 1 else 0) ≤ 1
failed_few s true = omega arith
failed_few s false = omega arith

counted_by : (call : Call) (core : Core) (v : View) (o : Outcome) (after : Core) (v' : View) (a : Answer) → IsSound call → a.status ≡ status_of o
    → BecomesOf call core v o after v' → Counted v.faults v'.faults (failed a)
counted_by call core v o after v' a sound told (made s) =
    no_count a v.faults v'.faults (no_failure a.status (a.status == 503) refl (λ e. step_status call core v o sound s.does (sym told ∙ e))) s.ran.faults
counted_by call core v o after v' a sound told (keeper is left broke same) =
    one_rose a v.faults v'.faults (failed_few a.status (a.status == 503)) broke.faults
counted_by call core v o after v' a sound told (memory is left ran same) =
    let status : a.status ≡ 507 = told ∙ ap status_of is in
    no_count a v.faults v'.faults (no_failure a.status (a.status == 503) refl (λ e. absurd (omega (arith, e, status)))) ran.faults

one_counted : {K : Type 0} (view : K → View) (s : Server) (k : K) (m : Request) (a : Answer) (t : Server) (l : K) → Answered view s k m a t l
    → Counted (view k).faults (view l).faults (failed a)
one_counted view s k m a t l p =
    counted_by (call_of s.gate.operator s.cms.rows m) s.cms (view k) p.outcome t.cms (view l) a
    (call_sound s.gate.operator s.cms.rows (ask m.method m.target) m.key m.body) p.tells.status p.by.answers

pub counted_after : {K : Type 0} (view : K → View) (s : Server × K) (es : List (Exchange (Server × K))) → Answers (in_pairs (Answered view)) s es
    → Counted (view s.1).faults (view (left_by s es).1).faults (failures es)
counted_after view s [] p = λ small. omega arith
counted_after view s (e ∷ es) p =
    let one = one_counted view s.0 s.1 e.request e.answer e.after.0 e.after.1 p.0 in
    let rest = counted_after view e.after es p.1 in
    λ small.
    let later : failures es + (view e.after.1).faults ≤ (view (left_by e.after es).1).faults = rest small in
    let mid : (view e.after.1).faults < 2 ^ 64 - 1 = omega (arith, later, small) in
    omega (arith, one mid, later)

pub gate_after : {K : Type 0} (view : K → View) (s : Server × K) (es : List (Exchange (Server × K))) → Answers (in_pairs (Answered view)) s es
    → (left_by s es).0.gate ≡ s.0.gate
gate_after view s [] p = refl
gate_after view s (e ∷ es) p = gate_after view e.after es p.1 ∙ p.0.by.gate
