-- One turn after others, and how a connection ends.
use Rattle.std.proofs.Common.{◌≡◌, ℕ, zero, suc, ◌<◌, ◌≤◌, Bool, true, false, List, [], ◌∷◌, ◌++◌, length, drop, ◌⊎◌, inl, inr, refl, sym, ap, ◌∙◌, subst, arith, append_assoc}
use Rattle.std.specs.Prelude.{Result, Ok, Err, OnOk, OnErr}
use Rattle.std.specs.declared.option.Option.{Option}
use Rattle.std.specs.Io.KnownBytes.{Appends, Consumes, IsAtEnd}
use Rattle.std.proofs.KnownBytes.{Appends-nil, Appends-trans, Consumes-nil, Consumes-trans}
use Rattle.std.proofs.lemmas.List.{append-nil, length-append, length-drop}
use Rattle.sg_base.specs.Causes.{HasCause, Rose}
use Rattle.sg_base.specs.declared.limits.TheConstants.{MAX_TAKEN}
use Rattle.sg_http.specs.Messages.{Request, Whole, Unfinished, Bad, Opens}
use Rattle.sg_http.specs.Streams.{Messages}
use Rattle.sg_http.specs.Texts.{reply_text}
use Rattle.sg_outside.specs.Streams.{AppendsPart}
use Rattle.sg_connection.specs.declared.answer.Answer.{Answer}
use Rattle.sg_connection.specs.declared.serve.ConnEnd.{ConnEnd}
use Rattle.sg_connection.specs.declared.serve.ConnEnd.TheVariants.{Closed, Rest, Refused, ReadFault, WriteFault, Spent, Memory}
use Rattle.sg_connection.specs.declared.serve.Turn.{Turn}
use Rattle.sg_connection.specs.declared.serve.Turn.TheVariants.{GoesOn, Over}
use Rattle.sg_connection.specs.Exchanges.{Exchange, requests, Answers, left_by, written, Open, answer_text, body_bytes, refusal_text}
use Rattle.sg_connection.specs.Serving.{Side, Scene, Course, Wrote, Closes, BreaksOff, EndsBy, Serves}
use Rattle.sg_connection.specs.Taking.{Comes, Unread}
use Rattle.sg_connection.specs.Turns.{Responds, Turns, left_to_do, turn_after}
use Rattle.sg_connection.proofs.ExchangeLemmas.{left_by-append, written-append, Open-append, Answers-append, messages-append}

-- ---- what was written

pub part_before : (a b : Option (List ℕ)) (x y : List ℕ) → AppendsPart a b x → AppendsPart a b (x ++ y)
part_before a b x y p = record {
  part = p.part;
  rest = p.rest ++ y;
  split = ap (λ z. z ++ y) p.split ∙ append_assoc p.part p.rest y;
  put = p.put;
}

pub part_after : (a b c : Option (List ℕ)) (x y : List ℕ) → Appends a b x → AppendsPart b c y → AppendsPart a c (x ++ y)
part_after a b c x y h p = record {
  part = x ++ p.part;
  rest = p.rest;
  split = ap (λ z. x ++ z) p.split ∙ sym (append_assoc x p.part p.rest);
  put = Appends-trans a b c x p.part h p.put;
}

joined : {S : Type 0} (es fs : List (Exchange S)) (more : List ℕ) → written es ++ (written fs ++ more) ≡ written (es ++ fs) ++ more
joined es fs more = sym (append_assoc (written es) (written fs) more) ∙ ap (λ x. x ++ more) (sym (written-append es fs))

wrote_all : {S : Type 0} (a b : Scene S) (es : List (Exchange S)) → Wrote a b es [] → Appends a.sink.bytes b.sink.bytes (written es)
wrote_all a b es w = subst (Appends a.sink.bytes b.sink.bytes) (append-nil (written es)) w

wrote_then : {S : Type 0} (a b c : Scene S) (es fs : List (Exchange S)) (more : List ℕ) → Wrote a b es [] → Wrote b c fs more
    → Wrote a c (es ++ fs) more
wrote_then a b c es fs more w x = subst (Appends a.sink.bytes c.sink.bytes) (joined es fs more)
    (Appends-trans a.sink.bytes b.sink.bytes c.sink.bytes _ _ (wrote_all a b es w) x)

breaks_then : {S : Type 0} (a b c : Scene S) (es fs : List (Exchange S)) (rest : List ℕ) → Wrote a b es [] → Open es
    → BreaksOff b c fs rest → BreaksOff a c (es ++ fs) rest
breaks_then a b c es fs rest w o (inl part) = inl (subst (AppendsPart a.sink.bytes c.sink.bytes) (sym (written-append es fs))
    (part_after a.sink.bytes b.sink.bytes c.sink.bytes _ _ (wrote_all a b es w) part))
breaks_then a b c es fs rest w o (inr x) = inr (
  x.0,
  Open-append es fs o x.1,
  x.2,
  subst (AppendsPart a.sink.bytes c.sink.bytes) (joined es fs (refusal_text x.0 true))
      (part_after a.sink.bytes b.sink.bytes c.sink.bytes _ _ (wrote_all a b es w) x.3),
)

-- ---- one course after another

pub course_then : {S : Type 0} (rule : S → Request → Answer → S → Type 0) (a b c : Scene S) (u v w : Unread) (taken more : List ℕ)
    (es fs : List (Exchange S)) → Open es → Course rule a b u v taken es → Course rule b c v w more fs
    → Course rule a c u w (taken ++ more) (es ++ fs)
course_then rule a b c u v w taken more es fs o p q = record {
  took = Consumes-trans a.source.bytes b.source.bytes c.source.bytes taken more p.took q.took;
  messages = subst (λ s. Messages s (requests (es ++ fs)) w.stream) (append_assoc u.stream taken more)
      (messages-append es fs (u.stream ++ taken) v.stream more w.stream o p.messages q.messages);
  answers = Answers-append rule a.state es fs p.answers (subst (λ s. Answers rule s fs) p.state q.answers);
  state = q.state ∙ ap (λ s. left_by s fs) p.state ∙ sym (left_by-append a.state es fs);
  total = omega (arith, p.total, q.total, length-append taken more);
}

closes_then : {S : Type 0} (es fs : List (Exchange S)) → Open es → Closes fs → Closes (es ++ fs)
closes_then es fs o x =
    (es ++ x.0, x.1, ap (λ gs. es ++ gs) x.2 ∙ sym (append_assoc es x.0 (x.1 ∷ [])), Open-append es x.0 o x.3, x.4)

ends_then : {S : Type 0} (a b c : Scene S) (es fs : List (Exchange S)) (v : Unread) (end : ConnEnd) → Wrote a b es [] → Open es
    → b.source.faults ≡ a.source.faults → b.sink.faults ≡ a.sink.faults → EndsBy b c fs v end → EndsBy a c (es ++ fs) v end
ends_then a b c es fs v Closed w o f g x = (wrote_then a b c es fs [] w x.0, by_case x.1)
  where
    by_case : ((v.stream ≡ []) × IsAtEnd c.source.bytes × Open fs) ⊎ Closes fs
        → ((v.stream ≡ []) × IsAtEnd c.source.bytes × Open (es ++ fs)) ⊎ Closes (es ++ fs)
    by_case (inl y) = inl (y.0, y.1, Open-append es fs o y.2)
    by_case (inr y) = inr (closes_then es fs o y)
ends_then a b c es fs v (Rest n) w o f g x = (wrote_then a b c es fs [] w x.0, Open-append es fs o x.1, x.2, x.3, x.4, x.5)
ends_then a b c es fs v (Refused status) w o f g x = (wrote_then a b c es fs (refusal_text status true) w x.0, Open-append es fs o x.1, x.2)
ends_then a b c es fs v ReadFault w o f g x =
    (wrote_then a b c es fs [] w x.0, Open-append es fs o x.1, x.2, subst (λ n. Rose n c.source.faults) f x.3)
ends_then a b c es fs v WriteFault w o f g x = (subst (λ n. Rose n c.sink.faults) g x.0, breaks_then a b c es fs v.stream w o x.1)
ends_then a b c es fs v Spent w o f g x = (wrote_then a b c es fs [] w x.0, Open-append es fs o x.1, x.2, x.3)
ends_then a b c es fs v Memory w o f g x = (wrote_then a b c es fs [] w x.0, Open-append es fs o x.1)

-- ---- a connection so far, none of whose messages asked to close

pub record IsFar {S : Type 0} (rule : S → Request → Answer → S → Type 0) (a b : Scene S) (u v : Unread) : Type 0 where
  pub taken : List ℕ
  pub exchanges : List (Exchange S)
  pub course : Course rule a b u v taken exchanges
  pub still : Open exchanges
  pub wrote : Wrote a b exchanges []
  pub reads : b.source.faults ≡ a.source.faults
  pub writes : b.sink.faults ≡ a.sink.faults

far_none : {S : Type 0} (rule : S → Request → Answer → S → Type 0) (a : Scene S) (u : Unread) → IsFar rule a a u u
far_none rule a u = record {
  taken = [];
  exchanges = [];
  course = record {
    took = Consumes-nil a.source.bytes;
    messages = append-nil u.stream;
    answers = tt;
    state = refl;
    total = omega arith;
  };
  still = tt;
  wrote = Appends-nil a.sink.bytes;
  reads = refl;
  writes = refl;
}

pub far_start : {S : Type 0} (rule : S → Request → Answer → S → Type 0) (a : Scene S) (u : Unread) → u ≡ record { stream = []; total = 0 }
    → IsFar rule a a (record { stream = []; total = 0 }) u
far_start rule a u none = subst (IsFar rule a a (record { stream = []; total = 0 })) (sym none) (far_none rule a (record { stream = []; total = 0 }))

pub serves_none : {S : Type 0} (rule : S → Request → Answer → S → Type 0) (a : Scene S) → Serves rule a a Memory
unfolding far_none
serves_none rule a =
    let far = far_none rule a (record { stream = []; total = 0 }) in
    record { taken = []; exchanges = []; left = record { stream = []; total = 0 }; course = far.course; ends = (far.wrote, tt) }

-- bytes came, and nothing else befell
course_reads : {S : Type 0} (rule : S → Request → Answer → S → Type 0) (a b : Scene S) (u v : Unread) (comes : Comes a.source.bytes b.source.bytes u v)
    → b.state ≡ a.state → Course rule a b u v comes.more []
course_reads rule a b u v comes state = record {
  took = comes.took;
  messages = sym comes.stream;
  answers = tt;
  state = state;
  total = comes.total;
}

wrote_none : {S : Type 0} (a b : Scene S) → b.sink ≡ a.sink → Wrote a b [] []
wrote_none a b sink = subst (λ s. Appends a.sink.bytes s.bytes []) (sym sink) (Appends-nil a.sink.bytes)

far_reads : {S : Type 0} (rule : S → Request → Answer → S → Type 0) (a b : Scene S) (u v : Unread) → Comes a.source.bytes b.source.bytes u v
    → b.source.faults ≡ a.source.faults → b.sink ≡ a.sink → b.state ≡ a.state → IsFar rule a b u v
far_reads rule a b u v comes reads sink state = record {
  taken = comes.more;
  exchanges = [];
  course = course_reads rule a b u v comes state;
  still = tt;
  wrote = wrote_none a b sink;
  reads = reads;
  writes = ap (λ s. s.faults) sink;
}

over_reads : {S : Type 0} (rule : S → Request → Answer → S → Type 0) (a b : Scene S) (u v : Unread) (end : ConnEnd) → Comes a.source.bytes b.source.bytes u v
    → b.state ≡ a.state → EndsBy a b [] v end → Turns rule a b u v (Over end)
over_reads rule a b u v end comes state ends = record {
  taken = comes.more;
  exchanges = [];
  course = course_reads rule a b u v comes state;
  outcome = ends;
}

pub failed_turn : {S : Type 0} (rule : S → Request → Answer → S → Type 0) (a b : Scene S) (u v : Unread) → Comes a.source.bytes b.source.bytes u v
    → b.sink ≡ a.sink → b.state ≡ a.state → Opens v.stream Unfinished → Rose a.source.faults b.source.faults → Turns rule a b u v (Over ReadFault)
failed_turn rule a b u v comes sink state opens rose =
    over_reads rule a b u v ReadFault comes state (wrote_none a b sink, tt, opens, rose)

pub spent_turn : {S : Type 0} (rule : S → Request → Answer → S → Type 0) (a b : Scene S) (u v : Unread) → Comes a.source.bytes b.source.bytes u v
    → b.sink ≡ a.sink → b.state ≡ a.state → Opens v.stream Unfinished → v.total ≡ MAX_TAKEN → Turns rule a b u v (Over Spent)
spent_turn rule a b u v comes sink state opens all =
    over_reads rule a b u v Spent comes state (wrote_none a b sink, tt, opens, all)

pub memory_turn : {S : Type 0} (rule : S → Request → Answer → S → Type 0) (a b : Scene S) (u v : Unread) → Comes a.source.bytes b.source.bytes u v
    → b.sink ≡ a.sink → b.state ≡ a.state → Turns rule a b u v (Over Memory)
memory_turn rule a b u v comes sink state = over_reads rule a b u v Memory comes state (wrote_none a b sink, tt)

pub ended_turn : {S : Type 0} (rule : S → Request → Answer → S → Type 0) (a b : Scene S) (u v : Unread) (count : ℕ) (end : ConnEnd)
    → Comes a.source.bytes b.source.bytes u v → b.sink ≡ a.sink → b.state ≡ a.state → Opens v.stream Unfinished → IsAtEnd b.source.bytes
    → count ≡ length v.stream → (count ≡ 0 → end ≡ Closed) → (0 < count → end ≡ Rest count) → Turns rule a b u v (Over end)
ended_turn rule a b u v zero end comes sink state opens over is none some =
    subst (λ e. Turns rule a b u v (Over e)) (sym (none refl))
    (over_reads rule a b u v Closed comes state (wrote_none a b sink, inl (none_left v.stream is, over, tt)))
  where
    none_left : (s : List ℕ) → zero ≡ length s → s ≡ []
    none_left [] e = refl
    none_left (x ∷ xs) e = absurd (omega arith)
ended_turn rule a b u v (suc n) end comes sink state opens over is none some =
    let more : 0 < suc n = omega arith in
    subst (λ e. Turns rule a b u v (Over e)) (sym (some more))
    (over_reads rule a b u v (Rest (suc n)) comes state (wrote_none a b sink, tt, opens, over, is, more))

pub far_on : {S : Type 0} (rule : S → Request → Answer → S → Type 0) (a b c : Scene S) (u v w : Unread) → IsFar rule a b u v
    → Turns rule b c v w GoesOn → IsFar rule a c u w
far_on rule a b c u v w p q = record {
  taken = p.taken ++ q.taken;
  exchanges = p.exchanges ++ q.exchanges;
  course = course_then rule a b c u v w p.taken q.taken p.exchanges q.exchanges p.still p.course q.course;
  still = Open-append p.exchanges q.exchanges p.still q.outcome.1;
  wrote = wrote_then a b c p.exchanges q.exchanges [] p.wrote q.outcome.0;
  reads = q.outcome.2 ∙ p.reads;
  writes = q.outcome.3 ∙ p.writes;
}

pub turns_over : {S : Type 0} (rule : S → Request → Answer → S → Type 0) (a b c : Scene S) (u v w : Unread) (end : ConnEnd) → IsFar rule a b u v
    → Turns rule b c v w (Over end) → Turns rule a c u w (Over end)
turns_over rule a b c u v w end p q = record {
  taken = p.taken ++ q.taken;
  exchanges = p.exchanges ++ q.exchanges;
  course = course_then rule a b c u v w p.taken q.taken p.exchanges q.exchanges p.still p.course q.course;
  outcome = ends_then a b c p.exchanges q.exchanges w end p.wrote p.still p.reads p.writes q.outcome;
}

pub serves_over : {S : Type 0} (rule : S → Request → Answer → S → Type 0) (a b c : Scene S) (v w : Unread) (end : ConnEnd)
    → IsFar rule a b (record { stream = []; total = 0 }) v → Turns rule b c v w (Over end) → Serves rule a c end
serves_over rule a b c v w end p q =
    let t = turns_over rule a b c (record { stream = []; total = 0 }) v w end p q in
    record { taken = t.taken; exchanges = t.exchanges; left = w; course = t.course; ends = t.outcome }

-- a turn of which bytes came first
pub turns_after : {S : Type 0} (rule : S → Request → Answer → S → Type 0) (a b c : Scene S) (u v w : Unread) (turn : Turn)
    → Comes a.source.bytes b.source.bytes u v → b.source.faults ≡ a.source.faults → b.sink ≡ a.sink → b.state ≡ a.state
    → v.total ≤ MAX_TAKEN → Turns rule b c v w turn → Turns rule a c u w turn
turns_after rule a b c u v w GoesOn comes reads sink state limit q =
    let p = far_reads rule a b u v comes reads sink state in
    let on = far_on rule a b c u v w p q in
    let same : left_to_do v ≡ left_to_do u = omega (arith, comes.total, ap length comes.stream, length-append u.stream comes.more, limit) in
    record {
      taken = on.taken;
      exchanges = on.exchanges;
      course = on.course;
      outcome = (on.wrote, on.still, on.reads, on.writes, omega (arith, same, q.outcome.4));
    }
turns_after rule a b c u v w (Over end) comes reads sink state limit q =
    turns_over rule a b c u v w end (far_reads rule a b u v comes reads sink state) q

-- ---- a message and its answer

pub side_same : (a b : Side) → b.bytes ≡ a.bytes → b.faults ≡ a.faults → b ≡ a
side_same a b bytes faults = ap (λ x. side_at x b.faults) bytes ∙ ap (side_at a.bytes) faults
  where
    side_at : Option (List ℕ) → ℕ → Side
    side_at x n = record { bytes = x; faults = n }

pub responds_by : {S T E : Type 0} (rule : S → Request → Answer → S → Type 0) (a b : Scene S) (m : Request) (close : Bool) (answer : Answer) (body : List ℕ)
    (result : Result T E) → rule a.state m answer b.state → body ≡ body_bytes answer.body
    → OnOk result (Appends a.sink.bytes b.sink.bytes (reply_text answer.status answer.form answer.allow body close))
    → OnErr result (AppendsPart a.sink.bytes b.sink.bytes (reply_text answer.status answer.form answer.allow body close))
    → HasCause a.sink.faults b.sink.faults result → b.source ≡ a.source → Responds rule a b m close result
responds_by rule a b m close answer body (Ok x) answered is ok err cause source = record {
  answer = answer;
  answered = answered;
  sent = (subst (λ bytes. Appends a.sink.bytes b.sink.bytes (reply_text answer.status answer.form answer.allow bytes close)) is ok, cause.kept);
  source = source;
}
responds_by rule a b m close answer body (Err e) answered is ok err cause source = record {
  answer = answer;
  answered = answered;
  sent = (subst (λ bytes. AppendsPart a.sink.bytes b.sink.bytes (reply_text answer.status answer.form answer.allow bytes close)) is err, cause.failed);
  source = source;
}

course_one : {S : Type 0} (rule : S → Request → Answer → S → Type 0) (a b : Scene S) (u v : Unread) (m : Request) (used : ℕ) (answer : Answer)
    → Opens u.stream (Whole m used) → used ≤ length u.stream → rule a.state m answer b.state → b.source ≡ a.source
    → v ≡ record { stream = drop used u.stream; total = u.total }
    → Course rule a b u v [] (record { request = m; answer = answer; after = b.state } ∷ [])
course_one rule a b u v m used answer opens within answered source passed = record {
  took = subst (λ s. Consumes a.source.bytes s.bytes []) (sym source) (Consumes-nil a.source.bytes);
  messages = subst (λ s. Messages s (m ∷ []) v.stream) (sym (append-nil u.stream))
      (used, opens, within, (λ _. refl), sym (ap (λ (w : Unread). w.stream) passed));
  answers = (answered, tt);
  state = refl;
  total = ap (λ (w : Unread). w.total) passed ∙ omega arith;
}

one_written : {S : Type 0} (e : Exchange S) (a b : Option (List ℕ)) → Appends a b (answer_text e.answer e.request.close)
    → Appends a b (written (e ∷ []) ++ [])
one_written e a b h = subst (Appends a b) (sym (append-nil (written (e ∷ [])) ∙ append-nil (answer_text e.answer e.request.close))) h

told_turn : {S T E : Type 0} (rule : S → Request → Answer → S → Type 0) (a b : Scene S) (u v : Unread) (m : Request) (used : ℕ) (close : Bool)
    (result : Result T E) → Responds rule a b m close result → Opens u.stream (Whole m used) → used ≤ length u.stream → 0 < used → m.close ≡ close
    → v ≡ record { stream = drop used u.stream; total = u.total } → Turns rule a b u v (turn_after result close)
told_turn {S = S} rule a b u v m used close (Err x) r opens within some is passed = record {
  taken = [];
  exchanges = exchange ∷ [];
  course = course_one rule a b u v m used r.answer opens within r.answered r.source passed;
  outcome = (
    r.sent.1,
    inl (subst (AppendsPart a.sink.bytes b.sink.bytes)
        (ap (answer_text r.answer) (sym is) ∙ sym (append-nil (answer_text r.answer m.close))) r.sent.0),
  );
}
  where
    exchange : Exchange S
    exchange = record { request = m; answer = r.answer; after = b.state }
told_turn {S = S} rule a b u v m used true (Ok x) r opens within some is passed = record {
  taken = [];
  exchanges = exchange ∷ [];
  course = course_one rule a b u v m used r.answer opens within r.answered r.source passed;
  outcome = (
    one_written exchange a.sink.bytes b.sink.bytes (subst (λ c. Appends a.sink.bytes b.sink.bytes (answer_text r.answer c)) (sym is) r.sent.0),
    inr ([], exchange, refl, tt, is),
  );
}
  where
    exchange : Exchange S
    exchange = record { request = m; answer = r.answer; after = b.state }
told_turn {S = S} rule a b u v m used false (Ok x) r opens within some is passed = record {
  taken = [];
  exchanges = exchange ∷ [];
  course = course_one rule a b u v m used r.answer opens within r.answered r.source passed;
  outcome = (
    one_written exchange a.sink.bytes b.sink.bytes (subst (λ c. Appends a.sink.bytes b.sink.bytes (answer_text r.answer c)) (sym is) r.sent.0),
    (is, tt),
    ap (λ s. s.faults) r.source,
    r.sent.1,
    omega (arith, ap (λ (w : Unread). w.total) passed, ap (λ (w : Unread). length w.stream) passed, length-drop used u.stream),
  );
}
  where
    exchange : Exchange S
    exchange = record { request = m; answer = r.answer; after = b.state }

pub message_turn : {S T E : Type 0} (rule : S → Request → Answer → S → Type 0) (a b : Scene S) (u v : Unread) (m : Request) (used : ℕ) (close : Bool)
    (result : Result T E) (turn : Turn) → turn ≡ turn_after result close → Responds rule a b m close result → Opens u.stream (Whole m used)
    → used ≤ length u.stream → 0 < used → m.close ≡ close → v ≡ record { stream = drop used u.stream; total = u.total } → Turns rule a b u v turn
message_turn rule a b u v m used close result turn so r opens within some is passed =
    subst (Turns rule a b u v) (sym so) (told_turn rule a b u v m used close result r opens within some is passed)

-- ---- no message

no_course : {S : Type 0} (rule : S → Request → Answer → S → Type 0) (a b : Scene S) (u : Unread) → b.source ≡ a.source → b.state ≡ a.state
    → Course rule a b u u [] []
no_course rule a b u source state = record {
  took = subst (λ s. Consumes a.source.bytes s.bytes []) (sym source) (Consumes-nil a.source.bytes);
  messages = append-nil u.stream;
  answers = tt;
  state = state;
  total = omega arith;
}

pub refused_turn : {S : Type 0} (rule : S → Request → Answer → S → Type 0) (a b : Scene S) (u : Unread) (status : ℕ) → Opens u.stream (Bad status)
    → Appends a.sink.bytes b.sink.bytes (refusal_text status true) → b.source ≡ a.source → b.state ≡ a.state
    → Turns rule a b u u (Over (Refused status))
refused_turn rule a b u status opens sent source state = record {
  taken = [];
  exchanges = [];
  course = no_course rule a b u source state;
  outcome = (sent, tt, opens);
}

pub broken_turn : {S : Type 0} (rule : S → Request → Answer → S → Type 0) (a b : Scene S) (u : Unread) (status : ℕ) → Opens u.stream (Bad status)
    → AppendsPart a.sink.bytes b.sink.bytes (refusal_text status true) → Rose a.sink.faults b.sink.faults → b.source ≡ a.source → b.state ≡ a.state
    → Turns rule a b u u (Over WriteFault)
broken_turn rule a b u status opens sent rose source state = record {
  taken = [];
  exchanges = [];
  course = no_course rule a b u source state;
  outcome = (rose, inr (status, tt, opens, sent));
}

-- ---- results

pub on_err : {T E P Q : Type 0} (r : Result T E) → (P → Q) → OnErr r P → OnErr r Q
on_err (Ok x) f h = tt
on_err (Err e) f h = f h
