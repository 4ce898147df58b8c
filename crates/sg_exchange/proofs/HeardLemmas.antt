-- What came of an exchange, by the bytes in the room.
use Rattle.std.proofs.Common.{◌≡◌, ◌⊎◌, inl, inr, ℕ, ◌+◌, ◌-◌, ◌<◌, ◌≤◌, ◌==◌, nat_lt, MatchBool, MatchOption, Bool, true, false, List, [], ◌∷◌, length, take, drop, if◌then◌else◌, unwrap_or, refl, sym, ◌∙◌, ap, subst, arith, None, Some}
use Rattle.std.specs.declared.option.Option.{Option}
use Rattle.std.proofs.lemmas.Grind.{common_steps}
use Rattle.std.proofs.lemmas.List.{take-take, drop-take}
use Rattle.std.proofs.lemmas.Bool.{eqb-true, ltb-true}
use Rattle.sg_outside.specs.Lists.{Grows}
use Rattle.sg_devices.specs.declared.link.Exchange.{Exchange}
use Rattle.sg_devices.specs.Exchanges.{exchange_by}
use Rattle.sg_http.specs.declared.message.Span.{Span}
use Rattle.sg_http.specs.Messages.{bytes_at, IsSpanWithin}
use Rattle.sg_http.specs.Head.{empty_end}
use Rattle.sg_http.specs.Replies.{Reading, Answer, Part, NoReply, Reads, ReplyHeads, may_be_http, reply_head_text, reply_length, with_length}
use Rattle.sg_exchange.specs.declared.heard.Wants.{Wants}
use Rattle.sg_exchange.specs.declared.heard.Wants.TheVariants.{Exactly}
use Rattle.sg_exchange.specs.declared.heard.Heard.{Heard}
use Rattle.sg_exchange.specs.declared.heard.Heard.TheVariants as heard
use Rattle.sg_exchange.specs.Asking.{Hears}
use Rattle.sg_exchange.specs.Heard.{Outcome, Whole, Cut, Status, Length, ComesTo, IsCutBody, IsHeardWithin, head_refusal, length_refusal, outcome_at, outcome_of}

pub at_200 : (wants : Wants) (status n : ℕ) → status ≡ 200 → head_refusal wants status n ≡ length_refusal wants n
at_200 wants status n is = subst (λ (s : ℕ). head_refusal wants s n ≡ length_refusal wants n) (sym is) refl

-- a reply that nothing refuses is what it was
pub not_refused : (cut : Bool) (refusal : Option Outcome) (x : Outcome) → None ≡ refusal → x ≡ (if cut then x else unwrap_or refusal x)
not_refused true refusal x is = refl
not_refused false refusal x is = subst (λ (o : Option Outcome). x ≡ unwrap_or o x) is refl

span_long : (bytes : List ℕ) (span : Span) → IsSpanWithin (length bytes) span → length (bytes_at bytes span) ≡ span.to - span.from
span_long bytes span within = grind (arith, common_steps)

pub whole_is : (wants : Wants) (status : ℕ) (bytes : List ℕ) (body : Span) → IsSpanWithin (length bytes) body
    → None ≡ head_refusal wants status (body.to - body.from) → Whole (bytes_at bytes body) ≡ outcome_of wants (Answer status (bytes_at bytes body))
whole_is wants status bytes body within is =
    not_refused false (head_refusal wants status (length (bytes_at bytes body))) (Whole (bytes_at bytes body))
    (is ∙ ap (λ (n : ℕ). head_refusal wants status n) (sym (span_long bytes body within)))

-- ---- by a front of the room

front_at : (n : ℕ) (bytes : List ℕ) (span : Span) → IsSpanWithin n span → bytes_at (take n bytes) span ≡ bytes_at bytes span
front_at n bytes span within =
    ap (λ (k : ℕ). take (span.to - span.from) (drop span.from (take k bytes))) (in_parts span.from n (omega (arith, within.0, within.1)))
    ∙ ap (take (span.to - span.from)) (drop-take span.from (n - span.from) bytes)
    ∙ take-take (span.to - span.from) (n - span.from) (drop span.from bytes) (omega (arith, within.0, within.1))
  where
    in_parts : (k n : ℕ) → k ≤ n → n ≡ k + (n - k)
    in_parts k n le = omega (arith, le)

front_outcome : (n : ℕ) (bytes : List ℕ) (h : Heard) → IsHeardWithin n h → outcome_at (take n bytes) h ≡ outcome_at bytes h
front_outcome n bytes (heard.Whole body) within = ap Whole (front_at n bytes body within)
front_outcome n bytes heard.LinkFault within = refl
front_outcome n bytes heard.NotHttp within = refl
front_outcome n bytes (heard.Cut got size body) within = ap (Cut got size) (front_at n bytes body within)
front_outcome n bytes (heard.Status status) within = refl
front_outcome n bytes (heard.Length got expected) within = refl

pub heard_in : (room : ℕ) (old new : Option (List Exchange)) (request : List ℕ) (wants : Wants) (reply front : List ℕ) (n : ℕ) (h : Heard)
    → front ≡ take n reply → length front ≡ n → length reply ≡ room
    → (note : List ℕ) × Grows old new (exchange_by request (length reply) (Some (take n reply)) note ∷ [])
    → ComesTo wants (Some front) (outcome_at front h) → IsHeardWithin (length front) h → Hears room old new request wants (outcome_at reply h)
heard_in room old new request wants reply front n h is long whole told comes within = record {
  answer = Some (take n reply);
  note = told.0;
  told = subst (λ (r : ℕ). Grows old new (exchange_by request r (Some (take n reply)) told.0 ∷ [])) whole told.1;
  comes_to = subst (λ (o : Outcome). ComesTo wants (Some (take n reply)) o) (front_outcome n reply h (subst (λ (k : ℕ). IsHeardWithin k h) long within))
      (subst (λ (f : List ℕ). ComesTo wants (Some f) (outcome_at f h)) is comes);
}

pub hears_as : (room whole : ℕ) (old new : Option (List Exchange)) (text request : List ℕ) (wants : Wants) (outcome : Outcome) → room ≡ whole → text ≡ request
    → Hears room old new text wants outcome → Hears whole old new request wants outcome
hears_as room whole old new text request wants outcome long is hears =
    subst (λ (n : ℕ). Hears n old new request wants outcome) long (subst (λ (r : List ℕ). Hears room old new r wants outcome) is hears)

-- ---- how long a body is that came

-- a reply whose length nothing refuses has the wanted one
pub exact_long : (status n m : ℕ) → None ≡ head_refusal (Exactly n) status m → m ≡ n
exact_long status n m none = by_status (status == 200) none
  where
    by_length : (same : Bool) → (m == n) ≡ same → None ≡ (if same then None else Some (Length m n)) → m ≡ n
    by_length true is none = eqb-true m n is
    by_length false is none = absurd (cc)

    by_status : (good : Bool) → None ≡ (if good then length_refusal (Exactly n) m else Some (Status status)) → m ≡ n
    by_status true none = by_length (m == n) refl none
    by_status false none = absurd (cc)

same_part : (s g n t h m : ℕ) (b c : List ℕ) → Part s g n b ≡ Part t h m c → (g ≡ h) × (n ≡ m) × (b ≡ c)
same_part s g n t h m b c same = (cc, cc, cc)

-- what was cut is a part of a body, or of a head
pub part_short : (bytes : List ℕ) (s g n : ℕ) (b : List ℕ) → Reads bytes (Part s g n b) → ((n ≡ 0) × (b ≡ [])) ⊎ ((g < n) × (length b ≡ g))
unfolding Reads
part_short bytes s g n b reads = by_begin (may_be_http bytes) reads
  where
    by_end : (status : ℕ) (after : List ℕ) (m : ℕ) (more : Bool) → nat_lt (length after) m ≡ more
        → Part s g n b ≡ (if more then Part status (length after) m after else Answer status (take m after))
        → ((n ≡ 0) × (b ≡ [])) ⊎ ((g < n) × (length b ≡ g))
    by_end status after m true is same =
        let parts = same_part s g n status (length after) m b after same in
        inr (subst (λ (k : ℕ). g < k) (sym parts.1) (subst (λ (k : ℕ). k < m) (sym parts.0) (ltb-true (length after) m is)), ap length parts.2 ∙ sym parts.0)
    by_end status after m false is same = absurd (cc)

    by_length : (status : ℕ) (after : List ℕ) (found : Option ℕ) → Part s g n b ≡ with_length status after found
        → ((n ≡ 0) × (b ≡ [])) ⊎ ((g < n) × (length b ≡ g))
    by_length status after None same = absurd (cc)
    by_length status after (Some m) same = by_end status after m (nat_lt (length after) m) refl same

    by_head : (front : List ℕ) → ReplyHeads front bytes (Part s g n b) → ((n ≡ 0) × (b ≡ [])) ⊎ ((g < n) × (length b ≡ g))
    by_head front (inl (h, is, same)) = by_length (reply_head_text h).status (drop (reply_head_text h).used bytes) (reply_length (reply_head_text h).fields) same
    by_head front (inr (none, same)) = absurd (cc)

    by_line : (end : Option ℕ) → MatchOption end (Part s g n b ≡ Part 0 (length bytes) 0 []) (λ k. ReplyHeads (take k bytes) bytes (Part s g n b))
        → ((n ≡ 0) × (b ≡ [])) ⊎ ((g < n) × (length b ≡ g))
    by_line None same = let parts = same_part s g n 0 (length bytes) 0 b [] same in inl (parts.1, parts.2)
    by_line (Some k) heads = by_head (take k bytes) heads

    by_begin : (may : Bool) → MatchBool may (MatchOption (empty_end bytes) (Part s g n b ≡ Part 0 (length bytes) 0 []) (λ k. ReplyHeads (take k bytes) bytes (Part s g n b)))
        (Part s g n b ≡ NoReply) → ((n ≡ 0) × (b ≡ [])) ⊎ ((g < n) × (length b ≡ g))
    by_begin true reads = by_line (empty_end bytes) reads
    by_begin false same = absurd (cc)

-- and so is its range
pub cut_body : (bytes : List ℕ) (status got n : ℕ) (body : Span) → IsSpanWithin (length bytes) body
    → Reads bytes (Part status got n (bytes_at bytes body)) → IsCutBody got n body
cut_body bytes status got n body within reads =
    elim (part_short bytes status got n (bytes_at bytes body) reads) [
      | inl none ↦ inl (none.0, omega (arith, span_long bytes body within, ap length none.1, within.0, within.1))
      | inr some ↦ inr (some.0, omega (arith, span_long bytes body within, some.1, within.0, within.1))
    ]
