-- The statuses of refusals are those of replies.
use Rattle.std.proofs.Common.{◌≡◌, ℕ, ◌+◌, Bool, true, false, List, length, take, drop, arith, inl, inr, Option, Some, None, if◌then◌else◌, nat_lt}
use Rattle.std.specs.Prelude.{◌≢◌, IfSome, MatchOption, ◌&&◌, ◌||◌, ◌==◌, codes}
use Rattle.sg_base.specs.declared.limits.TheConstants.{MAX_BODY, MAX_HEAD}
use Rattle.sg_http.specs.declared.message.Verb.{Verb}
use Rattle.sg_http.specs.Head.{head_end}
use Rattle.sg_http.specs.Fields.{FieldText, fault_of, first_fault, values, verb_of, is_absent, is_bad_length, is_repeated, length_of, wants_length}
use Rattle.sg_http.specs.Messages.{Heads, Opening, Opens, Request, Unfinished, Whole, Bad, body_length, head_text, or_bad, request_of}
use Rattle.sg_http.specs.Texts.{IsStatus, reason}

pub record IsRefusal (status : ℕ) : Type 0 where
  pub phrase : IsStatus status
  pub allow : status ≢ 405

refusal_400 : IsRefusal 400
unfolding reason
refusal_400 = record { phrase = omega arith; allow = λ e. absurd (omega (arith, e)) }

refusal_411 : IsRefusal 411
unfolding reason
refusal_411 = record { phrase = omega arith; allow = λ e. absurd (omega (arith, e)) }

refusal_413 : IsRefusal 413
unfolding reason
refusal_413 = record { phrase = omega arith; allow = λ e. absurd (omega (arith, e)) }

refusal_431 : IsRefusal 431
unfolding reason
refusal_431 = record { phrase = omega arith; allow = λ e. absurd (omega (arith, e)) }

refusal_501 : IsRefusal 501
unfolding reason
refusal_501 = record { phrase = omega arith; allow = λ e. absurd (omega (arith, e)) }

unless : (b : Bool) (status : ℕ) → IsRefusal status → IfSome (if b then None else Some status) IsRefusal
unless true status h = tt
unless false status h = h

where_so : (b : Bool) (status : ℕ) (later : Option ℕ) → IsRefusal status → IfSome later IsRefusal → IfSome (if b then Some status else later) IsRefusal
where_so true status later h k = h
where_so false status later h k = k

first_of_two : (a b : Option ℕ) → IfSome a IsRefusal → IfSome b IsRefusal → IfSome (first_fault a b) IsRefusal
first_of_two None b h k = k
first_of_two (Some status) b h k = h

fault_is : (verb : Verb) (minor : ℕ) (fields : List FieldText) → IfSome (fault_of verb minor fields) IsRefusal
unfolding fault_of
fault_is verb minor fields =
    let lengths = values (codes "Content-Length") fields in
    let hosts = values (codes "Host") fields in
    first_of_two _ _ (unless (is_absent (values (codes "Transfer-Encoding") fields)) 501 refusal_501)
    (first_of_two _ _ (where_so (is_bad_length lengths) 400 None refusal_400 tt)
    (first_of_two _ _ (where_so (is_repeated (values (codes "Sign-Key") fields)) 400 None refusal_400 tt)
    (first_of_two _ _ (where_so (is_repeated hosts || (is_absent hosts && minor == 1)) 400 None refusal_400 tt)
    (where_so (wants_length verb && is_absent lengths) 411 _ refusal_411
    (where_so (nat_lt MAX_BODY (length_of lengths)) 413 None refusal_413 tt)))))

judged_is : (fault : Option ℕ) (few : Bool) (whole : Opening) (status : ℕ) → (whole ≡ Bad status → ⊥) → IfSome fault IsRefusal
    → Bad status ≡ or_bad fault (if few then Unfinished else whole) → IsRefusal status
judged_is None true whole status not h e = absurd (cc)
judged_is None false whole status not h e = absurd (not (cc))
judged_is (Some fault) few whole status not h e = let same : status ≡ fault = cc in rw same h

whole_not_bad : (m : Request) (used status : ℕ) → Whole m used ≡ Bad status → ⊥
whole_not_bad m used status e = cc

pub bad_status : (stream : List ℕ) (status : ℕ) → Opens stream (Bad status) → IsRefusal status
unfolding Opens
bad_status stream status opens = by_end (head_end (take MAX_HEAD stream)) opens
  where
    by_length : (short : Bool) → Bad status ≡ (if short then Unfinished else Bad 431) → IsRefusal status
    by_length true e = absurd (cc)
    by_length false e = let same : status ≡ 431 = cc in rw same refusal_431

    by_heads : (n : ℕ) → Heads (take n stream) stream (Bad status) → IsRefusal status
    by_heads n (inl x) =
        let h = head_text x.0 in
        let after = drop h.used stream in
        judged_is (fault_of (verb_of h.method) h.minor h.fields) (nat_lt (length after) (body_length h))
        (Whole (request_of h (take (body_length h) after)) (h.used + body_length h)) status
        (whole_not_bad _ _ status) (fault_is (verb_of h.method) h.minor h.fields) x.2
    by_heads n (inr x) = let same : status ≡ 400 = cc in rw same refusal_400

    by_end : (end : Option ℕ)
        → MatchOption end (Bad status ≡ (if nat_lt (length stream) MAX_HEAD then Unfinished else Bad 431)) (λ n. Heads (take n stream) stream (Bad status))
        → IsRefusal status
    by_end None e = by_length _ e
    by_end (Some n) h = by_heads n h
