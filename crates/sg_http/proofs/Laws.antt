-- A stream begins with one thing, and a message or a refusal stays, however the stream goes on.
use Rattle.std.proofs.Common.{◌≡◌, ℕ, ◌+◌, ◌-◌, ◌<◌, ◌≤◌, nat_lt, true, false, List, [], ◌∷◌, ◌++◌, length, take, drop, refl, sym, ap, ◌∙◌, subst, arith, inl, inr, ◌⊎◌, Option, Some, None, if◌then◌else◌}
use Rattle.std.specs.Prelude.{◌≢◌, MatchOption}
use Rattle.std.proofs.lemmas.Bool.{lt-ltb, le-ltb, cond-true, cond-false, cases_lt}
use Rattle.std.proofs.lemmas.List.{length-append, length-take, take-append-le, drop-append-le, append-nil, take_all}
use Rattle.std.proofs.Math.Seq.{take-append-add}
use Rattle.httparse.specs.Grammar.{RequestHead, print_request}
use Rattle.httparse.proofs.GrammarLemmas.{request_unique}
use Rattle.sg_base.specs.declared.limits.TheConstants.{MAX_HEAD}
use Rattle.sg_http.specs.Head.{head_end}
use Rattle.sg_http.specs.Messages.{Request, Opening, Whole, Unfinished, Bad, HeadText, head_text, body_length, with_body, or_bad, judged, IsHeadOf, Heads, Opens}
use Rattle.sg_http.specs.Streams.{Messages}
use Rattle.sg_http.specs.Fields.{fault_of, verb_of}
use Rattle.sg_http.proofs.HeadLemmas.{head_end_more, head_end_within}

-- ---- one opening

same_heads : (bytes stream : List ℕ) (a b : Opening) → Heads bytes stream a → Heads bytes stream b → a ≡ b
same_heads bytes stream a b (inl x) (inl y) =
    let one = request_unique bytes x.0 y.0 x.1.rest y.1.rest x.1.reads y.1.reads in
    x.2 ∙ ap (λ (h : RequestHead). judged (head_text h) stream) one.0 ∙ sym y.2
same_heads bytes stream a b (inl x) (inr y) = absurd (y.0 x.0 x.1)
same_heads bytes stream a b (inr x) (inl y) = absurd (x.0 y.0 y.1)
same_heads bytes stream a b (inr x) (inr y) = x.1 ∙ sym y.1

pub opens_one : (s : List ℕ) (a b : Opening) → Opens s a → Opens s b → a ≡ b
unfolding Opens
opens_one s a b x y = by_end (head_end (take MAX_HEAD s)) x y
  where
    by_end : (end : Option ℕ)
        → MatchOption end (a ≡ (if nat_lt (length s) MAX_HEAD then Unfinished else Bad 431)) (λ n. Heads (take n s) s a)
        → MatchOption end (b ≡ (if nat_lt (length s) MAX_HEAD then Unfinished else Bad 431)) (λ n. Heads (take n s) s b)
        → a ≡ b
    by_end None x y = x ∙ sym y
    by_end (Some n) x y = same_heads (take n s) s a b x y

-- ---- whatever follows

-- how a stream opens by the end of its head
pub opens_none : (s : List ℕ) (o : Opening) → head_end (take MAX_HEAD s) ≡ None
    → o ≡ (if nat_lt (length s) MAX_HEAD then Unfinished else Bad 431) → Opens s o
unfolding Opens
opens_none s o none is = rw none is

pub opens_some : (s : List ℕ) (o : Opening) (n : ℕ) → head_end (take MAX_HEAD s) ≡ Some n → Heads (take n s) s o → Opens s o
unfolding Opens
opens_some s o n end heads = rw end heads

-- the first bytes of a longer stream are those of the stream and then others, or none
pub front_more : (n : ℕ) (s more : List ℕ) → (later : List ℕ) × (take n (s ++ more) ≡ take n s ++ later)
front_more n s more = by_length (cases_lt (length s) n)
  where
    by_length : (length s < n) ⊎ (n ≤ length s) → (later : List ℕ) × (take n (s ++ more) ≡ take n s ++ later)
    by_length (inl short) =
        let k = n - length s in
        let e : length s + k ≡ n = omega arith in
        let all : take n s ≡ s = take_all n s (omega arith) in
        let P : ℕ → Type 0 = λ m. take m (s ++ more) ≡ s ++ take k more in
        (take k more, rw all (subst P e (take-append-add s more k)))
    by_length (inr long) = ([], take-append-le n s more long ∙ sym (append-nil (take n s)))

-- the end of the head stays, and so do the bytes up to it
pub end_more : (s more : List ℕ) (n : ℕ) → head_end (take MAX_HEAD s) ≡ Some n
    → (head_end (take MAX_HEAD (s ++ more)) ≡ Some n) × (take n (s ++ more) ≡ take n s) × (n ≤ length s)
end_more s more n end =
    let front = front_more MAX_HEAD s more in
    let within = head_end_within (take MAX_HEAD s) n end in
    let inside : n ≤ length s = omega (arith, length-take MAX_HEAD s) in
    let stays : head_end (take MAX_HEAD (s ++ more)) ≡ Some n = rw (front.1) (head_end_more (take MAX_HEAD s) front.0 n end) in
    (stays, take-append-le n s more inside, inside)

-- a message that is whole stays as it is
pub with_body_more : (h : HeadText) (after more : List ℕ) → body_length h ≤ length after
    → with_body h (after ++ more) ≡ with_body h after
with_body_more h after more whole =
    let n = body_length h in
    let long : nat_lt (length after) n ≡ false = le-ltb _ _ whole in
    let longer : nat_lt (length (after ++ more)) n ≡ false = le-ltb _ _ (omega (arith, length-append after more)) in
    rw (long, longer, take-append-le n after more whole) refl

pub judged_more : (h : HeadText) (s more : List ℕ) (o : Opening) → h.used ≤ length s → o ≢ Unfinished → o ≡ judged h s
    → o ≡ judged h (s ++ more)
judged_more h s more o within found is = by_fault (fault_of (verb_of h.method) h.minor h.fields) is
  where
    by_length : (length (drop h.used s) < body_length h) ⊎ (body_length h ≤ length (drop h.used s)) → o ≡ with_body h (drop h.used s)
        → o ≡ with_body h (drop h.used (s ++ more))
    by_length (inr whole) is = rw (drop-append-le h.used s more within, with_body_more h (drop h.used s) more whole) is
    by_length (inl short) is = absurd (found (is ∙ cond-true _ _ _ (lt-ltb _ _ short)))

    by_fault : (fault : Option ℕ) → o ≡ or_bad fault (with_body h (drop h.used s)) → o ≡ or_bad fault (with_body h (drop h.used (s ++ more)))
    by_fault (Some status) is = is
    by_fault None is = by_length (cases_lt (length (drop h.used s)) (body_length h)) is

used_within : (bytes : List ℕ) (h : RequestHead) → IsHeadOf bytes h → (head_text h).used ≤ length bytes
used_within bytes h is = omega (arith, ap length is.reads.1, length-append (print_request h) is.rest)

heads_more : (s more : List ℕ) (n : ℕ) (o : Opening) → n ≤ length s → o ≢ Unfinished → Heads (take n s) s o
    → Heads (take n s) (s ++ more) o
heads_more s more n o within found (inl x) =
    let used : (head_text x.0).used ≤ length s = omega (arith, used_within (take n s) x.0 x.1, length-take n s) in
    inl (x.0, x.1, judged_more (head_text x.0) s more o used found x.2)
heads_more s more n o within found (inr x) = inr x

pub opens_more : (s more : List ℕ) (o : Opening) → o ≢ Unfinished → Opens s o → Opens (s ++ more) o
unfolding Opens
opens_more s more o found opens = by_end (head_end (take MAX_HEAD s)) refl opens
  where
    by_end : (end : Option ℕ) → head_end (take MAX_HEAD s) ≡ end
        → MatchOption end (o ≡ (if nat_lt (length s) MAX_HEAD then Unfinished else Bad 431)) (λ n. Heads (take n s) s o)
        → Opens (s ++ more) o
    by_end None end is = by_length (cases_lt (length s) MAX_HEAD)
      where
        by_length : (length s < MAX_HEAD) ⊎ (MAX_HEAD ≤ length s) → Opens (s ++ more) o
        by_length (inl short) = absurd (found (is ∙ cond-true _ _ _ (lt-ltb _ _ short)))
        by_length (inr long) =
            let same : head_end (take MAX_HEAD (s ++ more)) ≡ None = rw (take-append-le MAX_HEAD s more long) end in
            let longer : MAX_HEAD ≤ length (s ++ more) = omega (arith, length-append s more) in
            opens_none (s ++ more) o same
            (is ∙ cond-false _ _ _ (le-ltb _ _ long) ∙ sym (cond-false _ _ _ (le-ltb _ _ longer)))
    by_end (Some n) end heads =
        let later = end_more s more n end in
        let there : Heads (take n (s ++ more)) (s ++ more) o = rw later.1 (heads_more s more n o later.2 found heads) in
        opens_some (s ++ more) o n later.0 there

-- ---- one message of a connection

pub one_message : (request taken left : List ℕ) (m : Request) (used : ℕ) (ms : List Request) (rest : List ℕ)
    → Opens request (Whole m used) → m.close ≡ true → request ≡ taken ++ left → Messages taken ms rest
    → (ms ≡ []) ⊎ (ms ≡ m ∷ [])
one_message request taken left m used [] rest opens closes split are = inl refl
one_message request taken left m used (k ∷ ks) rest opens closes split are =
    let P : List ℕ → Type 0 = λ l. Opens l (Whole m used) in
    let longer = opens_more taken left (Whole k are.0) (λ e. cc) are.1 in
    let same : Whole k are.0 ≡ Whole m used = opens_one (taken ++ left) (Whole k are.0) (Whole m used) longer (subst P split opens) in
    let it : k ≡ m = cc in
    let last : ks ≡ [] = are.3 (ap (λ (r : Request). r.close) it ∙ closes) in
    inr (rw (it, last) refl)
