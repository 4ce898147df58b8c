-- From the places of a head's parts to what the stream begins with.
use Rattle.std.proofs.Common.{lit≤, length-append, ◌≡◌, ℕ, ◌+◌, ◌-◌, ◌<◌, ◌≤◌, nat_lt, Bool, false, List, [], ◌++◌, length, take, drop, refl, sym, ap, ◌∙◌, subst, arith, inl, inr, ◌⊎◌, min, Option, Some, None, option_map, codes}
use Rattle.std.specs.Prelude.{slice_range, MatchOption}
use Rattle.std.proofs.lemmas.Bool.{lt-ltb, le-ltb, cond-true, cond-false, cases_lt}
use Rattle.std.proofs.lemmas.List.{append_assoc, append-nil, length-take, length-drop, length-map, length-take-le, take-append-le, take-append-drop, drop-append-le, take_all, take_min}
use Rattle.std.proofs.Math.Seq.{take-append-add}
use Rattle.httparse.specs.declared.spans.HeaderSpan.{HeaderSpan}
use Rattle.httparse.specs.declared.spans.RequestSpans.{RequestSpans}
use Rattle.httparse.specs.Grammar.{RequestHead}
use Rattle.httparse.specs.Spans.{IsRequestAt, RequestOverflows}
use Rattle.httparse.proofs.RunLemmas.{length-slice_range}
use Rattle.sg_base.specs.declared.limits.TheConstants.{MAX_HEAD, MAX_FIELDS}
use Rattle.sg_http.specs.declared.message.Verb.{Verb}
use Rattle.sg_http.specs.declared.message.Span.{Span}
use Rattle.sg_http.specs.declared.message.Next.TheVariants.{Message}
use Rattle.sg_http.specs.declared.next.Look.{Look}
use Rattle.sg_http.specs.declared.next.Look.TheVariants.{Found, InHead, InBody}
use Rattle.sg_http.specs.Head.{head_end}
use Rattle.sg_http.specs.Fields.{values, first_value, verb_of, closes, fault_of}
use Rattle.sg_http.specs.Messages.{Opening, Whole, Unfinished, Bad, HeadText, head_text, request_of, body_length, judged, seen, bytes_at, IsSpanWithin, IsHeadOf, HasNoHead, Opens}
use Rattle.sg_http.specs.Places.{text_at, IsKeyOf, Judges}
use Rattle.sg_http.specs.declared.search.Progress.{Progress}
use Rattle.sg_http.specs.declared.search.Search.TheVariants.{Ended, GoesOn}
use Rattle.sg_http.specs.Search.{end_from, IsSearched, IsKnown, Searches, Looks}
use Rattle.sg_http.proofs.Laws.{opens_none, opens_some, end_more}
use Rattle.sg_http.proofs.SearchLemmas.{where_nothing_follows, from_start}

-- a range of a front is one of the stream
pub part_in_front : (stream : List ℕ) (n from to : ℕ) → from ≤ to → to ≤ n
    → slice_range (take n stream) from to ≡ slice_range stream from to
part_in_front stream n from to ordered within = by_length (cases_lt (length stream) n)
  where
    by_length : (length stream < n) ⊎ (n ≤ length stream) → slice_range (take n stream) from to ≡ slice_range stream from to
    by_length (inl short) = rw (take_all n stream (omega arith)) refl
    by_length (inr long) =
        let front = take n stream in
        let rest = drop n stream in
        let size : length front ≡ n = length-take-le n stream long in
        let before : drop from (front ++ rest) ≡ drop from front ++ rest = drop-append-le from front rest (omega arith) in
        let part : take (to - from) (drop from front ++ rest) ≡ take (to - from) (drop from front) =
        take-append-le (to - from) (drop from front) rest (omega (arith, length-drop from front)) in
        let P : List ℕ → Type 0 = λ l. take (to - from) (drop from front) ≡ take (to - from) (drop from l) in
        subst P (take-append-drop n stream) (sym (rw before part))

-- the message of a head without a fault whose body is there
pub judged_whole : (h : HeadText) (stream : List ℕ) (n : ℕ) → fault_of (verb_of h.method) h.minor h.fields ≡ None
    → n ≡ body_length h → h.used + n ≤ length stream
    → judged h stream ≡ Whole (request_of h (slice_range stream h.used (h.used + n))) (h.used + n)
judged_whole h stream n fault is whole =
    let there : body_length h ≤ length (drop h.used stream) = omega (arith, length-drop h.used stream) in
    let test : nat_lt (length (drop h.used stream)) (body_length h) ≡ false = le-ltb _ _ there in
    let n_is : h.used + n - h.used ≡ body_length h = omega arith in
    rw (fault, test, n_is, is) refl

-- a key by its place
pub key_is : (stream head : List ℕ) (keys : List (List ℕ)) (key : Option Span) → head ≡ take (length head) stream
    → IsKeyOf head keys key → first_value keys ≡ option_map (bytes_at stream) key
key_is stream head keys None front is = rw is refl
key_is stream head keys (Some span) front is =
    let same : bytes_at head span ≡ bytes_at stream span =
    ap (λ (l : List ℕ). slice_range l span.from span.to) front ∙ part_in_front stream (length head) span.from span.to is.1.0 is.1.1 in
    rw is.0 (ap Some same)

pub key_within : (head : List ℕ) (n : ℕ) (keys : List (List ℕ)) (key : Option Span) → length head ≤ n
    → IsKeyOf head keys key → MatchOption key (Unit {0}) (IsSpanWithin n)
key_within head n keys None short is = tt
key_within head n keys (Some span) short is = (is.1.0, omega arith)

-- a message by its places
pub judged_message : (stream head : List ℕ) (h : HeadText) (verb : Verb) (target : Span) (key : Option Span) (n : ℕ) (close : Bool)
    → head ≡ take (length head) stream → verb ≡ verb_of h.method → fault_of verb h.minor h.fields ≡ None
    → n ≡ body_length h → h.used + n ≤ length stream → IsSpanWithin (length head) target → bytes_at head target ≡ h.target
    → IsKeyOf head (values (codes "Sign-Key") h.fields) key → close ≡ closes h.method h.minor h.fields
    → judged h stream
    ≡ seen stream (Message verb target key (record { from = h.used; to = h.used + n }) close (h.used + n))
judged_message stream head h verb target key n close front verb_is fault n_is whole target_in target_is keys close_is =
    let no_fault : fault_of (verb_of h.method) h.minor h.fields ≡ None =
    subst (λ (v : Verb). fault_of v h.minor h.fields ≡ None) verb_is fault in
    let there : h.target ≡ bytes_at stream target = sym target_is
    ∙ ap (λ (l : List ℕ). slice_range l target.from target.to) front
    ∙ part_in_front stream (length head) target.from target.to target_in.0 target_in.1 in
    let key_there = key_is stream head (values (codes "Sign-Key") h.fields) key front keys in
    let verb_there = sym verb_is in
    let close_there = sym close_is in
    let body = slice_range stream h.used (h.used + n) in
    judged_whole h stream n no_fault n_is whole
    ∙ (λ i. Whole (record {
      method = verb_there i;
      target = there i;
      key = key_there i;
      body = body;
      close = close_there i;
    }) (h.used + n))

-- ---- the head that the parser found

-- its parts by their places are its parts
pub same_text : (head : List ℕ) (headers : List HeaderSpan) (parts : RequestSpans) (h : RequestHead)
    → IsRequestAt head headers parts h → text_at head (take parts.headers headers) parts ≡ head_text h
same_text head headers parts h is = λ i. record {
  method = is.method i;
  target = is.path i;
  minor = is.version i;
  fields = is.fields i;
  used = is.len i;
}

pub few_fields : (head : List ℕ) (headers : List HeaderSpan) (parts : RequestSpans) (h : RequestHead)
    → length headers ≡ MAX_FIELDS → IsRequestAt head headers parts h → length h.fields ≤ MAX_FIELDS
few_fields head headers parts h room is =
    omega (arith, simp length-map at (ap length is.fields), length-take parts.headers headers)

-- a head is not empty
pub some_head : (head : List ℕ) (headers : List HeaderSpan) (parts : RequestSpans) (h : RequestHead)
    → IsRequestAt head headers parts h → parts.method.end ≤ length head → parts.method.start ≤ parts.method.end
    → parts.method.end ≤ parts.len → 0 < parts.len
some_head head headers parts h is inside ordered within =
    let some = is.reads.0.method.0 in
    omega (arith, ap length is.method, length-slice_range head parts.method.start parts.method.end ordered inside, some)

-- what is found of a stream with this head is what a look finds
pub looks_whole : (stream : List ℕ) (end : ℕ) (headers : List HeaderSpan) (parts : RequestSpans) (h : RequestHead) (look : Look)
    → head_end (take MAX_HEAD stream) ≡ Some end → length headers ≡ MAX_FIELDS
    → IsRequestAt (take end stream) headers parts h
    → Judges (text_at (take end stream) (take parts.headers headers) parts) stream look → Looks stream look
looks_whole stream end headers parts h look found room is judges =
    by_look look (subst (λ (t : HeadText). Judges t stream look) (same_text (take end stream) headers parts h is) judges)
  where
    head : (bytes : List ℕ) → take end bytes ≡ take end stream → IsHeadOf (take end bytes) h
    head bytes same = rw same (record {
      rest = drop parts.len (take end stream);
      reads = is.reads;
      few = few_fields (take end stream) headers parts h room is;
    })

    opens : (bytes : List ℕ) (o : Opening) → head_end (take MAX_HEAD bytes) ≡ Some end → take end bytes ≡ take end stream
        → o ≡ judged (head_text h) bytes → Opens bytes o
    opens bytes o found same is = opens_some bytes o end found (inl (h, head bytes same, is))

    by_look : (look : Look) → Judges (head_text h) stream look → Looks stream look
    by_look (Found next) judges = (opens stream (seen stream next) found refl (sym judges.0), judges.1, judges.2)
    by_look (InHead progress) judges = absurd judges
    by_look (InBody total) judges = (
      judges.0,
      judges.1,
      λ more short. let later = end_more stream more end found in
          opens (stream ++ more) Unfinished later.0 later.1 (sym (judges.2 more short)),
    )

-- where no front of the bytes is a head, the stream is refused
pub looks_none : (stream : List ℕ) (end : ℕ) → head_end (take MAX_HEAD stream) ≡ Some end → HasNoHead (take end stream)
    → Opens stream (Bad 400)
looks_none stream end found none = opens_some stream (Bad 400) end found (inr (none, refl))

-- where the parser ran out of room, each head has too many fields
pub overflows_none : (bytes : List ℕ) → RequestOverflows MAX_FIELDS bytes → HasNoHead bytes
overflows_none bytes over h is =
    let none : bytes ++ [] ≡ bytes = append-nil bytes in
    let many : MAX_FIELDS < length h.fields = over [] h is.rest (rw none is.reads) in
    let few : length h.fields ≤ MAX_FIELDS = is.few in
    absurd (omega arith)

-- ---- the search for the end of the head, over the first bytes of a stream

pub front_is : (stream : List ℕ) (n limit : ℕ) → n ≡ min (length stream) limit → take n stream ≡ take limit stream
front_is stream n limit is =
    let same : n ≡ min limit (length stream) = omega arith in rw same (take_min limit stream)

pub first_of : (n : ℕ) (front rest : List ℕ) → length front ≤ n
    → take n (front ++ rest) ≡ front ++ take (n - length front) rest
first_of n front rest short =
    let k = n - length front in
    let all : length front + k ≡ n = omega arith in
    let P : ℕ → Type 0 = λ m. take m (front ++ rest) ≡ front ++ take k rest in
    subst P all (take-append-add front rest k)

longer_front : (front later : List ℕ) (progress : Progress) → IsSearched front progress → IsSearched (front ++ later) progress
longer_front front later progress searched =
    let within : progress.at ≤ length (front ++ later) = omega (arith, searched.0, length-append front later) in
    (within, λ more. rw (append_assoc front later more) (searched.1 (later ++ more)))

-- what is known of a front is known of the first bytes of the stream
pub known_front : (stream : List ℕ) (progress : Progress) → IsKnown stream progress
    → IsSearched (take MAX_HEAD stream) progress
known_front stream progress known =
    let first = first_of MAX_HEAD known.front known.rest known.short in
    let P : List ℕ → Type 0 = λ bytes. IsSearched bytes progress in
    subst P (sym (ap (take MAX_HEAD) known.split ∙ first)) (longer_front known.front _ progress known.searched)

-- nothing is known of any stream
pub known_none : (stream : List ℕ) → IsKnown stream (record { at = 0; begun = false })
known_none stream = record {
  front = [];
  rest = stream;
  split = refl;
  short = lit≤ tt;
  searched = (lit≤ tt, λ more. sym (from_start (head_end more)));
}

pub end_found : (bytes : List ℕ) (progress : Progress) (end : ℕ) → IsSearched bytes progress
    → Searches bytes progress.begun progress.at (Ended end) → head_end bytes ≡ Some end
end_found bytes progress end searched found =
    let P : List ℕ → Type 0 = λ all. head_end all ≡ Some end in
    subst P (append-nil bytes) (searched.1 [] ∙ found.1 [])

pub none_found : (bytes : List ℕ) (progress later : Progress) → IsSearched bytes progress
    → Searches bytes progress.begun progress.at (GoesOn later) → (head_end bytes ≡ None) × IsSearched bytes later
none_found bytes progress later searched found = (
  where_nothing_follows head_end (end_from progress.begun progress.at) bytes searched.1 ∙ found.1,
  (found.0, λ more. searched.1 more ∙ found.2 more),
)

-- a stream that is too short to be refused
pub opens_short : (stream : List ℕ) → length stream < MAX_HEAD → head_end stream ≡ None → Opens stream Unfinished
opens_short stream short none =
    let all : take MAX_HEAD stream ≡ stream = take_all MAX_HEAD stream (omega arith) in
    opens_none stream Unfinished (rw all none) (sym (cond-true _ _ _ (lt-ltb _ _ short)))

-- a head that doesn't end in time
pub opens_long : (stream : List ℕ) → MAX_HEAD ≤ length stream → head_end (take MAX_HEAD stream) ≡ None → Opens stream (Bad 431)
opens_long stream long none = opens_none stream (Bad 431) none (sym (cond-false _ _ _ (le-ltb _ _ long)))
