-- What the places of fields say of the bytes in which they lie.
use Rattle.std.specs.Prelude.{◌≡◌, ◌≢◌, ℕ, ◌+◌, ◌<◌, ◌≤◌, min, true, false, List, [], ◌∷◌, ◌++◌, length, map, drop, Option, Some, None, Result, MatchResult, MatchOption}
use Rattle.httparse.specs.declared.spans.HeaderSpan.{HeaderSpan}
use Rattle.httparse.specs.declared.spans.RequestSpans.{RequestSpans}
use Rattle.httparse.specs.declared.spans.ResponseSpans.{ResponseSpans}
use Rattle.httparse.specs.Spans.{span_bytes, header_bytes}
use Rattle.sg_http.specs.declared.fields.Found.{Found}
use Rattle.sg_http.specs.declared.fields.Found.TheVariants.{Absent, Once, Repeated}
use Rattle.sg_base.specs.declared.limits.TheConstants.{MAX_HEAD, MAX_BODY}
use Rattle.sg_http.specs.declared.message.Next.TheVariants.{NeedMore}
use Rattle.sg_http.specs.declared.message.Span.{Span}
use Rattle.sg_http.specs.declared.next.Look.{Look}
use Rattle.sg_http.specs.declared.next.Look.TheVariants.{Found as FoundNext, InHead, InBody}
use Rattle.sg_http.specs.Fields.{FieldText, values, is_absent, is_repeated, length_of}
use Rattle.sg_http.specs.Messages.{HeadText, Unfinished, judged, seen, bytes_at, IsSpanWithin, IsNextWithin}
use Rattle.sg_http.specs.Replies.{ReplyHeadText}

-- the fields at these places
abbrev pub texts_at : List ℕ → List HeaderSpan → List FieldText
texts_at buf fields = map (header_bytes buf) fields

-- the values of the fields of this name, from the field with this number on
abbrev pub values_from : List ℕ → List ℕ → List HeaderSpan → ℕ → List (List ℕ)
values_from buf name fields i = values name (texts_at buf (drop i fields))

-- what was found of these values: none; the one, by its place; or more
abbrev pub Finds : List ℕ → List (List ℕ) → Found → Type 0
Finds buf vs Absent = vs ≡ []
Finds buf vs (Once span) = (vs ≡ bytes_at buf span ∷ []) × IsSpanWithin (length buf) span
Finds buf vs Repeated = is_repeated vs ≡ true

-- the refusal is this fault, and without a refusal there is none
abbrev pub IsFault : {A : Type 0} → Option ℕ → Result A ℕ → Type 0
IsFault fault result = MatchResult result (λ _. fault ≡ None) (λ status. fault ≡ Some status)

-- the place covers the one value; there is no place where there is no value
abbrev pub IsKeyOf : List ℕ → List (List ℕ) → Option Span → Type 0
IsKeyOf buf keys key = MatchOption key (keys ≡ []) (λ span. (keys ≡ bytes_at buf span ∷ []) × IsSpanWithin (length buf) span)

-- the length that is given, cut at one more than the limit
abbrev pub IsCutLength : List (List ℕ) → Option ℕ → Type 0
IsCutLength lengths None = lengths ≡ []
IsCutLength lengths (Some n) =
    (is_absent lengths ≡ false) × (n ≡ min (length_of lengths) (MAX_BODY + 1))

-- the parts of a head by their places
abbrev pub text_at : List ℕ → List HeaderSpan → RequestSpans → HeadText
text_at head fields parts = record {
  method = span_bytes head parts.method;
  target = span_bytes head parts.path;
  minor = parts.version;
  fields = texts_at head fields;
  used = parts.len;
}

-- what is found of a stream whose head has these parts
abbrev pub Judges : HeadText → List ℕ → Look → Type 0
Judges h stream (FoundNext next) =
    (judged h stream ≡ seen stream next) × IsNextWithin (length stream) next × (next ≢ NeedMore)
Judges h stream (InHead progress) = ⊥
Judges h stream (InBody total) = (length stream < total) × (total ≤ MAX_HEAD + MAX_BODY)
    × ((more : List ℕ) → length (stream ++ more) < total → judged h (stream ++ more) ≡ Unfinished)

-- the parts of a reply's head by their places
abbrev pub reply_text_at : List ℕ → List HeaderSpan → ResponseSpans → ReplyHeadText
reply_text_at head fields parts = record {
  status = parts.code;
  fields = texts_at head fields;
  used = parts.len;
}
