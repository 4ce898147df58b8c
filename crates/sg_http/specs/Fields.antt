-- What the fields of a head say. A field is its name and its value without blanks (spaces and tabs) at the ends. Names
-- are compared without case (RFC 9110).
use Rattle.std.specs.Prelude.{ℕ, ◌==◌, nat_lt, Bool, true, false, ◌&&◌, ◌||◌, not, List, [], ◌∷◌, length, map, filter, codes, bytes_eq, if◌then◌else◌, Option, Some, None}
use Rattle.std.specs.List.{list_all, list_any, slice_split}
use Rattle.std.specs.Char.{is_ascii_digit}
use Rattle.std.specs.Str.{str_eq_ignore_ascii_case}
use Rattle.std.specs.Str.Parse.{digits_value}
use Rattle.httparse.specs.Ascii.{comma}
use Rattle.httparse.specs.Grammar.{trim_ows}
use Rattle.sg_base.specs.declared.limits.TheConstants.{MAX_BODY}
use Rattle.sg_http.specs.declared.message.Verb.{Verb}
use Rattle.sg_http.specs.declared.message.Verb.TheVariants.{Get, Post, Put, Other}

abbrev pub FieldText : Type 0
FieldText = List ℕ × List ℕ

abbrev pub has_name : List ℕ → FieldText → Bool
has_name name field = str_eq_ignore_ascii_case field.0 name

abbrev pub value_of : FieldText → List ℕ
value_of field = field.1

-- the values of the fields of this name, in their order
abbrev pub values : List ℕ → List FieldText → List (List ℕ)
values name fields = map value_of (filter (has_name name) fields)

abbrev pub is_absent : List (List ℕ) → Bool
is_absent [] = true
is_absent (v ∷ vs) = false

abbrev pub is_repeated : List (List ℕ) → Bool
is_repeated [] = false
is_repeated (v ∷ []) = false
is_repeated (v ∷ w ∷ vs) = true

abbrev pub first_value : List (List ℕ) → Option (List ℕ)
first_value [] = None
first_value (v ∷ vs) = Some v

-- digits alone, one at least
abbrev pub is_number : List ℕ → Bool
is_number value = nat_lt 0 (length value) && list_all is_ascii_digit value

-- more than one length, or one that is no number
abbrev pub is_bad_length : List (List ℕ) → Bool
is_bad_length [] = false
is_bad_length (v ∷ []) = not (is_number v)
is_bad_length (v ∷ w ∷ vs) = true

-- the length of the body, 0 where no field gives one
abbrev pub length_of : List (List ℕ) → ℕ
length_of [] = 0
length_of (v ∷ vs) = digits_value 10 v

-- one of the parts of the value between commas is `close`
abbrev pub asks_to_close : List ℕ → Bool
asks_to_close value =
    list_any (λ part. str_eq_ignore_ascii_case (trim_ows part) (codes "close"))
    (slice_split (λ b. b == comma) value)

-- The message is the last of its connection: it is of HTTP/1.0, or its method is HEAD, or a field Connection says so.
abbrev pub closes : List ℕ → ℕ → List FieldText → Bool
closes method minor fields = (minor == 0)
    || (bytes_eq method (codes "HEAD") || list_any asks_to_close (values (codes "Connection") fields))

-- the method by its name, which has a case
abbrev pub verb_of : List ℕ → Verb
verb_of method =
    if bytes_eq method (codes "GET") then Get
    else (if bytes_eq method (codes "POST") then Post else (if bytes_eq method (codes "PUT") then Put else Other))

-- a method whose message has to give a length
abbrev pub wants_length : Verb → Bool
wants_length Get = false
wants_length Post = true
wants_length Put = true
wants_length Other = false

-- ---- refusals, each by its status

abbrev pub first_fault : Option ℕ → Option ℕ → Option ℕ
first_fault None later = later
first_fault (Some status) later = Some status

-- a coding of the body is not implemented
abbrev pub encoding_fault : List (List ℕ) → Option ℕ
encoding_fault encodings = if is_absent encodings then None else Some 501

abbrev pub length_fault : List (List ℕ) → Option ℕ
length_fault lengths = if is_bad_length lengths then Some 400 else None

abbrev pub key_fault : List (List ℕ) → Option ℕ
key_fault keys = if is_repeated keys then Some 400 else None

-- HTTP/1.1 wants one host, HTTP/1.0 at most one
abbrev pub host_fault : ℕ → List (List ℕ) → Option ℕ
host_fault minor hosts = if is_repeated hosts || (is_absent hosts && minor == 1) then Some 400 else None

abbrev pub size_fault : Verb → List (List ℕ) → Option ℕ
size_fault verb lengths =
    if wants_length verb && is_absent lengths then Some 411
    else (if nat_lt MAX_BODY (length_of lengths) then Some 413 else None)

-- The status with which a head is refused, by its method, its minor version and its fields.
unfoldable pub fault_of : Verb → ℕ → List FieldText → Option ℕ
fault_of verb minor fields =
    first_fault (encoding_fault (values (codes "Transfer-Encoding") fields))
    (first_fault (length_fault (values (codes "Content-Length") fields))
    (first_fault (key_fault (values (codes "Sign-Key") fields))
    (first_fault (host_fault minor (values (codes "Host") fields))
    (size_fault verb (values (codes "Content-Length") fields)))))
