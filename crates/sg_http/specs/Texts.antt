-- The texts of replies and of a player's requests.
use Rattle.std.specs.Prelude.{◌≡◌, ◌≢◌, ℕ, ◌<◌, ◌≤◌, ◌==◌, Bool, true, false, List, [], ◌∷◌, ◌++◌, length, codes, decimal, if◌then◌else◌, Option, Some, None, IsUtf8}
use Rattle.std.specs.List.{list_all}
use Rattle.httparse.specs.Ascii.{space, crlf_bytes}
use Rattle.httparse.specs.Grammar.{is_uri_byte, is_value_byte, trim_ows}
use Rattle.sg_base.specs.declared.limits.TheConstants.{MAX_HEAD, MAX_BODY}
use Rattle.sg_http.specs.declared.message.Verb.{Verb}
use Rattle.sg_http.specs.declared.message.Verb.TheVariants.{Get, Post, Put, Other}
use Rattle.sg_http.specs.declared.reply.Form.{Form}
use Rattle.sg_http.specs.declared.reply.Form.TheVariants.{Json, Octets, Csv}

-- each line with CR LF at its end
abbrev pub lines_text : List (List ℕ) → List ℕ
lines_text [] = []
lines_text (line ∷ lines) = line ++ (crlf_bytes ++ lines_text lines)

-- the lines, and the empty line
abbrev pub head_lines : List (List ℕ) → List ℕ
head_lines lines = lines_text lines ++ crlf_bytes

abbrev pub verb_name : Verb → List ℕ
verb_name Get = codes "GET"
verb_name Post = codes "POST"
verb_name Put = codes "PUT"
verb_name Other = []

-- ---- a reply

-- The phrase of a status of this project's replies; there is none of another status.
unfoldable pub reason : ℕ → List ℕ
reason status =
    if status == 200 then codes "OK"
    else (if status == 400 then codes "Bad Request"
    else (if status == 403 then codes "Forbidden"
    else (if status == 404 then codes "Not Found"
    else (if status == 405 then codes "Method Not Allowed"
    else (if status == 409 then codes "Conflict"
    else (if status == 411 then codes "Length Required"
    else (if status == 413 then codes "Payload Too Large"
    else (if status == 416 then codes "Range Not Satisfiable"
    else (if status == 422 then codes "Unprocessable Entity"
    else (if status == 431 then codes "Request Header Fields Too Large"
    else (if status == 501 then codes "Not Implemented"
    else (if status == 503 then codes "Service Unavailable"
    else (if status == 507 then codes "Insufficient Storage"
    else [])))))))))))))

-- a status that a reply may have
abbrev pub IsStatus : ℕ → Type 0
IsStatus status = 0 < length (reason status)

-- a method is allowed exactly where the status says that another one was used
abbrev pub IsAllow : ℕ → Option Verb → Type 0
IsAllow status None = status ≢ 405
IsAllow status (Some verb) = (status ≡ 405) × (verb ≢ Other)

abbrev pub form_name : Form → List ℕ
form_name Json = codes "application/json"
form_name Octets = codes "application/octet-stream"
form_name Csv = codes "text/csv"

abbrev pub status_line : ℕ → List ℕ
status_line status = codes "HTTP/1.1 " ++ (decimal status ++ (space ∷ reason status))

abbrev pub type_line : Form → List ℕ
type_line form = codes "Content-Type: " ++ form_name form

abbrev pub length_line : ℕ → List ℕ
length_line n = codes "Content-Length: " ++ decimal n

abbrev pub close_line : List ℕ
close_line = codes "Connection: close"

abbrev pub allow_lines : Option Verb → List (List ℕ)
allow_lines None = []
allow_lines (Some verb) = (codes "Allow: " ++ verb_name verb) ∷ []

abbrev pub close_lines : Bool → List (List ℕ)
close_lines true = close_line ∷ []
close_lines false = []

-- the lines of a reply's head, with the length of its body
abbrev pub reply_lines : ℕ → Form → Option Verb → ℕ → Bool → List (List ℕ)
reply_lines status form allow n close =
    status_line status ∷ type_line form ∷ length_line n ∷ (allow_lines allow ++ close_lines close)

abbrev pub reply_head : ℕ → Form → Option Verb → ℕ → Bool → List ℕ
reply_head status form allow n close = head_lines (reply_lines status form allow n close)

abbrev pub reply_text : ℕ → Form → Option Verb → List ℕ → Bool → List ℕ
reply_text status form allow body close = reply_head status form allow (length body) close ++ body

-- ---- a player's request

abbrev pub length_lines : Option (List ℕ) → List (List ℕ)
length_lines None = []
length_lines (Some body) = length_line (length body) ∷ []

abbrev pub body_bytes : Option (List ℕ) → List ℕ
body_bytes None = []
body_bytes (Some body) = body

-- the lines of the head of a request; one with a body says how long it is
abbrev pub request_lines : Verb → List ℕ → List ℕ → Option (List ℕ) → List (List ℕ)
request_lines verb path key body =
    (verb_name verb ++ (space ∷ (path ++ codes " HTTP/1.1")))
    ∷ codes "Host: signage"
    ∷ (codes "Sign-Key: " ++ key)
    ∷ close_line
    ∷ length_lines body

abbrev pub request_text : Verb → List ℕ → List ℕ → Option (List ℕ) → List ℕ
request_text verb path key body = head_lines (request_lines verb path key body) ++ body_bytes body

-- a method with a body has one, and GET has none
abbrev pub IsBodyOf : Verb → Option (List ℕ) → Type 0
IsBodyOf Get body = body ≡ None
IsBodyOf Post body = body ≢ None
IsBodyOf Put body = body ≢ None
IsBodyOf Other body = ⊥

-- A request that is read as what it is: its path is a target of the grammar, its key has no blanks at its ends, and it
-- has no more bytes than a message may have.
pub record IsSendable (verb : Verb) (path key : List ℕ) (body : Option (List ℕ)) : Type 0 where
  pub method : IsBodyOf verb body
  pub some : 0 < length path
  pub target : list_all is_uri_byte path ≡ true
  pub text : IsUtf8 path
  pub value : list_all is_value_byte key ≡ true
  pub trimmed : trim_ows key ≡ key
  pub head : length (head_lines (request_lines verb path key body)) ≤ MAX_HEAD
  pub size : length (body_bytes body) ≤ MAX_BODY
