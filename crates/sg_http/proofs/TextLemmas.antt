-- Texts put together piece by piece.
use Rattle.std.proofs.Common.{◌≡◌, ℕ, List, [], ◌∷◌, ◌++◌, refl, append_assoc, codes}
use Rattle.httparse.specs.Ascii.{crlf_bytes, space}
use Rattle.sg_http.specs.Texts.{lines_text, head_lines, close_line}

pub lines-append : (a b : List (List ℕ)) → lines_text (a ++ b) ≡ lines_text a ++ lines_text b
lines-append [] b = refl
lines-append (line ∷ a) b =
    let more = lines-append a b in rw more (simp append_assoc)

-- a head of three lines, and those that may be there
pub head_made : (s t l : List ℕ) (a b : List (List ℕ)) (h₁ h₂ h₃ h₄ h₅ h₆ : List ℕ)
    → h₁ ≡ lines_text (s ∷ []) → h₂ ≡ h₁ ++ lines_text (t ∷ []) → h₃ ≡ h₂ ++ lines_text (l ∷ [])
    → h₄ ≡ h₃ ++ lines_text a → h₅ ≡ h₄ ++ lines_text b → h₆ ≡ h₅ ++ crlf_bytes
    → h₆ ≡ head_lines (s ∷ t ∷ l ∷ (a ++ b))
head_made s t l a b h₁ h₂ h₃ h₄ h₅ h₆ e₁ e₂ e₃ e₄ e₅ e₆ =
    rw (e₆, e₅, e₄, e₃, e₂, e₁, lines-append a b) (simp append_assoc)

-- a request by its parts
pub request_made : (verb path key : List ℕ) (lines : List (List ℕ)) (body : List ℕ) (t₁ t₂ t₃ t₄ t₅ t₆ t₇ t₈ t₉ : List ℕ)
    → t₁ ≡ verb → t₂ ≡ t₁ ++ codes " " → t₃ ≡ t₂ ++ path → t₄ ≡ t₃ ++ codes " HTTP/1.1\r\nHost: signage\r\nSign-Key: "
    → t₅ ≡ t₄ ++ key → t₆ ≡ t₅ ++ codes "\r\nConnection: close\r\n" → t₇ ≡ t₆ ++ lines_text lines → t₈ ≡ t₇ ++ crlf_bytes
    → t₉ ≡ t₈ ++ body
    → t₉ ≡ head_lines ((verb ++ (space ∷ (path ++ codes " HTTP/1.1"))) ∷ codes "Host: signage"
    ∷ (codes "Sign-Key: " ++ key) ∷ close_line ∷ lines) ++ body
request_made verb path key lines body t₁ t₂ t₃ t₄ t₅ t₆ t₇ t₈ t₉ e₁ e₂ e₃ e₄ e₅ e₆ e₇ e₈ e₉ =
    rw (e₉, e₈, e₇, e₆, e₅, e₄, e₃, e₂, e₁) (simp append_assoc)
