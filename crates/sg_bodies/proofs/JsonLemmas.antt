-- The JSON of bytes, as it is read.
use Rattle.std.proofs.Common.{◌≡◌, ℕ, List, Bool, true, false, IsTrue, ◌↔◌, refl}
use Rattle.std.specs.Prelude.{IsUtf8, Some, None}
use Rattle.std.specs.Str.{is_utf8}
use Rattle.std.proofs.lemmas.Str.{IsUtf8-from_is_utf8, is_utf8-from_IsUtf8}
use Rattle.serde_json.specs.Data.{Data}
use Rattle.serde_json.specs.Read.{read}
use Rattle.sg_bodies.specs.Bodies.{json_at}

pub some_json : (bytes : List ℕ) (d : Data) → IsUtf8 bytes → read bytes ≡ Some d → json_at bytes ≡ Some d
some_json bytes d utf8 e = rw (is_utf8-from_IsUtf8 bytes utf8, e) refl

none_by : (b : Bool) (bytes : List ℕ) → is_utf8 bytes ≡ b → (IsUtf8 bytes → read bytes ≡ None) → json_at bytes ≡ None
none_by true bytes e none = rw (e, none (IsUtf8-from_is_utf8 bytes e)) refl
none_by false bytes e none = rw e refl

pub no_json : (bytes : List ℕ) → (IsUtf8 bytes → read bytes ≡ None) → json_at bytes ≡ None
no_json bytes none = none_by (is_utf8 bytes) bytes refl none

-- a test that failed says that its fact doesn't hold
pub not_where_false : (P : Type 0) (b : Bool) → IsTrue b ↔ P → b ≡ false → P → ⊥
not_where_false P true d e h = absurd (cc)
not_where_false P false d e h = absurd (let holds : IsTrue false = d.1 h in cc)
