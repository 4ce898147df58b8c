-- A key is UTF-8.
use Rattle.std.proofs.Common.{◌≡◌, ℕ, ◌<◌, true, List, [], ◌∷◌, arith}
use Rattle.std.proofs.lemmas.Bool.{and_parts}
use Rattle.std.proofs.lemmas.Bool.Decides.{nat_tests}
use Rattle.std.proofs.lemmas.Str.{IsUtf8-from_ascii}
use Rattle.std.proofs.lemmas.Str.Ascii.{IsAscii-nil, IsAscii-cons}
use Rattle.std.specs.Prelude.{IsAscii, IsUtf8, IsTrue}
use Rattle.std.specs.Char.{is_ascii_alphanumeric}
use Rattle.std.specs.List.{list_all}
use Rattle.sg_base.specs.Texts.{is_key}

alphanumeric_low : (b : ℕ) → is_ascii_alphanumeric b ≡ true → b < 128
alphanumeric_low b e = grind (arith, nat_tests)

key_ascii : (bs : List ℕ) → list_all is_ascii_alphanumeric bs ≡ true → IsAscii bs
key_ascii [] e = IsAscii-nil
key_ascii (b ∷ bs) e = let parts = and_parts _ _ e in IsAscii-cons b bs (alphanumeric_low b parts.0) (key_ascii bs parts.1)

pub utf8_of_key : (bs : List ℕ) → IsTrue (is_key bs) → IsUtf8 bs
utf8_of_key bs e = let parts = and_parts _ _ e in IsUtf8-from_ascii bs (key_ascii bs parts.1)
