-- Zone rules: their minutes lie within 14 hours of UTC, and their texts are ASCII.
use Rattle.std.proofs.Common.{◌≡◌, ℕ, ◌<◌, ◌≤◌, ◌&&◌, nat_le, Bool, true, false, List, [], ◌∷◌, length, ℤ, pos, negsuc, refl, arith}
use Rattle.std.proofs.lemmas.Int.{ints}
use Rattle.std.proofs.lemmas.Bool.{and_parts, le-ltb, ltb-false}
use Rattle.std.proofs.lemmas.Str.{IsUtf8-from_ascii}
use Rattle.std.proofs.lemmas.Str.Ascii.{IsAscii-nil, IsAscii-cons}
use Rattle.std.specs.Prelude.{nat_lt, IsOk, IsAscii, IsUtf8, Result, Ok, Err}
use Rattle.std.specs.List.{list_all}
use borrow.Author.Tests.{leb-true}
use Rattle.sg_base.specs.declared.zone.ZoneRule.TheVariants.{Offset, Posix}
use Rattle.sg_base.specs.declared.zone.ZoneRule.{ZoneRule}
use Rattle.sg_calendar.specs.Zone.{ZoneView, is_text, zone_of, zone_of_text}
use Rattle.sg_calendar.specs.declared.zone.ZoneFault.{ZoneFault}
use Rattle.sg_base.specs.declared.limits.TheConstants.{MAX_ZONE_TEXT}
use Rattle.sg_rows.specs.Zone.{IsZone, IsMinutes, ArePrintable}
use Rattle.sg_rows.specs.Reading.{telling}

-- minutes within 14 hours are a zone
pub zone_of_minutes : (z : ℤ) → IsMinutes z → IsZone (Offset z)
zone_of_minutes (pos n) h = let most : n ≤ 840 = omega (arith, ints, h.high) in rw (le-ltb 840 n most) refl
zone_of_minutes (negsuc n) h = let most : n ≤ 839 = omega (arith, ints, h.low) in rw (le-ltb 839 n most) refl

positive_minutes : (n : ℕ) (b : Bool) → nat_lt 840 n ≡ b → IsZone (Offset (pos n)) → IsMinutes (pos n)
positive_minutes n true e h = let refused : false ≡ true = rw e at h in absurd (cc)
positive_minutes n false e h = let most = ltb-false 840 n e in record { low = omega (arith, ints); high = omega (arith, ints) }

negative_minutes : (n : ℕ) (b : Bool) → nat_lt 839 n ≡ b → IsZone (Offset (negsuc n)) → IsMinutes (negsuc n)
negative_minutes n true e h = let refused : false ≡ true = rw e at h in absurd (cc)
negative_minutes n false e h = let most = ltb-false 839 n e in record { low = omega (arith, ints); high = omega (arith, ints) }

pub minutes_of_zone : (z : ℤ) → IsZone (Offset z) → IsMinutes z
minutes_of_zone (pos n) h = positive_minutes n (nat_lt 840 n) refl h
minutes_of_zone (negsuc n) h = negative_minutes n (nat_lt 839 n) refl h

printable_ascii : (bs : List ℕ) → list_all (λ b. nat_le 32 b && nat_le b 126) bs ≡ true → IsAscii bs
printable_ascii [] e = IsAscii-nil
printable_ascii (b ∷ bs) e =
    let parts = and_parts _ _ e in
    let ends = and_parts _ _ parts.0 in
    let low : b ≤ 126 = leb-true b 126 ends.1 in
    let ascii : b < 128 = omega (arith, low) in
    IsAscii-cons b bs ascii (printable_ascii bs parts.1)

read_text : (text : List ℕ) (b : Bool) → is_text text ≡ b → IsOk (zone_of_text text) → IsAscii text
unfolding zone_of_text
read_text text true e h = printable_ascii text (and_parts _ _ (and_parts _ _ e).1).1
read_text text false e h = let refused : false ≡ true = rw e at h in absurd (cc)

pub text_of_zone : (text : List ℕ) → IsZone (Posix text) → IsAscii text
text_of_zone text h = read_text text (is_text text) refl h

pub utf8_of_zone : (text : List ℕ) → IsZone (Posix text) → IsUtf8 text
utf8_of_zone text h = IsUtf8-from_ascii text (text_of_zone text h)

told : (r : Result ZoneView ZoneFault) (rule : ZoneRule) → IsOk r → telling r rule ≡ Ok rule
told (Ok z) rule h = refl
told (Err e) rule h = absurd (cc)

-- a rule that tells a zone is the one that is kept
pub telling_again : (rule : ZoneRule) → IsZone rule → telling (zone_of rule) rule ≡ Ok rule
telling_again rule h = told (zone_of rule) rule h

short_text : (text : List ℕ) (b : Bool) → is_text text ≡ b → IsOk (zone_of_text text) → length text ≤ MAX_ZONE_TEXT
unfolding zone_of_text
short_text text true e h = leb-true (length text) MAX_ZONE_TEXT (and_parts _ _ (and_parts _ _ e).1).0
short_text text false e h = let refused : false ≡ true = rw e at h in absurd (cc)

-- a text of a zone is short
pub short_zone : (text : List ℕ) → IsZone (Posix text) → length text ≤ MAX_ZONE_TEXT
short_zone text h = short_text text (is_text text) refl h

all_printable : (bs : List ℕ) → list_all (λ b. nat_le 32 b && nat_le b 126) bs ≡ true → ArePrintable bs
all_printable [] e = tt
all_printable (b ∷ bs) e =
    let parts = and_parts _ _ e in
    (leb-true 32 b (and_parts _ _ parts.0).0, all_printable bs parts.1)

printable_text : (text : List ℕ) (b : Bool) → is_text text ≡ b → IsOk (zone_of_text text) → ArePrintable text
unfolding zone_of_text
printable_text text true e h = all_printable text (and_parts _ _ (and_parts _ _ e).1).1
printable_text text false e h = let refused : false ≡ true = rw e at h in absurd (cc)

pub printable_zone : (text : List ℕ) → IsZone (Posix text) → ArePrintable text
printable_zone text h = printable_text text (is_text text) refl h
