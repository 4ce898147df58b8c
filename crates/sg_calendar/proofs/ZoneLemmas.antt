-- The rule of a zone over what its text says is the library's rule.
use Rattle.std.proofs.Common.{◌≡◌, ℕ, Bool, true, false, Option, Some, None, refl, ◌∙◌, ap, Ok, Err, IsSome, List, ℤ, pos, ◌*ℤ◌, option_map, if◌then◌else◌}
use Rattle.std.proofs.lemmas.Bool.{cond_both}
use Rattle.jiff_core.specs.declared.Offset.{Offset}
use Rattle.jiff_tz.specs.declared.posix.Dst.{Dst}
use Rattle.jiff_tz.specs.declared.posix.TimeZone.{TimeZone}
use Rattle.jiff_tz.specs.PosixRule.{match_some, rule_nanos, utc_window, in_window, dst_at_by, offset_at}
use Rattle.jiff_tz.specs.PosixReader.{read_whole}
use Rattle.jiff_tz.specs.PosixText.{TzText, dst_view, tz_view}
use Rattle.jiff_tz.specs.Year.{year_of_nanos}
use Rattle.sg_calendar.specs.Zone.{Says, is_text, zone_of_read, zone_of_text, window_of, offset_in, offset_of}
use Rattle.sg_calendar.specs.declared.zone.ZoneFault.TheVariants.{BadZone}

window_same : (d : Dst) (y : ℤ) (std : Offset) → utc_window d y std ≡ window_of (dst_view d) y std.seconds
unfolding utc_window rule_nanos window_of
window_same d y std = refl

pick : (b : Bool) (d : Dst) (std : Offset) → (match_some (if b then Some d else None) std (λ x. x.offset)).seconds ≡ (if b then d.offset.seconds else std.seconds)
pick true d std = refl
pick false d std = refl

offset_by : (std : Offset) (d : Option Dst) (n : ℤ) → (match_some (dst_at_by std d n) std (λ x. x.offset)).seconds ≡ offset_in std.seconds (option_map dst_view d) n
offset_by std None n = refl
offset_by std (Some d) n = rw window_same (pick (in_window (window_of (dst_view d) (year_of_nanos n) std.seconds) n) d std)

-- the offset of a moment by the library, at the moment's nanosecond
pub offset_at_moment : (tz : TimeZone) (m : ℕ) (n : ℤ) → n ≡ pos m *ℤ pos 1_000_000_000 → (offset_at tz n).seconds ≡ offset_of (tz_view tz) m
unfolding offset_of
offset_at_moment tz m n e = rw e (offset_by tz.std_offset tz.dst (pos m *ℤ pos 1_000_000_000))

-- a text that has not 1 to 64 printable bytes tells no zone
pub zone_of_text-refused : (text : List ℕ) → is_text text ≡ false → zone_of_text text ≡ Err BadZone
unfolding zone_of_text
zone_of_text-refused text e = rw e refl

pub zone_of_text-read : (text : List ℕ) (t : TzText) → is_text text ≡ true → read_whole text ≡ Some t → zone_of_text text ≡ Ok (Says t)
unfolding zone_of_text
zone_of_text-read text t e f = rw (e, f) refl

unread : (o : Option TzText) → ¬ (IsSome o) → zone_of_read o ≡ Err BadZone
unread None h = refl
unread (Some t) h = absurd (h refl)

-- and neither does one that the library doesn't read
pub zone_of_text-unread : (text : List ℕ) → ¬ (IsSome (read_whole text)) → zone_of_text text ≡ Err BadZone
unfolding zone_of_text
zone_of_text-unread text h =
    cond_both (is_text text) _ _ (λ x. x ≡ Err BadZone) (λ _. unread (read_whole text) h) (λ _. refl)

pub seconds_at_moment : (r : Offset) (tz : TimeZone) (m : ℕ) (n : ℤ) → r ≡ offset_at tz n → n ≡ pos m *ℤ pos 1_000_000_000 → r.seconds ≡ offset_of (tz_view tz) m
seconds_at_moment r tz m n e f = ap (λ x. x.seconds) e ∙ offset_at_moment tz m n f
