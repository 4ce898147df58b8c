use Rattle.std.proofs.Common.{◌≡◌, ◌≤◌, min, drop}
use Rattle.std.specs.Char.{is_ascii_digit}
use Rattle.std.specs.List.{list_all}
use Rattle.std.specs.Str.Parse.{digits_value, digits_value_after}
use Rattle.sg_http.proofs.text.number.Given as goal

abbrev pub invariant-loop-i : goal.invariant-loop-i
invariant-loop-i l = record {
  cut : l.n ≤ l.most;
  digits : list_all is_ascii_digit (drop l.i l.value) ≡ list_all is_ascii_digit l.value;
  value : min (digits_value_after 10 l.n (drop l.i l.value)) l.most ≡ min (digits_value 10 l.value) l.most;
}
