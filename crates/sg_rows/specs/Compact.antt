-- The values whose compact text (RFC 8259, with no space) reads back as the value itself.
use Rattle.std.specs.Prelude.{◌≡◌, ℕ, ◌^◌, ◌<◌, pos, negsuc, List, Bool, true, IsUtf8, ⊤}
use Rattle.std.specs.Ordering.{nat_cmp, is_lt}
use Rattle.std.specs.Cmp.Lexicographic.{slice_cmp}
use Rattle.serde_json.specs.Data.{Num, unsigned, negative, float, Data, null, boolean, number, string, array, object, Items, no_items, item, Members, no_members, member}

-- an integer that 64 bits hold, signed where it is below 0 (`negsuc n` is -1 - n); no float
abbrev pub IsInteger : Num → Type 0
IsInteger (unsigned n) = n < 2 ^ 64
IsInteger (negative (pos n)) = ⊥
IsInteger (negative (negsuc n)) = n < 2 ^ 63
IsInteger (float x) = ⊥

-- the key stands before the key of the first member, in the order of their bytes
abbrev pub precedes : List ℕ → Members → Bool
precedes k no_members = true
precedes k (member l d ms) = is_lt (slice_cmp nat_cmp k l)

-- numbers are integers, texts are UTF-8, and the keys of an object ascend, so none comes twice
abbrev mutual
  pub IsPlain : Data → Type 0
  IsPlain null = ⊤
  IsPlain (boolean b) = ⊤
  IsPlain (number n) = IsInteger n
  IsPlain (string s) = IsUtf8 s
  IsPlain (array ds) = AreItemsPlain ds
  IsPlain (object ms) = AreMembersPlain ms

  pub AreItemsPlain : Items → Type 0
  AreItemsPlain no_items = ⊤
  AreItemsPlain (item d ds) = IsPlain d × AreItemsPlain ds

  pub AreMembersPlain : Members → Type 0
  AreMembersPlain no_members = ⊤
  AreMembersPlain (member k d ms) = IsUtf8 k × (precedes k ms ≡ true) × IsPlain d × AreMembersPlain ms
