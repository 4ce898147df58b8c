-- What a layout without a fault keeps.
use Rattle.std.proofs.Common.{◌≡◌, ℕ, ◌+◌, ◌-◌, ◌<◌, ◌≤◌, eqb, List, [], ◌∷◌, ◌++◌, length, take, drop, get_or, Option, Some, None, refl, arith, add-one, drop-cons}
use Rattle.std.proofs.lemmas.List.{take_more}
use Rattle.std.proofs.lemmas.Bool.{le-ltb}
use Rattle.std.proofs.lemmas.Bool.Decides.{nat_tests}
use Rattle.std.specs.Prelude.{nat_lt, false, if◌then◌else◌}
use Rattle.std.specs.List.{AllByRecursion}
use Rattle.sg_base.specs.declared.layout.Item.{Item}
use Rattle.sg_base.specs.declared.layout.Region.{Region}
use Rattle.sg_base.specs.declared.layout.LayoutFault.{LayoutFault}
use Rattle.sg_base.specs.declared.layout.LayoutFault.TheVariants.{NoRegion, TooMany, EmptyRegion, ZeroSeconds, TooLong}
use Rattle.sg_base.specs.Faults.{first_of, first_in}
use Rattle.sg_base.specs.Layout.{seconds_of, medium_in, longest, region_fault, layout_fault, zero_fault, long_fault, double_fault}
use Rattle.sg_base.proofs.FaultLemmas.{first_none, if_none}

-- a region of at least a second, of at most an hour, and of few items
pub record IsShort (r : Region) : Type 0 where
  pub some : 0 < seconds_of r.items
  pub few : seconds_of r.items ≤ 3600
  pub items : length r.items ≤ 64

-- a list of items that begins with one of a second or more has a second
pub zero_some : (region k : ℕ) (is : List Item) → zero_fault region k is ≡ None → 0 < length is → 0 < seconds_of is
zero_some region k [] h l = absurd (omega arith)
zero_some region k (i ∷ is) h l =
    let first : (eqb i.seconds 0 ≡ false) × (zero_fault region (k + 1) is ≡ None) = if_none (eqb i.seconds 0) (ZeroSeconds region k) (zero_fault region (k + 1) is) h in
    grind (arith, nat_tests)

pub long_few : (is : List Item) → long_fault is ≡ None → seconds_of is ≤ 3600
long_few is h =
    let short : (nat_lt 3600 (seconds_of is) ≡ false) × (◌≡◌ {A = Option LayoutFault} None None) = if_none (nat_lt 3600 (seconds_of is)) (TooLong (seconds_of is)) None h in
    grind (arith, nat_tests)

pub region_short : (r : Region) → region_fault r ≡ None → IsShort r
region_short r h =
    let rest : Option LayoutFault = first_of (zero_fault r.id 0 r.items) (long_fault r.items) in
    let some = if_none (eqb (length r.items) 0) (EmptyRegion r.id) (if nat_lt 64 (length r.items) then Some (TooMany (length r.items)) else rest) h in
    let few = if_none (nat_lt 64 (length r.items)) (TooMany (length r.items)) rest some.1 in
    let own = first_none (zero_fault r.id 0 r.items) (long_fault r.items) few.1 in
    let empty : eqb (length r.items) 0 ≡ false = some.0 in
    let many : nat_lt 64 (length r.items) ≡ false = few.0 in
    record {
      some = zero_some r.id 0 r.items own.0 (grind (arith, nat_tests));
      few = long_few r.items own.1;
      items = grind (arith, nat_tests);
    }

pub regions_short : (rs : List Region) → first_in region_fault rs ≡ None → AllByRecursion IsShort rs
regions_short [] h = tt
regions_short (r ∷ rs) h =
    let both : (region_fault r ≡ None) × (first_in region_fault rs ≡ None) = first_none (region_fault r) (first_in region_fault rs) h in
    (region_short r both.0, regions_short rs both.1)

-- what a layout without a fault keeps
pub record HasBounds (rs : List Region) : Type 0 where
  pub own : first_in region_fault rs ≡ None
  pub short : AllByRecursion IsShort rs
  pub some : 0 < longest rs
  pub few : longest rs ≤ 3600

pub longest_few : (rs : List Region) → AllByRecursion IsShort rs → longest rs ≤ 3600
longest_few [] h = omega arith
longest_few (r ∷ rs) h = omega (arith, h.0.few, longest_few rs h.1)

pub longest_some : (rs : List Region) → AllByRecursion IsShort rs → 0 < length rs → 0 < longest rs
longest_some [] h l = absurd (omega arith)
longest_some (r ∷ rs) h l = omega (arith, h.0.some)

pub layout_bounds : (rs : List Region) → layout_fault rs ≡ None → HasBounds rs
layout_bounds rs h =
    let rest : Option LayoutFault = first_of (double_fault rs) (first_in region_fault rs) in
    let some = if_none (eqb (length rs) 0) NoRegion (if nat_lt 16 (length rs) then Some (TooMany (length rs)) else rest) h in
    let few = if_none (nat_lt 16 (length rs)) (TooMany (length rs)) rest some.1 in
    let own = first_none (double_fault rs) (first_in region_fault rs) few.1 in
    let short : AllByRecursion IsShort rs = regions_short rs own.1 in
    let empty : eqb (length rs) 0 ≡ false = some.0 in
    record {
      own = own.1;
      short = short;
      some = longest_some rs short (grind (arith, nat_tests));
      few = longest_few rs short;
    }

-- a walk over items, one item on
pub medium_next : (is : List Item) (k p : ℕ) (d : Item) → k < length is → (get_or is k d).seconds ≤ p → medium_in (drop (k + 1) is) (p - (get_or is k d).seconds) ≡ medium_in (drop k is) p
medium_next is k p d inside passed = rw (drop-cons is k d inside, le-ltb p (get_or is k d).seconds passed, add-one) refl

seconds-append : (is : List Item) (i : Item) → seconds_of (is ++ i ∷ []) ≡ seconds_of is + i.seconds
seconds-append [] i = omega arith
seconds-append (j ∷ is) i = omega (arith, seconds-append is i)

pub seconds_front : (is : List Item) (k : ℕ) (d : Item) → k < length is → seconds_of (take (k + 1) is) ≡ seconds_of (take k is) + (get_or is k d).seconds
seconds_front is k d inside = rw (take_more is k d inside) (seconds-append (take k is) (get_or is k d))

pub seconds_back : (is : List Item) (k : ℕ) (d : Item) → k < length is → seconds_of (drop k is) ≡ (get_or is k d).seconds + seconds_of (drop (k + 1) is)
seconds_back is k d inside = rw (drop-cons is k d inside, add-one) refl
