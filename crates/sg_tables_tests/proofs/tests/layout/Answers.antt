use Rattle.std.proofs.Common.{◌<◌, sym, subst, arith}
use Rattle.std.specs.List.{AllByRecursion}
use Rattle.sg_base.specs.declared.layout.Region.{Region}
use Rattle.sg_tables_tests.proofs.tests.layout.Goals as goal

pub new-requires : goal.new-requires
new-requires c =
    let one = c.in_ok-one.ensures in
    let two = c.in_ok-two.ensures in
    record {
      ids = subst (λ regions. AllByRecursion (λ (r : Region). 0 < r.id) regions) (sym c.in_ok-regions.ensures.items)
          (omega (arith, one), (omega (arith, two), tt));
    }
