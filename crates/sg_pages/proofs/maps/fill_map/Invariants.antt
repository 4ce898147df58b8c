use Rattle.std.proofs.Common.{◌≡◌, ◌*◌, ◌≤◌, take, vec_len, vec_capacity}
use Rattle.std.specs.List.{flat_map}
use Rattle.sg_pages.specs.Maps.{le16}
use Rattle.sg_pages.specs.declared.maps.TheConstants.{MAP_LEN}
use Rattle.sg_pages.proofs.maps.fill_map.Given as goal

abbrev pub invariant-loop-page : goal.invariant-loop-page
invariant-loop-page l = (l.map.items ≡ flat_map le16 (take l.page-index l.pages)) × (vec_len l.map ≡ 2 * l.page-index) × (MAP_LEN ≤ vec_capacity l.map)
