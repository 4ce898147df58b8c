use Rattle.std.proofs.Common.{◌≡◌, ℕ, ◌+◌, ◌*◌, ◌/◌, ◌++◌, List, [], length, sum_by, All, ◌<◌, subst, None, Some, option_map, sym, ◌∙◌, ap, arith}
use Rattle.std.specs.List.{flat_map}
use Rattle.sg_disk.specs.declared.places.TheConstants.{PAGE}
use Rattle.sg_pages.specs.Maps.{pages_of}
use Rattle.sg_pages.specs.Shelves.{pages_for, extent_of}
use Rattle.sg_pages.specs.declared.maps.BadEntry.{BadEntry}
use Rattle.sg_pages.specs.declared.maps.TheConstants.{MAP_ENTRY_LEN}
use Rattle.sg_pages.proofs.MapLemmas.{length-pages}
use Rattle.sg_slots.specs.declared.fault.OpenFault.TheVariants.{Damaged}
use Rattle.sg_slots.proofs.SlotLemmas.{damaged_as}
use Rattle.sg_paged_slots.specs.PagedDamage.{map_place, entry_damage}
use Rattle.sg_paged_slots.proofs.PageLemmas.{bad_as, pages_below}
use Rattle.sg_paged_slots.proofs.pages.read_pages.Goals as goal

pub returns-in-Ok-clause-sound : goal.returns-in-Ok-clause-sound
returns-in-Ok-clause-sound c =
    let marked = c.add_ranges.ensures.marks [] c.clear.ensures.none in
    ap (option_map (entry_damage (map_place c.args.room c.args.slot)))
    (bad_as _ (c.args.room / PAGE) _ c.args.files.now.files c.args.map.now _ (sum_by pages_for c.args.files.now.files) None (c.add_ranges.ensures.long ∙ c.clear.ensures.long) c.files.ensures c.page_count-count.ensures
    (c.in-Ok.ensures.sound (flat_map extent_of c.files.result.now) marked))

pub returns-in-Ok-clause-filled : goal.returns-in-Ok-clause-filled
returns-in-Ok-clause-filled c =
    let count : ℕ = c.page_count-count.result in
    ap length c.in-Ok.ensures.pages ∙ ap (λ (l : List ℕ). length (l ++ pages_of c.args.map.now count)) c.requires.none ∙ length-pages c.args.map.now count ∙ c.page_count-count.ensures ∙ ap (sum_by pages_for) (sym c.read_map.ensures.files)

pub returns-in-Err-clause-damaged : goal.returns-in-Err-clause-damaged
returns-in-Err-clause-damaged c place found is =
    let marked = c.add_ranges.ensures.marks [] c.clear.ensures.none in
    let entry : BadEntry = c.in-Err.entry in
    let first : map_place c.args.room c.args.slot + MAP_ENTRY_LEN * entry.index ≡ c.place_of_map.result + MAP_ENTRY_LEN * c.from.result = omega (arith, c.place_of_map.ensures, c.from.ensures) in
    let second : entry.page ≡ c.from-in-Err.result = sym c.from-in-Err.ensures in
    let same : c.damage.result ≡ Damaged place found = cc in
    ap (option_map (entry_damage (map_place c.args.room c.args.slot)))
    (bad_as _ (c.args.room / PAGE) _ c.args.files.now.files c.args.map.now _ (sum_by pages_for c.args.files.now.files) (Some entry) (c.add_ranges.ensures.long ∙ c.clear.ensures.long) c.files.ensures c.page_count-count.ensures
    (c.in-Err.ensures.bad (flat_map extent_of c.files.result.now) marked))
    ∙ damaged_as (map_place c.args.room c.args.slot + MAP_ENTRY_LEN * entry.index) entry.page place found
    (ap (λ (k : ℕ). Damaged k entry.page) first ∙ ap (λ (k : ℕ). Damaged (c.place_of_map.result + MAP_ENTRY_LEN * c.from.result) k) second ∙ sym c.damage.ensures ∙ same)

pub returns-in-Ok-clause-inside : goal.returns-in-Ok-clause-inside
returns-in-Ok-clause-inside c =
    let marked = c.add_ranges.ensures.marks [] c.clear.ensures.none in
    let none = bad_as _ (c.args.room / PAGE) _ c.args.files.now.files c.args.map.now _ (sum_by pages_for c.args.files.now.files) None (c.add_ranges.ensures.long ∙ c.clear.ensures.long) c.files.ensures c.page_count-count.ensures (c.in-Ok.ensures.sound (flat_map extent_of c.files.result.now) marked) in
    let below : All (λ page. page < c.args.room / PAGE) (pages_of c.args.map.now (sum_by pages_for c.args.files.now.files)) = pages_below (c.args.room / PAGE) 0 (flat_map extent_of c.args.files.now.files) (pages_of c.args.map.now (sum_by pages_for c.args.files.now.files)) none in
    let is : c.read_map.new.self.pages ≡ pages_of c.args.map.now (sum_by pages_for c.args.files.now.files) = c.in-Ok.ensures.pages ∙ ap (λ (l : List ℕ). l ++ pages_of c.args.map.now c.page_count-count.result) c.requires.none ∙ ap (λ (k : ℕ). pages_of c.args.map.now k) c.page_count-count.ensures in
    subst (All (λ page. page < c.args.room / PAGE)) (sym is) below
