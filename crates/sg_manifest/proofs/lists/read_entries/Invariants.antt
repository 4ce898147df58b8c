use Rattle.std.proofs.Common.{◌≡◌, drop, []}
use Rattle.std.specs.List.{AllByRecursion}
use Rattle.serde_json.specs.View.{items_view}
use Rattle.sg_rows.specs.Parts.{with_front}
use Rattle.sg_manifest.specs.Reading.{entries_at}
use Rattle.sg_manifest.proofs.lists.read_entries.Given as goal

abbrev pub invariant-loop-index : goal.invariant-loop-index
invariant-loop-index g l = record {
  left : with_front l.rows.items (entries_at l.rule.list l.rule.kind (g.T.ManifestRow.at l.form) g.T.ManifestRow.key l.index l.seen.items (items_view (drop l.index l.items))) ≡ entries_at l.rule.list l.rule.kind (g.T.ManifestRow.at l.form) g.T.ManifestRow.key 0 [] (items_view l.items);
  valid : AllByRecursion (g.T.ManifestRow.valid l.form) l.rows.items;
}
