use Rattle.std.proofs.Common.{◌≡◌, ◌==◌, true, false, refl, sym, ◌∙◌}
use Rattle.std.specs.List.{list_any}
use Rattle.sg_manifest.proofs.ListLemmas.{all_more, seen_at, next_at, done_at, entries_facts, counted}
use Rattle.sg_manifest.proofs.lists.read_entries.Goals as goal

pub returns-then-is_seen-clause-gives : goal.returns-then-is_seen-clause-gives
returns-then-is_seen-clause-gives g c =
    let old : list_any (λ n. n == c.key-id.result) c.loop-index.seen.items ≡ true = rw (← c.as_slice.ensures.value) (sym c.is_seen.ensures ∙ c.if-is_seen.true) in (
      λ _. seen_at c.args.rule.now.list c.args.rule.now.kind (g.T.ManifestRow.at c.args.form) g.T.ManifestRow.key c.loop-index.index c.loop-index.seen.items c.args.items.now c.index-items-index.result c.in_ok-row.row c.key-id.result c.loop-index.rows.items _
          c.loop-index-test.true c.index-items-index.is c.in_ok-row.ensures.gives c.key-id.ensures old c.loop-index.invariant.left,
      refl,
    )

pub loop-index-preserved : goal.loop-index-preserved
loop-index-preserved g c =
    let new : list_any (λ n. n == c.key-id.result) c.loop-index.seen.items ≡ false = rw (← c.as_slice.ensures.value) (sym c.is_seen.ensures ∙ c.if-is_seen.false) in
    record {
      left = next_at c.args.rule.now.list c.args.rule.now.kind (g.T.ManifestRow.at c.args.form) g.T.ManifestRow.key c.loop-index.index c.loop-index.seen.items c.push.new.self.items c.args.items.now c.index-items-index.result c.in_ok-row.row c.key-id.result c.loop-index.rows.items c.push-in-loop-index.new.self.items _
          c.loop-index-test.true c.index-items-index.is c.in_ok-row.ensures.gives c.key-id.ensures new c.in_ok-push.ensures.items c.in_ok-push-2.ensures.items c.loop-index.invariant.left;
      valid = rw c.in_ok-push-2.ensures.items (all_more (g.T.ManifestRow.valid c.args.form) c.loop-index.rows.items c.in_ok-row.row c.loop-index.invariant.valid c.in_ok-row.ensures.sound);
    }

pub returns-clause-long : goal.returns-clause-long
returns-clause-long g c =
    let done = done_at c.args.rule.now.list c.args.rule.now.kind (g.T.ManifestRow.at c.args.form) g.T.ManifestRow.key c.loop-index.index c.loop-index.seen.items c.args.items.now c.loop-index.rows.items _ c.loop-index-test.false c.loop-index.invariant.left in
    (entries_facts c.args.rule.now.list c.args.rule.now.kind (g.T.ManifestRow.at c.args.form) g.T.ManifestRow.key 0 _ _ c.loop-index.rows.items done).long ∙ counted c.args.items.now

pub returns-clause-apart : goal.returns-clause-apart
returns-clause-apart g c =
    let done = done_at c.args.rule.now.list c.args.rule.now.kind (g.T.ManifestRow.at c.args.form) g.T.ManifestRow.key c.loop-index.index c.loop-index.seen.items c.args.items.now c.loop-index.rows.items _ c.loop-index-test.false c.loop-index.invariant.left in
    (entries_facts c.args.rule.now.list c.args.rule.now.kind (g.T.ManifestRow.at c.args.form) g.T.ManifestRow.key 0 _ _ c.loop-index.rows.items done).apart
