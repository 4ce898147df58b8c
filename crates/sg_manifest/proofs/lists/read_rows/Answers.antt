use Rattle.std.proofs.Common.{refl}
use Rattle.sg_manifest.proofs.ListLemmas.{rows_limit, rows_are}
use Rattle.sg_manifest.proofs.lists.read_rows.Goals as goal

pub returns-then-items-rule-clause-gives : goal.returns-then-items-rule-clause-gives
returns-then-items-rule-clause-gives g c = (
  λ _. rows_limit c.args.rule.now.list c.args.rule.now.name c.args.rule.now.most c.args.rule.now.kind (g.T.ManifestRow.at c.args.form) g.T.ManifestRow.key c.args.name.now _ c.in_ok-items.items.now c.in_ok-items.ensures c.if-items-rule.true,
  refl,
)

pub returns-clause-gives : goal.returns-clause-gives
returns-clause-gives g c =
    rw (rows_are c.args.rule.now.list c.args.rule.now.name c.args.rule.now.most c.args.rule.now.kind (g.T.ManifestRow.at c.args.form) g.T.ManifestRow.key c.args.name.now _ c.in_ok-items.items.now c.in_ok-items.ensures c.if-items-rule.false)
    c.read_entries.ensures.gives
