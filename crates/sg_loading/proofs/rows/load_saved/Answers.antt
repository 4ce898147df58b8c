use Rattle.std.proofs.Common.{◌≡◌, ◌∙◌, ap, sym}
use Rattle.std.proofs.lemmas.Option.{MatchOption-at_some}
use Rattle.sg_loading.proofs.OneRow.{one_row}
use Rattle.sg_tables.specs.declared.change.TableChange.TheVariants.{Insert}
use Rattle.sg_tables.specs.Refusals.{refusal}
use Rattle.sg_loading.proofs.rows.load_saved.Goals as goal

pub returns-then-taken-clause-joins : goal.returns-then-taken-clause-joins
returns-then-taken-clause-joins c =
    let read = MatchOption-at_some _ _ _ c.in-Some.is c.in_ok-saved.ensures in
    let ok = c.in_ok-taken.ensures.taken c.if-taken.true in
    (c.in-Some.saved, record { saved = read.0; number = read.1; says = read.2; allowed = ok.0 }, ok.1)

pub returns-clause-bad : goal.returns-clause-bad
returns-clause-bad c at is =
    let read = MatchOption-at_some _ _ _ c.in-Some.is c.in_ok-saved.ensures in
    let same : at ≡ c.args.key = cc in (
      same,
      λ e own.
          let row = one_row c.in-Some.saved e c.args.bytes.now read.0 own.saved (read.1 ∙ sym own.number) read.2 own.says in
          c.in_ok-taken.ensures.refused c.if-taken.false (ap (λ r. refusal c.args.tables.now.rows (Insert r)) row ∙ own.allowed),
    )
