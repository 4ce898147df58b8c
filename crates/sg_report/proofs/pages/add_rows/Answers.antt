use Rattle.std.proofs.Common.{◌∙◌, ◌∷◌, ◌++◌, ℕ, List, [], ap, refl, subst, sym, take}
use Rattle.std.proofs.lemmas.List.{take_more}
use Rattle.sg_base.specs.declared.key.Key.{Key}
use Rattle.sg_report.specs.Counting.{CanAddRow, CountsRow, CountsRows, none}
use Rattle.sg_report.proofs.PageLemmas.{room_at}
use Rattle.sg_report.proofs.ReadLemmas.{counts_more}
use Rattle.sg_report.proofs.pages.add_rows.Goals as goal

pub loop-row-init : goal.loop-row-init
loop-row-init c = record { added = []; read = none; lines = refl }

pub add_row-requires : goal.add_row-requires
add_row-requires c =
    subst (λ (row : Key × List ℕ). CanAddRow c.args.from c.args.to row.0 c.loop-row.lines.items) (sym c.row-item.is)
    (room_at c.args.from c.args.to c.loop-row.row-index c.args.rows.now c.row-item.result c.args.lines.now.items c.loop-row.lines.items c.loop-row-test.true c.requires c.loop-row.invariant)

pub loop-row-preserved : goal.loop-row-preserved
loop-row-preserved c =
    let row : Key × List ℕ = c.row-item.result in
    let rows : List (Key × List ℕ) = c.args.rows.now in
    let old = c.args.lines.now.items in
    let mid = c.loop-row.lines.items in
    let new = c.add_row.new.lines.items in
    let i : ℕ = c.loop-row.row-index in
    let one : CountsRow c.args.from c.args.to row mid new = subst (λ (b : List ℕ). CountsRow c.args.from c.args.to (row.0, b) mid new) c.as_slice.ensures c.in_ok-add_row.ensures in
    subst (λ (rs : List (Key × List ℕ)). CountsRows c.args.from c.args.to rs old new) (ap (λ (r : Key × List ℕ). take i rows ++ r ∷ []) c.row-item.is ∙ sym (take_more rows i row c.loop-row-test.true))
    (counts_more c.args.from c.args.to row (take i rows) old mid new c.loop-row.invariant one)
