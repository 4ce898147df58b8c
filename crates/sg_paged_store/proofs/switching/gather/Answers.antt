use Rattle.std.proofs.Common.{◌≡◌, ◌≤◌, ℕ, List, length, sym, ◌∙◌, ap, subst}
use Rattle.sg_base.specs.declared.limits.TheConstants.{MANIFEST_FILES}
use Rattle.sg_placing.specs.declared.placed.Placed.{Placed}
use Rattle.sg_pages.specs.declared.page_set.TheConstants.{MAX_PAGES}
use Rattle.sg_staging.specs.Staged.{whole_files}
use Rattle.sg_paged_store.proofs.SwitchLemmas.{few_files, few_pages}
use Rattle.sg_paged_store.proofs.switching.gather.Goals as goal

pub fill_table-requires-clause-few : goal.fill_table-requires-clause-few
fill_table-requires-clause-few c = subst (λ (l : List Placed). length l ≤ MANIFEST_FILES) (sym c.files.ensures) (few_files c.choose.new.next (whole_files c.args.current.now c.args.staging.now) c.args.files.now c.choose.ensures.stands c.requires.few)

pub fill_map-requires-clause-few : goal.fill_map-requires-clause-few
fill_map-requires-clause-few c = subst (λ (l : List ℕ). length l ≤ MAX_PAGES) (sym c.pages.ensures) (few_pages c.choose.new.next (whole_files c.args.current.now c.args.staging.now) c.args.files.now c.choose.ensures.filled c.choose.ensures.stands c.requires.pages)
