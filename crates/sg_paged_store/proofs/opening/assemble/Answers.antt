use Rattle.std.proofs.Common.{◌≤◌, Option, sym, subst}
use Rattle.std.specs.Option.{ForSome}
use Rattle.sg_base.specs.declared.limits.TheConstants.{MANIFEST_TEXT}
use Rattle.sg_placing.specs.Placing.{AreAscending}
use Rattle.sg_pages.specs.Shelves.{Shelved}
use Rattle.sg_slots.specs.declared.slots.Head.{Head}
use Rattle.sg_staging.specs.Staged.{IsStagedIn}
use Rattle.sg_paged_store.proofs.OpeningLemmas.{in_either}
use Rattle.sg_paged_store.proofs.opening.assemble.Goals as goal

pub invariant_of-result : goal.invariant_of-result
invariant_of-result c =
    let spare = c.args.slots.spare in
    let zero : Shelved = c.args.rooms.zero in
    let one : Shelved = c.args.rooms.one in (
      record {
        whole = c.requires.room;
        short = c.shown_by-shown.ensures.short (subst (λ (h : Option Head). ForSome h (λ x. x.text ≤ MANIFEST_TEXT)) (sym c.pick_head-head.ensures) (in_either (λ (h : Option Head). ForSome h (λ x. x.text ≤ MANIFEST_TEXT)) spare c.args.slots.one c.args.slots.zero c.requires.one_text c.requires.zero_text));
        ascending = subst (λ (k : Shelved). AreAscending k.files) (sym c.pick_shelf-current.ensures) (in_either (λ (k : Shelved). AreAscending k.files) spare one zero c.requires.one_ascending c.requires.zero_ascending);
        placed = subst (λ (k : Shelved). IsStagedIn c.args.format.room k c.args.rooms.staging) (sym c.pick_shelf-current.ensures) (in_either (λ (k : Shelved). IsStagedIn c.args.format.room k c.args.rooms.staging) spare one zero c.requires.one_files c.requires.zero_files);
      },
      c.requires.table,
      c.requires.map,
    )
