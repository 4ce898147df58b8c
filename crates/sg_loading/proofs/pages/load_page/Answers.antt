use Rattle.std.proofs.Common.{◌≡◌, ◌∙◌, ◌∷◌, [], ℕ, List, ap, refl, sym, subst, arith, length}
use Rattle.std.specs.Prelude.{Option}
use Rattle.std.proofs.lemmas.Option.{MatchOption-at_some, MatchOption-at_none}
use Rattle.std.proofs.lemmas.List.{nil_from_length}
use Rattle.std.proofs.lemmas.Result.{err_from_is_err_and}
use Rattle.std.specs.Vec.Iter.{into_iter_items}
use Rattle.sg_base.specs.declared.key.Key.{Key}
use Rattle.sg_base.specs.Keys.{number_of}
use Rattle.sg_loading.specs.declared.fault.LoadFault.TheVariants.{BadRow}
use Rattle.sg_loading.specs.Loading.{HasNoReading, IsFirstBad, IsLawful, Joins, core_of}
use Rattle.sg_loading.specs.Pages.{GoesOn}
use Rattle.sg_loading.proofs.LawLemmas.{lawful_with}
use Rattle.sg_loading.proofs.PageLemmas.{ends_bad, goes_on, is_done}
use Rattle.sg_loading.proofs.RunLemmas.{handed_on}
use Rattle.sg_loading.proofs.pages.load_page.Goals as goal

pub loop-key-preserved : goal.loop-key-preserved
loop-key-preserved c =
    let core = core_of c.loop-key.parts c.args.limit in
    let key = c.in-Some.key in
    let at = MatchOption-at_some _ _ _ c.in-Some.is c.next.ensures.cases in
    let joins = subst (λ text. Joins core (number_of key) text (core_of c.load_row.new.parts c.args.limit)) c.as_slice.ensures c.in_ok-load_row.ensures.joins in
    record {
      lawful = subst IsLawful (sym joins.2) (lawful_with core (number_of key) c.in-Some.bytes joins.0 c.loop-key.invariant.lawful joins.1);
      on = λ kept start end next rows.
          goes_on kept end core (core_of c.load_row.new.parts c.args.limit) (key, c.in-Some.bytes) (into_iter_items c.next.new.self) joins
          (subst (GoesOn kept end core) at.0 (c.loop-key.invariant.on kept start end next rows));
    }

pub returns-in_err-load_row-clause-bad : goal.returns-in_err-load_row-clause-bad
returns-in_err-load_row-clause-bad c at is kept start end next rows =
    let core = core_of c.loop-key.parts c.args.limit in
    let key = c.in-Some.key in
    let here = MatchOption-at_some _ _ _ c.in-Some.is c.next.ensures.cases in
    let p = err_from_is_err_and c.from_residual.result c.from_residual.ensures.1 in
    let same = handed_on c.from_residual.result p.0 c.in_err-load_row.field-0.0 (BadRow at) p.1 p.2 is in
    let bad = c.in_err-load_row.ensures.bad at same in
    let none = subst (λ text. HasNoReading core (number_of key) text) c.as_slice.ensures bad.1 in
    subst (λ (k : Key). IsFirstBad c.args.limit kept (number_of k)) (sym bad.0)
    (ends_bad kept end c.args.limit core (key, c.in-Some.bytes) (into_iter_items c.next.new.self) refl c.loop-key.invariant.lawful none
    (subst (GoesOn kept end core) here.0 (c.loop-key.invariant.on kept start end next rows)))

pub returns-clause-rows : goal.returns-clause-rows
returns-clause-rows c kept start end next rows =
    let core = core_of c.loop-key.parts c.args.limit in
    let at = MatchOption-at_none _ _ c.in_default.is c.next.ensures.cases in
    let none : into_iter_items c.loop-key.rest ≡ [] = nil_from_length _ (omega (arith, at.0, c.loop-key.rest.rest.ok.0)) in
    is_done kept end core (subst (GoesOn kept end core) none (c.loop-key.invariant.on kept start end next rows))
