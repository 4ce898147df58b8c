use Rattle.std.proofs.Common.{◌≡◌, ◌++◌, ◌∷◌, [], ◌<◌, ◌≤◌, ◌^◌, ℕ, true, All, List, map, take, length, get_or, is_some, refl, sym, ◌∙◌, ap, subst, arith}
use Rattle.std.proofs.lemmas.List.{take_more, take_all}
use Rattle.std.proofs.lemmas.List.Elements.{All-push}
use Rattle.sg_base.specs.declared.file.Listed.{Listed}
use Rattle.sg_pages.specs.Shelves.{FileAt, Shelved, stands, IsFilled}
use Rattle.sg_pages.specs.declared.page_set.TheConstants.{MAX_PAGES}
use Rattle.sg_staging.specs.Staged.{Staged, stands_as, chosen, whole_files, pages_of_files}
use Rattle.sg_staging.proofs.ChoiceLemmas.{chosen_more, chosen_room}
use Rattle.sg_staging.proofs.staging.Staging.choose.Goals as goal

pub loop-file-init : goal.loop-file-init
loop-file-init c = record {
  filled = subst IsFilled (sym c.clear.ensures) refl;
  stands_are = ap stands c.clear.ensures;
  count = ap (λ (k : Shelved). length k.files) c.clear.ensures;
  ids = λ k d lt. absurd (omega (arith, lt));
}

pub loop-file-preserved : goal.loop-file-preserved
loop-file-preserved c =
    let i : ℕ = c.loop-file.file-index in
    let files : List Listed = c.args.files.now in
    let current = c.args.current.now in
    let d : Listed = record { media = record { 0 = 0 }; length = 0; md5 = [] } in
    let f : Listed = get_or files i d in
    let whole : List FileAt = whole_files current c.args.self.now in
    let one : chosen (stands current ++ stands c.self.inside.sealed) f ≡ chosen whole f = ap (λ (k : Staged). chosen (stands current ++ stands k.sealed) f) c.self.view_is in
    record {
      filled = c.put_whole.ensures.filled;
      stands_are = c.put_whole.ensures.stands ∙ ap (λ (x : FileAt). stands c.loop-file.next ++ x ∷ []) one ∙ ap (λ (l : List FileAt). l ++ chosen whole f ∷ []) c.loop-file.invariant.stands_are ∙ sym (chosen_more whole files i d c.loop-file-test.true);
      count = omega (arith, c.put_whole.ensures.few, c.loop-file.invariant.count);
      ids = subst (All (λ (x : Listed). x.media.0 < 2 ^ 32)) (sym (take_more files i d c.loop-file-test.true)) (All-push (λ (x : Listed). x.media.0 < 2 ^ 32) (take i files) f c.loop-file.invariant.ids c.put_whole.ensures.id);
    }

pub put_whole-requires-clause-few : goal.put_whole-requires-clause-few
put_whole-requires-clause-few c = omega (arith, c.loop-file.invariant.count, c.requires.few, c.loop-file-test.true)

pub put_whole-requires-clause-filled : goal.put_whole-requires-clause-filled
put_whole-requires-clause-filled c = c.loop-file.invariant.filled

pub put_whole-requires-clause-pages : goal.put_whole-requires-clause-pages
put_whole-requires-clause-pages c =
    let i : ℕ = c.loop-file.file-index in
    let files : List Listed = c.args.files.now in
    let current = c.args.current.now in
    let d : Listed = record { media = record { 0 = 0 }; length = 0; md5 = [] } in
    let next = c.loop-file.next in
    subst (λ (s : Staged). length (pages_of_files (stands next ++ chosen (stands current ++ stands s.sealed) (get_or files i d) ∷ [])) ≤ MAX_PAGES) (sym c.self.view_is) (chosen_room (whole_files current c.args.self.now) (stands next) files i MAX_PAGES d c.loop-file-test.true c.loop-file.invariant.stands_are c.requires.pages)

pub put_whole-requires-clause-held : goal.put_whole-requires-clause-held
put_whole-requires-clause-held c =
    let i : ℕ = c.loop-file.file-index in
    let current = c.args.current.now in
    let d : Listed = record { media = record { 0 = 0 }; length = 0; md5 = [] } in
    subst (λ (s : Staged). is_some (stands_as (stands current ++ stands s.sealed) (get_or c.args.files.now i d)) ≡ true) (sym c.self.view_is) (c.requires.held i d c.loop-file-test.true)

pub returns-clause-stands : goal.returns-clause-stands
returns-clause-stands c =
    let whole : List FileAt = whole_files c.args.current.now c.args.self.now in
    c.loop-file.invariant.stands_are ∙ ap (map (chosen whole)) (take_all c.loop-file.file-index c.args.files.now (omega (arith, c.loop-file-test.false)))
