use Rattle.std.proofs.Common.{◌≡◌, ◌∙◌, List, ap, rules, tests, filter}
use Rattle.std.specs.List.{list_any}
use Rattle.std.proofs.lemmas.Fn.{filter_same}
use Rattle.sg_base.specs.declared.file.Listed.{Listed}
use Rattle.sg_placing.specs.Placing.{same_file}
use Rattle.sg_placing.specs.declared.placed.Placed.{Placed}
use Rattle.sg_placing.proofs.shelf.Shelf.keep.Goals as goal

pub returns : goal.returns
returns c =
    let kept : c.retain.new.self.items ≡ filter (λ (p : Placed). list_any (λ (f : Listed). same_file f p.file) c.args.files.now) c.self.inside.files.items = filter_same _ _ _ (λ x b f' k. search rules) _ _ c.retain.ensures.filtered in
    kept ∙ ap (λ (l : List Placed). filter (λ (p : Placed). list_any (λ (f : Listed). same_file f p.file) c.args.files.now) l) c.self.view_is
