use Rattle.std.proofs.Common.{rules, tests, ℕ, List, map, sym, string_bytes, ◌∙◌}
use Rattle.std.specs.declared.alloc.Global.{Global}
use Rattle.std.specs.declared.string.String.{String}
use Rattle.std.proofs.lemmas.Iterator.{YieldsList-from_slice}
use Rattle.std.proofs.lemmas.Iterator.Search.{all_from_yields_List}
use Rattle.std.proofs.lemmas.List.Folds.{list_all-map}
use Rattle.sg_words.specs.Options.{is_apart}
use Rattle.sg_words.proofs.options.are_apart.Goals as goal

pub returns : goal.returns
returns c =
    let test = is_apart (map (λ n. n.now) c.args.required.now) (map (λ n. n.now) c.args.optional.now) in
    all_from_yields_List (λ (w : String Global). test (string_bytes w)) _ _ _ c.all.ensures.ran (YieldsList-from_slice c.args.words.now cc) (λ x b q k. search (rules, tests))
    ∙ sym (list_all-map test (λ (w : String Global). string_bytes w) c.args.words.now)
