use Rattle.std.proofs.Common.{rules, tests, ℕ, List, ◌∙◌}
use Rattle.std.proofs.lemmas.Iterator.{YieldsList-from_slice}
use Rattle.std.proofs.lemmas.Iterator.Search.{any_from_yields_List}
use Rattle.clap.proofs.WalkLemmas.{list_any-map}
use denote.Ref.{Bor}
use Rattle.sg_words.specs.Options.{is_option}
use Rattle.sg_words.proofs.options.is_among.Goals as goal

pub returns : goal.returns
returns c =
    any_from_yields_List (λ (n : Bor (List ℕ)). is_option c.args.word.now n.now) _ _ _ c.any.ensures.ran (YieldsList-from_slice c.args.names.now cc) (λ x b q k. search (rules, tests))
    ∙ list_any-map (is_option c.args.word.now) (λ (n : Bor (List ℕ)). n.now) c.args.names.now
