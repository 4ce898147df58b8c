use Rattle.std.proofs.Common.{◌≡◌, IfOk, List, ℕ, Some, codes, ◌∙◌, subst}
use Rattle.sg_exchange.specs.Requests.{display_path}
use Rattle.sg_http.specs.declared.message.Verb.TheVariants.{Post}
use Rattle.sg_http.specs.Texts.{request_text}
use Rattle.sg_exchange.proofs.asker.Asker.batch_request.Goals as goal

pub returns : goal.returns
returns c =
    subst (λ (b : List ℕ). IfOk c.request.result (λ text. text.items ≡ request_text Post (display_path c.args.self.now.display (codes "/plays")) c.args.self.now.key (Some b)))
    (c.as_slice.ensures.value ∙ c.in_ok-body.ensures) c.request.ensures
