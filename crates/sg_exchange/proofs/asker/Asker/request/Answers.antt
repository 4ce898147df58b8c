use Rattle.std.proofs.Common.{◌≡◌, IfOk, List, ℕ, ap, ◌∙◌, subst}
use Rattle.std.specs.Option.{option_copied}
use Rattle.sg_exchange.specs.Asking.{Caller}
use Rattle.sg_exchange.specs.Requests.{display_path}
use Rattle.sg_http.specs.Texts.{request_text}
use Rattle.sg_exchange.proofs.asker.Asker.request.Goals as goal

pub returns : goal.returns
returns c =
    let path : c.as_slice.result.now ≡ display_path c.args.self.now.display c.args.part.now =
    c.as_slice.ensures.value ∙ c.in_ok-path.ensures ∙ ap (λ (v : Caller). display_path v.display c.args.part.now) c.self.view_is in
    let key : c.as_slice-2.result.now ≡ c.args.self.now.key = c.as_slice-2.ensures.value ∙ ap (λ (v : Caller). v.key) c.self.view_is in
    subst (λ (k : List ℕ). IfOk c.request_bytes.result (λ text. text.items ≡ request_text c.args.verb (display_path c.args.self.now.display c.args.part.now) k (option_copied c.args.body))) key
    (subst (λ (p : List ℕ). IfOk c.request_bytes.result (λ text. text.items ≡ request_text c.args.verb p c.as_slice-2.result.now (option_copied c.args.body))) path c.request_bytes.ensures)
