use Rattle.std.proofs.Common.{◌∙◌}
use Rattle.sg_http.specs.Texts.{verb_name, length_lines, body_bytes}
use Rattle.std.specs.Option.{option_copied}
use Rattle.sg_http.proofs.TextLemmas.{request_made}
use Rattle.sg_http.proofs.request.request_bytes.Goals as goal

pub returns : goal.returns
returns c =
    request_made (verb_name c.args.verb) c.args.path.now c.args.key.now (length_lines (option_copied c.args.body))
    (body_bytes (option_copied c.args.body)) _ _ _ _ _ _ _ _ _ (c.in_ok-text.ensures.items ∙ c.verb_name.ensures.name)
    c.in_ok-extend_from_slice.ensures.items c.in_ok-extend_from_slice-2.ensures.items
    c.in_ok-extend_from_slice-3.ensures.items c.in_ok-extend_from_slice-4.ensures.items
    c.in_ok-extend_from_slice-5.ensures.items c.in_ok-push_length.ensures c.in_ok-extend_from_slice-6.ensures.items
    c.in_ok-push_body.ensures
