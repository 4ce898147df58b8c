use Rattle.std.proofs.Common.{Bool, true, false, length, sym, subst, arith}
use Rattle.sg_http.specs.Search.{Searches}
use Rattle.sg_http.specs.declared.search.Search.{Search}
use Rattle.sg_http.specs.declared.search.Search.TheVariants.{GoesOn}
use Rattle.sg_http.proofs.SearchLemmas.{search_goes_on, stands_at_end}
use Rattle.sg_http.proofs.search.find_head_end.Goals as goal

pub returns-then-at-bytes : goal.returns-then-at-bytes
returns-then-at-bytes c =
    let bytes = c.args.bytes.now in
    let from = c.args.from.at in
    let at = c.skip_newlines-at.result in
    let end : Search = GoesOn (record { at = length bytes; begun = false }) in
    let found = search_goes_on bytes false false from at end c.skip_newlines-at.ensures.passed (stands_at_end false bytes at (omega arith)) in
    let P : Bool → Type 0 = λ b. Searches bytes b from (GoesOn (record { at = at; begun = false })) in
    subst P (sym c.if-from.false) (rw c.if-at-bytes.true found)

pub returns : goal.returns
returns c =
    let bytes = c.args.bytes.now in
    let from = c.args.from.at in
    let at = c.skip_newlines-at.result in
    let s = c.find_empty_line-2.result in
    let begun = c.skip_newlines-at.ensures.begun (omega arith) in
    let later = search_goes_on bytes false true at at s begun c.find_empty_line-2.ensures in
    let found = search_goes_on bytes false false from at s c.skip_newlines-at.ensures.passed later in
    let P : Bool → Type 0 = λ b. Searches bytes b from s in
    subst P (sym c.if-from.false) found
