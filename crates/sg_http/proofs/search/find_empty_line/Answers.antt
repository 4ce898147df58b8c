use Rattle.std.proofs.Common.{◌≤◌, ◌∙◌, true, length, drop, refl, arith}
use Rattle.std.proofs.lemmas.List.{take_rest}
use Rattle.sg_http.specs.Search.{BeginsWith}
use Rattle.sg_http.specs.declared.search.Line.TheVariants.{Full, Open}
use Rattle.sg_http.specs.declared.search.Search.TheVariants.{GoesOn}
use Rattle.sg_http.proofs.SearchLemmas.{full_passed, open_left, search_goes_on, stands_at_end}
use Rattle.sg_http.proofs.search.find_empty_line.Goals as goal

pub returns-in-Open : goal.returns-in-Open
returns-in-Open c =
    let bytes = c.args.bytes.now in
    let at = c.loop-at.at in
    let left : BeginsWith (drop at bytes) Open = rw take_rest at c.in-Open.ensures in
    search_goes_on bytes true true c.args.from at (GoesOn (record { at = at; begun = true })) c.loop-at.invariant
    (let within : at ≤ length bytes = omega arith in (within, open_left bytes at left, λ more. refl))

pub loop-at-preserved : goal.loop-at-preserved
loop-at-preserved c more =
    let bytes = c.args.bytes.now in
    let at = c.loop-at.at in
    let full : BeginsWith (drop at bytes) Full = rw take_rest at c.in-Full.ensures in
    c.loop-at.invariant more ∙ full_passed bytes at (omega arith) full more

pub returns : goal.returns
returns c =
    let bytes = c.args.bytes.now in
    search_goes_on bytes true true c.args.from c.loop-at.at (GoesOn (record { at = length bytes; begun = true }))
    c.loop-at.invariant (stands_at_end true bytes c.loop-at.at (omega arith))
