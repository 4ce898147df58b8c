use Rattle.std.proofs.Common.{◌≡◌, ℕ, List, ◌∙◌, take, subst, arith}
use Rattle.std.proofs.lemmas.List.{take_all}
use Rattle.sg_base.specs.declared.limits.TheConstants.{MAX_HEAD}
use Rattle.sg_http.specs.Search.{Searches, IsSearched}
use Rattle.sg_http.specs.declared.search.Search.TheVariants.{Ended, GoesOn}
use Rattle.sg_http.proofs.JudgeLemmas.{front_is, known_front, end_found, none_found, opens_long}
use Rattle.sg_http.proofs.next.look_at.Goals as goal

pub find_head_end-requires : goal.find_head_end-requires
find_head_end-requires c = rw (front_is c.args.stream.now c.min.result MAX_HEAD c.min.ensures) (known_front c.args.stream.now c.args.from c.requires).0

pub read_head-requires-clause-end : goal.read_head-requires-clause-end
read_head-requires-clause-end c =
    let front = front_is c.args.stream.now c.min.result MAX_HEAD c.min.ensures in
    let P : List ℕ → Type 0 = λ bytes. Searches bytes c.args.from.begun c.args.from.at (Ended c.in-Ended.end) in
    end_found (take MAX_HEAD c.args.stream.now) c.args.from c.in-Ended.end (known_front c.args.stream.now c.args.from c.requires) (subst P front c.in-Ended.ensures)

pub returns-then-stream-lt-MAX_HEAD : goal.returns-then-stream-lt-MAX_HEAD
returns-then-stream-lt-MAX_HEAD c =
    let stream = c.args.stream.now in
    let front = front_is stream c.min.result MAX_HEAD c.min.ensures in
    let all : take MAX_HEAD stream ≡ stream = take_all MAX_HEAD stream (omega arith) in
    let P : List ℕ → Type 0 = λ bytes. Searches bytes c.args.from.begun c.args.from.at (GoesOn c.in-GoesOn.progress) in
    let Q : List ℕ → Type 0 = λ bytes. IsSearched bytes c.args.from in
    let none = none_found stream c.args.from c.in-GoesOn.progress (subst Q all (known_front stream c.args.from c.requires)) (subst P (front ∙ all) c.in-GoesOn.ensures) in
    (c.if-stream-lt-MAX_HEAD.true, none.1, none.0)

pub returns-else-stream-lt-MAX_HEAD : goal.returns-else-stream-lt-MAX_HEAD
returns-else-stream-lt-MAX_HEAD c =
    let stream = c.args.stream.now in
    let front = front_is stream c.min.result MAX_HEAD c.min.ensures in
    let P : List ℕ → Type 0 = λ bytes. Searches bytes c.args.from.begun c.args.from.at (GoesOn c.in-GoesOn.progress) in
    let none = none_found (take MAX_HEAD stream) c.args.from c.in-GoesOn.progress (known_front stream c.args.from c.requires) (subst P front c.in-GoesOn.ensures) in
    (opens_long stream c.if-stream-lt-MAX_HEAD.false none.0, tt, λ same. cc)
