use Rattle.std.proofs.Common.{◌≡◌, ℕ, List, None, inr, sym, ◌∙◌, ap, arith}
use Rattle.std.proofs.lemmas.Result.{IfOk-weaker, on_ok_weaker, err_from_is_err_and}
use Rattle.sg_paged_slots.specs.declared.headers.Header.{Header}
use Rattle.sg_disk.specs.View.{range, Same}
use Rattle.sg_disk.proofs.Moments.{ran_one, ran_joined, ran_broke, ran_fewer, broke_one}
use Rattle.sg_paged_slots.specs.Headers.{any_header_damage, header_at}
use Rattle.sg_paged_slots.proofs.HeadLemmas.{head_gate, head_version, head_same, head_all}
use Rattle.sg_slots.proofs.RefusalLemmas.{ended_checked, size_told}
use Rattle.sg_paged_slots.proofs.headers.read_any_header.Goals as goal

pub returns-then-bytes-ne1-clause-unformatted : goal.returns-then-bytes-ne1-clause-unformatted
returns-then-bytes-ne1-clause-unformatted g c is = inr (λ told opened.
    let here = c.in_ok-sync.ensures.passed.told told in
    let there = c.in_ok-size.ensures.passed.told here in
    let bytes = c.in_ok-size.ensures.passed.bytes here ∙ c.in_ok-sync.ensures.passed.bytes told in
    let head : c.read.new.into ≡ range (g.D.Disk.view c.args.disk.now).bytes 0 40 = c.in_ok-read.ensures.ok there ∙ ap (λ (b : List ℕ). range b 0 40) bytes in
    c.if-bytes-ne1.true (head_gate (g.D.Disk.view c.args.disk.now).bytes c.read.new.into head ∙ opened))

pub returns-clause-damaged : goal.returns-clause-damaged
returns-clause-damaged g c place found is told =
    let here = c.in_ok-sync.ensures.passed.told told in
    let there = c.in_ok-size.ensures.passed.told here in
    let bytes = c.in_ok-size.ensures.passed.bytes here ∙ c.in_ok-sync.ensures.passed.bytes told in
    let head : c.read.new.into ≡ range (g.D.Disk.view c.args.disk.now).bytes 0 40 = c.in_ok-read.ensures.ok there ∙ ap (λ (b : List ℕ). range b 0 40) bytes in
    let size : c.in_ok-size.size ≡ (g.D.Disk.view c.read.new.self).size = c.in_ok-size.ensures.ok ∙ sym c.read.ensures.size in
    ap (λ (n : ℕ). any_header_damage n (g.D.Disk.view c.args.disk.now).bytes) (sym size) ∙ sym (head_same c.in_ok-size.size (g.D.Disk.view c.args.disk.now).bytes c.read.new.into head) ∙ c.check_any_header.ensures.damaged place found is

pub returns-clause-sound : goal.returns-clause-sound
returns-clause-sound g c = on_ok_weaker c.check_any_header.result (λ sound told.
    let here = c.in_ok-sync.ensures.passed.told told in
    let there = c.in_ok-size.ensures.passed.told here in
    let bytes = c.in_ok-size.ensures.passed.bytes here ∙ c.in_ok-sync.ensures.passed.bytes told in
    let head : c.read.new.into ≡ range (g.D.Disk.view c.args.disk.now).bytes 0 40 = c.in_ok-read.ensures.ok there ∙ ap (λ (b : List ℕ). range b 0 40) bytes in
    let size : c.in_ok-size.size ≡ (g.D.Disk.view c.read.new.self).size = c.in_ok-size.ensures.ok ∙ sym c.read.ensures.size in
    ap (λ (n : ℕ). any_header_damage n (g.D.Disk.view c.args.disk.now).bytes) (sym size) ∙ sym (head_same c.in_ok-size.size (g.D.Disk.view c.args.disk.now).bytes c.read.new.into head) ∙ sound) c.check_any_header.ensures.sound

pub returns-clause-formatted : goal.returns-clause-formatted
returns-clause-formatted g c = on_ok_weaker c.check_any_header.result (λ (sound : any_header_damage c.in_ok-size.size c.read.new.into ≡ None) told.
    let here = c.in_ok-sync.ensures.passed.told told in
    let there = c.in_ok-size.ensures.passed.told here in
    let bytes = c.in_ok-size.ensures.passed.bytes here ∙ c.in_ok-sync.ensures.passed.bytes told in
    let head : c.read.new.into ≡ range (g.D.Disk.view c.args.disk.now).bytes 0 40 = c.in_ok-read.ensures.ok there ∙ ap (λ (b : List ℕ). range b 0 40) bytes in
    sym (head_gate (g.D.Disk.view c.args.disk.now).bytes c.read.new.into head) ∙ c.if-bytes-ne1.false) c.check_any_header.ensures.sound

pub returns-in_err-sync-clause-ended : goal.returns-in_err-sync-clause-ended
returns-in_err-sync-clause-ended g c = let p = err_from_is_err_and c.from_residual.result c.from_residual.ensures.1 in rw (p.1, p.2) (broke_one Same (g.D.Disk.view c.args.disk.now) (g.D.Disk.view c.sync.new.self) c.in_err-sync.ensures.failed)

pub returns-in_err-size-clause-ended : goal.returns-in_err-size-clause-ended
returns-in_err-size-clause-ended g c =
    let v = g.D.Disk.view c.args.disk.now in
    let a = g.D.Disk.view c.sync.new.self in
    let b = g.D.Disk.view c.len.new.self in
    let p = err_from_is_err_and c.from_residual-in_err-size.result c.from_residual-in_err-size.ensures.1 in
    rw (p.1, p.2) (ran_broke 1 v a b (ran_one Same Same v a c.in_ok-sync.ensures.passed) (broke_one Same a b c.in_err-size.ensures.failed))

pub returns-then-size-lt-DATA-clause-ended : goal.returns-then-size-lt-DATA-clause-ended
returns-then-size-lt-DATA-clause-ended g c =
    let v = g.D.Disk.view c.args.disk.now in
    let a = g.D.Disk.view c.sync.new.self in
    let b = g.D.Disk.view c.len.new.self in
    ran_fewer 2 0 v b (omega arith) (ran_joined 1 1 v a b (ran_one Same Same v a c.in_ok-sync.ensures.passed) (ran_one Same Same a b c.in_ok-size.ensures.passed))

pub returns-in_err-read-clause-ended : goal.returns-in_err-read-clause-ended
returns-in_err-read-clause-ended g c =
    let v = g.D.Disk.view c.args.disk.now in
    let a = g.D.Disk.view c.sync.new.self in
    let b = g.D.Disk.view c.len.new.self in
    let w = g.D.Disk.view c.read.new.self in
    let p = err_from_is_err_and c.from_residual-in_err-read.result c.from_residual-in_err-read.ensures.1 in
    rw (p.1, p.2) (ran_broke 2 v b w (ran_joined 1 1 v a b (ran_one Same Same v a c.in_ok-sync.ensures.passed) (ran_one Same Same a b c.in_ok-size.ensures.passed)) (broke_one Same b w c.in_err-read.ensures.failed))

pub returns-then-bytes-ne1-clause-ended : goal.returns-then-bytes-ne1-clause-ended
returns-then-bytes-ne1-clause-ended g c =
    let v = g.D.Disk.view c.args.disk.now in
    let a = g.D.Disk.view c.sync.new.self in
    let b = g.D.Disk.view c.len.new.self in
    let w = g.D.Disk.view c.read.new.self in
    ran_fewer 3 0 v w (omega arith) (ran_joined 2 1 v b w (ran_joined 1 1 v a b (ran_one Same Same v a c.in_ok-sync.ensures.passed) (ran_one Same Same a b c.in_ok-size.ensures.passed)) (ran_one Same Same b w c.in_ok-read.ensures.passed))

pub returns-clause-ended : goal.returns-clause-ended
returns-clause-ended g c =
    let v = g.D.Disk.view c.args.disk.now in
    let a = g.D.Disk.view c.sync.new.self in
    let b = g.D.Disk.view c.len.new.self in
    let w = g.D.Disk.view c.read.new.self in
    ended_checked Header c.check_any_header.result v w c.check_any_header.ensures.only (ran_fewer 3 0 v w (omega arith) (ran_joined 2 1 v b w (ran_joined 1 1 v a b (ran_one Same Same v a c.in_ok-sync.ensures.passed) (ran_one Same Same a b c.in_ok-size.ensures.passed)) (ran_one Same Same b w c.in_ok-read.ensures.passed)))

pub returns-then-size-lt-DATA-clause-told_size : goal.returns-then-size-lt-DATA-clause-told_size
returns-then-size-lt-DATA-clause-told_size g c told = size_told (g.D.Disk.view c.sync.new.self) (g.D.Disk.view c.len.new.self) c.in_ok-size.ensures.passed (c.in_ok-sync.ensures.passed.told told) ∙ c.sync.ensures.size

pub returns-in_err-read-clause-told_size : goal.returns-in_err-read-clause-told_size
returns-in_err-read-clause-told_size g c told = c.read.ensures.size ∙ size_told (g.D.Disk.view c.sync.new.self) (g.D.Disk.view c.len.new.self) c.in_ok-size.ensures.passed (c.in_ok-sync.ensures.passed.told told) ∙ c.sync.ensures.size

pub returns-then-bytes-ne1-clause-told_size : goal.returns-then-bytes-ne1-clause-told_size
returns-then-bytes-ne1-clause-told_size g c told = c.read.ensures.size ∙ size_told (g.D.Disk.view c.sync.new.self) (g.D.Disk.view c.len.new.self) c.in_ok-size.ensures.passed (c.in_ok-sync.ensures.passed.told told) ∙ c.sync.ensures.size

pub returns-clause-told_size : goal.returns-clause-told_size
returns-clause-told_size g c told = c.read.ensures.size ∙ size_told (g.D.Disk.view c.sync.new.self) (g.D.Disk.view c.len.new.self) c.in_ok-size.ensures.passed (c.in_ok-sync.ensures.passed.told told) ∙ c.sync.ensures.size

pub returns-clause-opened : goal.returns-clause-opened
returns-clause-opened g c place found is told =
    let here = c.in_ok-sync.ensures.passed.told told in
    let there = c.in_ok-size.ensures.passed.told here in
    let bytes = c.in_ok-size.ensures.passed.bytes here ∙ c.in_ok-sync.ensures.passed.bytes told in
    let head : c.read.new.into ≡ range (g.D.Disk.view c.args.disk.now).bytes 0 40 = c.in_ok-read.ensures.ok there ∙ ap (λ (b : List ℕ). range b 0 40) bytes in
    sym (head_gate (g.D.Disk.view c.args.disk.now).bytes c.read.new.into head) ∙ c.if-bytes-ne1.false

pub returns-clause-header : goal.returns-clause-header
returns-clause-header g c = IfOk-weaker c.check_any_header.result (λ (h : Header). h ≡ header_at c.read.new.into) (λ (h : Header). (g.D.Disk.view c.args.disk.now).told → h ≡ header_at (g.D.Disk.view c.args.disk.now).bytes) (λ h is told.
    let here = c.in_ok-sync.ensures.passed.told told in
    let there = c.in_ok-size.ensures.passed.told here in
    let bytes = c.in_ok-size.ensures.passed.bytes here ∙ c.in_ok-sync.ensures.passed.bytes told in
    let head : c.read.new.into ≡ range (g.D.Disk.view c.args.disk.now).bytes 0 40 = c.in_ok-read.ensures.ok there ∙ ap (λ (b : List ℕ). range b 0 40) bytes in
    is ∙ head_all (g.D.Disk.view c.args.disk.now).bytes c.read.new.into head) c.check_any_header.ensures.header

pub returns-clause-byte : goal.returns-clause-byte
returns-clause-byte g c place found is told =
    let here = c.in_ok-sync.ensures.passed.told told in
    let there = c.in_ok-size.ensures.passed.told here in
    let bytes = c.in_ok-size.ensures.passed.bytes here ∙ c.in_ok-sync.ensures.passed.bytes told in
    let head : c.read.new.into ≡ range (g.D.Disk.view c.args.disk.now).bytes 0 40 = c.in_ok-read.ensures.ok there ∙ ap (λ (b : List ℕ). range b 0 40) bytes in
    omega (arith, head_version (g.D.Disk.view c.args.disk.now).bytes c.read.new.into head, c.check_any_header.ensures.byte)
