use Rattle.std.proofs.Common.{◌≡◌, ◌≢◌, ◌≤◌, ◌<◌, ap, arith, refl, []}
use Rattle.std.proofs.lemmas.Bool.Decides.{nat_tests}
use Rattle.sg_lines.specs.Reading.{Reader, side}
use Rattle.sg_lines.proofs.ReadLemmas.{one_taken, waits_now}
use Rattle.sg_lines.proofs.lines.Lines.take_more.Goals as goal

pub returns-then-self : goal.returns-then-self
returns-then-self g c =
    let few : c.in-Ok.count ≤ 1 = grind (arith, nat_tests, c.in-Ok.ensures.bytes.0, c.take.auto.into, c.min.ensures, c.max-room.ensures, c.if-self.true) in
    let other : c.in-Ok.count ≢ 0 = c.in-Ok.count-test.1 in
    let some : 0 < c.in-Ok.count = omega arith in
    let one = one_taken _ _ c.in-Ok.count c.take.new.into some few c.in-Ok.ensures.bytes.0 c.in-Ok.ensures.bytes.1 in
    let bound : c.args.self.now.taken ≤ c.args.self.now.limit =
    omega (arith, ap (λ (r : Reader). r.taken) c.self.view_is, ap (λ (r : Reader). r.limit) c.self.view_is, c.self.invariant) in
    let start = side g.S.Ends.left g.S.Ends.take_faults c.args.source.now in
    record {
      early = c.requires.early;
      cause = (
        c.args.self.now,
        record {
          bytes = [];
          between = start;
          waits = waits_now start c.args.self.now bound c.requires.feeds c.requires.few;
          full = cc (ap (λ (r : Reader). r.taken) c.self.view_is, ap (λ (r : Reader). r.limit) c.self.view_is);
          more = one.0;
          came = one.1;
        },
      );
      quiet = λ _. c.in-Ok.ensures.cause.kept;
    }

pub returns-in-Err : goal.returns-in-Err
returns-in-Err g c =
    let bound : c.args.self.now.taken ≤ c.args.self.now.limit =
    omega (arith, ap (λ (r : Reader). r.taken) c.self.view_is, ap (λ (r : Reader). r.limit) c.self.view_is, c.self.invariant) in
    let start = side g.S.Ends.left g.S.Ends.take_faults c.args.source.now in
    record {
      early = c.requires.early;
      cause = (
        c.args.self.now,
        record {
          bytes = [];
          between = start;
          waits = waits_now start c.args.self.now bound c.requires.feeds c.requires.few;
          kept = c.in-Err.ensures.bytes;
          rose = c.in-Err.ensures.cause.failed;
        },
      );
      quiet = λ other. absurd (other refl);
    }
