use Rattle.std.proofs.Common.{◌≡◌, ◌≤◌, ◌-◌, drop}
use Rattle.sg_journal.specs.Ready.{epoch_of, next_of, oldest_of, plays_of}
use Rattle.sg_journal.proofs.journal.Journal.acknowledged.Given as goal

abbrev pub invariant-loop : goal.invariant-loop
invariant-loop l = record {
  counted : l.self.first ≡ l.counter;
  begun : l.initial.self.first ≤ l.self.first;
  within : l.self.first ≤ l.next;
  oldest : oldest_of l.self ≡ oldest_of l.initial.self;
  epoch : epoch_of l.self ≡ epoch_of l.initial.self;
  next : next_of l.self ≡ next_of l.initial.self;
  plays : plays_of l.self ≡ drop (l.self.first - l.initial.self.first) (plays_of l.initial.self);
}
