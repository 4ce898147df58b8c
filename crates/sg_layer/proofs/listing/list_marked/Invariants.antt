use Rattle.std.proofs.Common.{◌≡◌, ◌≤◌, drop, vec_len, vec_capacity}
use Rattle.sg_voice.specs.Hour.{total}
use Rattle.sg_layer.specs.Front.{plays_of_marked, Leads}
use Rattle.sg_layer.proofs.listing.list_marked.Given as goal

abbrev pub invariant-loop-i : goal.invariant-loop-i
invariant-loop-i l = record {
  items : Leads l.plays.items (plays_of_marked l.top (drop l.i l.marks) (drop l.i l.entries)) (plays_of_marked l.top l.marks l.entries);
  seconds : l.seconds ≡ total l.plays.items;
  few : vec_len l.plays ≤ l.seconds;
  room : 3600 ≤ vec_capacity l.plays;
}
