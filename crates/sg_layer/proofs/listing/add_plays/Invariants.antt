use Rattle.std.proofs.Common.{◌≡◌, ◌≤◌, ◌++◌, List, drop, vec_len, vec_capacity}
use Rattle.sg_voice.specs.declared.play.Play.{Play}
use Rattle.sg_voice.specs.Hour.{total}
use Rattle.sg_layer.specs.Front.{Leads}
use Rattle.sg_layer.proofs.listing.add_plays.Given as goal

abbrev pub invariant-loop-play : goal.invariant-loop-play
invariant-loop-play l = record {
  items : (next all : List Play) → Leads l.fn.plays.items (l.added ++ next) all → Leads l.plays.items (drop l.play-index l.added ++ next) all;
  seconds : l.seconds ≡ total l.plays.items;
  few : vec_len l.plays ≤ l.seconds;
  room : 3600 ≤ vec_capacity l.plays;
}
