use Rattle.std.proofs.Common.{◌≡◌, ◌++◌, filter, drop}
use Rattle.sg_layer.specs.Kinds.{is_of}
use Rattle.sg_layer.proofs.kind.chosen.Given as goal

abbrev pub invariant-loop-event : goal.invariant-loop-event
invariant-loop-event l = l.chosen.items ++ filter (is_of l.kind) (drop l.event-index l.events) ≡ filter (is_of l.kind) l.events
