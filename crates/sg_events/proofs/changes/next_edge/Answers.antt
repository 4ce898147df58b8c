use Rattle.sg_events.proofs.changes.next_edge.Goals as goal

pub returns-in-Custom : goal.returns-in-Custom
returns-in-Custom c = rw (← c.in-Custom.ensures.value) (rw c.repeat.ensures.value at c.next_of_runs.ensures)
