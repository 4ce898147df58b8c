use Rattle.sg_events_tests.proofs.tests.is_active.Given as goal

abbrev pub ghosts-active_by : goal.ghosts-active_by
ghosts-active_by a = record { name = a.blank.name; parts = a.blank.parts }
