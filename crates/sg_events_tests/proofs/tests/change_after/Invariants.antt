use Rattle.sg_events_tests.proofs.tests.change_after.Given as goal

abbrev pub ghosts-change_by : goal.ghosts-change_by
ghosts-change_by a = record { name = a.blank.name; parts = a.blank.parts }
